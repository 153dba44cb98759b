-- The lines of a live run.
use Rattle.std.specs.Prelude.{◌≡◌, ℕ, ◌<◌, ℤ, List, [], ◌∷◌, ◌++◌, length, take, Option, None, Some}
use Rattle.std.specs.Prelude.{Result, Ok, Err, IfErr, IfOk}
use Rattle.std.specs.Io.KnownBytes.{Appends}
use mathlib.Core.List.{IsPrefix}
use Rattle.spf_system.specs.Clock.{IsTime}
use Rattle.spf_feed.specs.Shown.{view_line}
use Rattle.spf_feed.specs.Steps.{StateView}
use Rattle.spiffe.specs.Passes.{Seen}
use Rattle.spiffe.specs.States.{IsStateOf}
use Rattle.spf_live.specs.declared.error.LiveError.{LiveError}
use Rattle.spf_live.specs.declared.error.LiveError.TheVariants as errors

-- what the clock has yet to give, where that is known
abbrev pub Moments : Type 0
Moments = Option (List (Option ℤ))

-- a list that was read, the state that it replays to, and the moment of its line
pub record Line : Type 0 where
  pub list : Seen
  pub state : StateView
  pub moment : Option ℤ

abbrev pub line_text : Line → List ℕ
line_text line = view_line line.state.view line.state.revision line.moment

-- ---- lines, the newest first

abbrev pub text_of : List Line → List ℕ
text_of [] = []
text_of (line ∷ earlier) = text_of earlier ++ line_text line

-- the list of the newest line; `first` where there is none
abbrev pub newest_list : Seen → List Line → Seen
newest_list first [] = first
newest_list first (line ∷ earlier) = line.list

abbrev pub newest_revision : List Line → Option ℕ
newest_revision [] = None
newest_revision (line ∷ earlier) = Some line.state.revision

abbrev pub IsAbove : Option ℕ → ℕ → Type 0
IsAbove None revision = Unit {0}
IsAbove (Some earlier) revision = earlier < revision

-- Each line shows the state of a legal list, which begins with the list of the line before it, and
-- its revision is greater than that of the line before it.
abbrev pub AreLines : Seen → List Line → Type 0
AreLines first [] = Unit {0}
AreLines first (line ∷ earlier) =
    IsStateOf line.list line.state.closed line.state
    × IsPrefix (newest_list first earlier) line.list
    × IsAbove (newest_revision earlier) line.state.revision
    × AreLines first earlier

-- the clock gave the moments of the lines, one after another
abbrev pub AreAt : Moments → List Line → Moments → Type 0
AreAt clock [] clock' = clock' ≡ clock
AreAt clock (line ∷ earlier) clock' =
    (between : Moments) × AreAt clock earlier between × IsTime between clock' line.moment

-- ---- what is printed

-- One more line is printed, of a state that was read of what the pass has seen, whose revision is
-- marked and above an earlier one. A failed sink may cut it; where memory runs out, none is
-- printed.
pub record IsNext (seen : Seen) (marked : ℕ) (earlier : Option ℕ) (clock clock' : Moments)
    (line : Line) : Type 0 where
  pub list_is : line.list ≡ seen
  pub state_is : IsStateOf line.list line.state.closed line.state
  pub marked_is : line.state.revision ≡ marked
  pub above : IsAbove earlier line.state.revision
  pub at : IsTime clock clock' line.moment

abbrev pub PrintsLine : Seen → ℕ → Option ℕ → Moments → Moments → Option (List ℕ)
    → Option (List ℕ) → Result (Unit {0}) LiveError → Type 0
PrintsLine seen marked earlier clock clock' held held' (Ok done) =
    (line : Line) × IsNext seen marked earlier clock clock' line
    × Appends held held' (line_text line)
PrintsLine seen marked earlier clock clock' held held' (Err errors.WriteFailed) =
    (line : Line) × IsNext seen marked earlier clock clock' line
    × (count : ℕ) × Appends held held' (take count (line_text line))
PrintsLine seen marked earlier clock clock' held held' (Err errors.OutOfMemory) = held' ≡ held
PrintsLine seen marked earlier clock clock' held held' (Err e) = ⊥

-- Once a line is printed, only memory or the output is a reason to fail.
abbrev pub FailsAfter : List Line → LiveError → Type 0
FailsAfter lines errors.OutOfMemory = Unit {0}
FailsAfter lines errors.WriteFailed = Unit {0}
FailsAfter lines e = lines ≡ []

-- Lines are printed and nothing else, at moments that the clock gave; what is seen last begins with
-- the list of each. Where all went well they are as many as were asked for. A failed sink may cut
-- the last one.
pub record Prints (first last : Seen) (count : ℕ) (clock clock' : Moments)
    (held held' : Option (List ℕ)) (r : Result (Unit {0}) LiveError) : Type 0 where
  pub lines : List Line
  pub are : AreLines first lines
  pub seen : IsPrefix (newest_list first lines) last
  pub yielded : Moments
  pub at : AreAt clock lines yielded
  pub yielded_all : IfOk r (λ _. clock' ≡ yielded)
  pub number : IfOk r (λ _. length lines ≡ count)
  pub fails : IfErr r (FailsAfter lines)
  pub put : ℕ
  pub text : Appends held held' (take put (text_of lines))
  pub whole : (r ≡ Err errors.WriteFailed → ⊥) → take put (text_of lines) ≡ text_of lines

-- lines are printed of what has been seen in the end, from some list on
abbrev pub PrintsTo : Seen → ℕ → Moments → Moments → Option (List ℕ) → Option (List ℕ)
    → Result (Unit {0}) LiveError → Type 0
PrintsTo last count clock clock' held held' r =
    (first : Seen) × Prints first last count clock clock' held held' r

-- Lines that are printed so far: what is seen begins with the list of each, and an earlier revision
-- is that of the newest.
pub record Printed (first seen : Seen) (earlier : Option ℕ) (count : ℕ) (clock clock' : Moments)
    (held held' : Option (List ℕ)) : Type 0 where
  pub lines : List Line
  pub are : AreLines first lines
  pub newest : IsPrefix (newest_list first lines) seen
  pub revision : earlier ≡ newest_revision lines
  pub at : AreAt clock lines clock'
  pub text : Appends held held' (text_of lines)
  pub number : length lines ≡ count

-- after a first line, whatever that is, the others are printed, as many as are wanted
abbrev pub PrintsOn : Seen → ℕ → Seen → ℕ → Moments → Moments → Option (List ℕ)
    → Option (List ℕ) → Result (Unit {0}) LiveError → Type 0
PrintsOn seen marked last count clock clock' held held' r =
    (first : Seen) (start : Moments) (empty : Option (List ℕ))
    → Printed first seen (Some marked) 1 start clock empty held
    → Prints first last count start clock' empty held' r
