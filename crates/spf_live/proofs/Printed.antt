-- Lines that are printed one after another.
use Rattle.std.proofs.Common.{◌≡◌, sym, ap, ◌∙◌, refl, subst, ℕ, ◌+◌, List, [], ◌∷◌, ◌++◌, take}
use Rattle.std.proofs.Common.{length, append_assoc, Option, None, Some, Ok, Err, arith}
use Rattle.std.specs.Io.KnownBytes.{Appends}
use Rattle.std.proofs.KnownBytes.{Appends-trans, Appends-nil}
use Rattle.std.proofs.Math.Seq.{take-append-add, take-length}
use Rattle.std.proofs.lemmas.List.{append-nil}
use mathlib.Core.List.{IsPrefix}
use Rattle.std.specs.Prelude.{ℤ}
use Rattle.spf_system.specs.Clock.{IsTime}
use Rattle.spf_feed.specs.Shown.{view_line}
use Rattle.spf_feed.specs.Steps.{StateView}
use Rattle.spiffe.specs.States.{IsStateOf}
use Rattle.spf_live.specs.Printing.{AreLines, FailsAfter, IsAbove, IsNext, Line, Moments, Printed}
use Rattle.spf_live.specs.Printing.{Prints, PrintsLine, line_text, newest_list, newest_revision}
use Rattle.spiffe.specs.Passes.{Seen}
use Rattle.spf_live.specs.Printing.{text_of}
use Rattle.spf_live.specs.declared.error.LiveError.{LiveError}
use Rattle.spf_live.specs.declared.error.LiveError.TheVariants as errors

pub prefix_trans : {A : Type 0} (a b c : List A) → IsPrefix a b → IsPrefix b c → IsPrefix a c
prefix_trans a b c p q = (
  p.0 ++ q.0,
  sym (append_assoc a p.0 q.0) ∙ ap (λ l. l ++ q.0) p.1 ∙ q.1,
)

pub prefix_self : {A : Type 0} (a : List A) → IsPrefix a a
prefix_self a = ([], append-nil a)

unfoldable pub printed_none : (first : Seen) (clock : Moments) (held : Option (List ℕ))
    → Printed first first None 0 clock clock held held
printed_none first clock held = record {
  lines = [];
  are = tt;
  newest = prefix_self first;
  revision = refl;
  at = refl;
  text = Appends-nil held;
  number = refl;
}

follows_on : (first seen seen' : Seen) (earlier : Option ℕ) (marked : ℕ) (clock clock' : Moments)
    (lines : List Line) (line : Line) → AreLines first lines
    → IsPrefix (newest_list first lines) seen → earlier ≡ newest_revision lines
    → IsPrefix seen seen' → IsNext seen' marked earlier clock clock' line
    → AreLines first (line ∷ lines)
follows_on first seen seen' earlier marked clock clock' lines line are newest revision grows is = (
  is.state_is,
  subst (IsPrefix (newest_list first lines)) (sym is.list_is)
      (prefix_trans (newest_list first lines) seen seen' newest grows),
  subst (λ (o : Option ℕ). IsAbove o line.state.revision) revision is.above,
  are,
)

pub printed_more : (first seen seen' : Seen) (earlier : Option ℕ) (marked count : ℕ)
    (clock clock' clock'' : Moments) (held held' held'' : Option (List ℕ)) (done : Unit {0})
    → Printed first seen earlier count clock clock' held held' → IsPrefix seen seen'
    → PrintsLine seen' marked earlier clock' clock'' held' held'' (Ok done)
    → Printed first seen' (Some marked) (count + 1) clock clock'' held held''
printed_more first seen seen' earlier marked count clock clock' clock'' held held' held'' done
    so grows is =
    record {
      lines = is.0 ∷ so.lines;
      are = follows_on first seen seen' earlier marked clock' clock'' so.lines is.0 so.are so.newest
          so.revision grows is.1;
      newest = subst (λ (l : Seen). IsPrefix l seen') (sym is.1.list_is) (prefix_self seen');
      revision = ap Some (sym is.1.marked_is);
      at = (clock', so.at, is.1.at);
      text = Appends-trans held held' held'' (text_of so.lines) (line_text is.0) so.text is.2;
      number = omega (arith, so.number);
    }

-- all of a text is put
all_put : (held held' : Option (List ℕ)) (text : List ℕ) → Appends held held' text
    → Appends held held' (take (length text) text)
all_put held held' text put = subst (Appends held held') (sym (take-length text)) put

pub printed_all : (first seen : Seen) (earlier : Option ℕ) (number count : ℕ)
    (clock clock' : Moments) (held held' : Option (List ℕ)) → number ≡ count
    → Printed first seen earlier number clock clock' held held'
    → Prints first seen count clock clock' held held' (Ok tt)
printed_all first seen earlier number count clock clock' held held' all so = record {
  lines = so.lines;
  are = so.are;
  seen = so.newest;
  yielded = clock';
  at = so.at;
  yielded_all = refl;
  number = so.number ∙ all;
  fails = tt;
  put = length (text_of so.lines);
  text = all_put held held' (text_of so.lines) so.text;
  whole = λ _. take-length (text_of so.lines);
}

-- Nothing more is printed.
pub printed_nothing : (first seen seen' : Seen) (earlier : Option ℕ) (count number : ℕ)
    (clock clock' clock'' : Moments) (held held' held'' : Option (List ℕ)) (e : LiveError)
    (so : Printed first seen earlier number clock clock' held held') → IsPrefix seen seen'
    → held'' ≡ held' → FailsAfter so.lines e
    → Prints first seen' count clock clock'' held held'' (Err e)
printed_nothing first seen seen' earlier count number clock clock' clock'' held held' held'' e
    so grows same fails =
    record {
      lines = so.lines;
      are = so.are;
      seen = prefix_trans (newest_list first so.lines) seen seen' so.newest grows;
      yielded = clock';
      at = so.at;
      yielded_all = tt;
      number = tt;
      fails = fails;
      put = length (text_of so.lines);
      text = subst (λ (h : Option (List ℕ)). Appends held h (take (length (text_of so.lines))
          (text_of so.lines))) (sym same) (all_put held held' (text_of so.lines) so.text);
      whole = λ _. take-length (text_of so.lines);
    }

-- A line is cut.
pub printed_cut : (first seen seen' : Seen) (earlier : Option ℕ) (marked count number : ℕ)
    (clock clock' clock'' : Moments) (held held' held'' : Option (List ℕ))
    → Printed first seen earlier number clock clock' held held' → IsPrefix seen seen'
    → PrintsLine seen' marked earlier clock' clock'' held' held'' (Err errors.WriteFailed)
    → Prints first seen' count clock clock'' held held'' (Err errors.WriteFailed)
printed_cut first seen seen' earlier marked count number clock clock' clock'' held held' held''
    so grows is =
    record {
      lines = is.0 ∷ so.lines;
      are = follows_on first seen seen' earlier marked clock' clock'' so.lines is.0 so.are so.newest
          so.revision grows is.1;
      seen = subst (λ (l : Seen). IsPrefix l seen') (sym is.1.list_is) (prefix_self seen');
      yielded = clock'';
      at = (clock', so.at, is.1.at);
      yielded_all = tt;
      number = tt;
      fails = tt;
      put = length (text_of so.lines) + is.2;
      text = subst (Appends held held'')
          (sym (take-append-add (text_of so.lines) (line_text is.0) is.2))
          (Appends-trans held held' held'' (text_of so.lines) (take is.2 (line_text is.0)) so.text
          is.3);
      whole = λ uncut. absurd (uncut refl);
    }

pub printed_failed : (first seen seen' : Seen) (earlier : Option ℕ) (marked count number : ℕ)
    (clock clock' clock'' : Moments) (held held' held'' : Option (List ℕ)) (e : LiveError)
    → Printed first seen earlier number clock clock' held held' → IsPrefix seen seen'
    → PrintsLine seen' marked earlier clock' clock'' held' held'' (Err e)
    → Prints first seen' count clock clock'' held held'' (Err e)
printed_failed first seen seen' earlier marked count number clock clock' clock'' held held'
    held'' errors.OutOfMemory so grows is =
    printed_nothing first seen seen' earlier count number clock clock' clock'' held held' held''
    _ so grows is tt
printed_failed first seen seen' earlier marked count number clock clock' clock'' held held'
    held'' errors.WriteFailed so grows is =
    printed_cut first seen seen' earlier marked count number clock clock' clock'' held held'
    held'' so grows is
printed_failed first seen seen' earlier marked count number clock clock' clock'' held held'
    held'' errors.BadArguments so grows is = absurd is
printed_failed first seen seen' earlier marked count number clock clock' clock'' held held'
    held'' errors.Rejected so grows is = absurd is
printed_failed first seen seen' earlier marked count number clock clock' clock'' held held'
    held'' errors.Unsupported so grows is = absurd is
printed_failed first seen seen' earlier marked count number clock clock' clock'' held held'
    held'' errors.TimedOut so grows is = absurd is
printed_failed first seen seen' earlier marked count number clock clock' clock'' held held'
    held'' errors.NoSupervisor so grows is = absurd is
printed_failed first seen seen' earlier marked count number clock clock' clock'' held held'
    held'' errors.NoPlace so grows is = absurd is

-- ---- one line

-- a line of a state that was read of what is seen, at the clock's next moment
next_line : (seen : Seen) (marked : ℕ) (clock clock' : Moments) (state : StateView)
    (moment : Option ℤ) → IsStateOf seen state.closed state → marked ≡ state.revision
    → IsTime clock clock' moment
    → IsNext seen marked None clock clock'
    (record { list = seen; state = state; moment = moment })
next_line seen marked clock clock' state moment is same time = record {
  list_is = refl;
  state_is = is;
  marked_is = sym same;
  above = tt;
  at = time;
}

pub prints_state : (seen : Seen) (marked : ℕ) (clock clock' : Moments)
    (held held' : Option (List ℕ)) (state : StateView) (moment : Option ℤ) (text : List ℕ)
    → IsStateOf seen state.closed state → marked ≡ state.revision → IsTime clock clock' moment
    → text ≡ view_line state.view state.revision moment → Appends held held' text
    → PrintsLine seen marked None clock clock' held held' (Ok tt)
prints_state seen marked clock clock' held held' state moment text is same time line put = (
  record { list = seen; state = state; moment = moment },
  next_line seen marked clock clock' state moment is same time,
  subst (Appends held held') line put,
)

pub prints_part : (seen : Seen) (marked : ℕ) (clock clock' : Moments)
    (held held' : Option (List ℕ)) (state : StateView) (moment : Option ℤ) (text : List ℕ)
    → IsStateOf seen state.closed state → marked ≡ state.revision → IsTime clock clock' moment
    → text ≡ view_line state.view state.revision moment
    → (count : ℕ) × Appends held held' (take count text)
    → PrintsLine seen marked None clock clock' held held' (Err errors.WriteFailed)
prints_part seen marked clock clock' held held' state moment text is same time line put = (
  record { list = seen; state = state; moment = moment },
  next_line seen marked clock clock' state moment is same time,
  put.0,
  subst (λ (t : List ℕ). Appends held held' (take put.0 t)) line put.1,
)
