-- What reading the lines of an input takes, as far as its bytes are known.
use Rattle.std.specs.Prelude.{◌≡◌, ◌≢◌, ℕ, ◌+◌, ◌≤◌, ◌<◌, Bool, true, false, List, [], ◌∷◌, ◌++◌}
use Rattle.std.specs.Prelude.{length, Option, Some, None, IfSome, Result, Ok, Err, IsErrOf}
use Rattle.std.specs.Io.KnownBytes.{Consumes, Keeps, IsAtEnd}
use Rattle.std.specs.List.{position_or_len}
use Rattle.spf_io.specs.Outside.{Rose}
use Rattle.spf_gate.specs.declared.gate_error.GateError.{GateError}
use Rattle.spf_gate.specs.declared.gate_error.GateError.TheVariants as errors
use Rattle.spf_gate.specs.declared.line_reader.LineEnd.{LineEnd}
use Rattle.spf_gate.specs.declared.line_reader.LineEnd.TheVariants as ends
use Rattle.spf_gate.specs.Lines.{is_feed, lines_of, line_rule}

-- the count never falls, and `ReadFault` comes only where it rose; nothing is written
pub record ReadHasCause {T : Type 0} (before now : ℕ) (r : Result T GateError) : Type 0 where
  pub later : before ≤ now
  pub failed : IsErrOf r errors.ReadFault → Rose before now
  pub unwritten : IsErrOf r errors.WriteFault → ⊥

-- bytes are added that the source gave
pub record Adds (left left' : Option (List ℕ)) (octets octets' : List ℕ) : Type 0 where
  pub piece : List ℕ
  pub octets_are : octets' ≡ octets ++ piece
  pub taken : Consumes left left' piece

-- a number of them, none only where the source is at its end
abbrev pub Fills : Option (List ℕ) → Option (List ℕ) → List ℕ → List ℕ → Result ℕ GateError
    → Type 0
Fills left left' octets octets' (Ok count) =
    Adds left left' octets octets' × (length octets' ≡ length octets + count)
    × (count ≡ 0 → IsAtEnd left')
Fills left left' octets octets' (Err errors.ReadFault) = (octets' ≡ octets) × Keeps left left'
Fills left left' octets octets' (Err errors.OutOfMemory) = (octets' ≡ octets) × Keeps left left'
Fills left left' octets octets' (Err _) = ⊥

-- no line feed
abbrev pub HasNoFeed : List ℕ → Type 0
HasNoFeed bytes = position_or_len is_feed bytes ≡ length bytes

-- where the first line feed stands, if there is one
abbrev pub IsFirstFeed : List ℕ → Option ℕ → Type 0
IsFirstFeed bytes None = HasNoFeed bytes
IsFirstFeed bytes (Some n) = (position_or_len is_feed bytes ≡ n) × (n < length bytes)

-- one more line is allowed, where bytes of one are there
abbrev pub HasRoom : List ℕ → ℕ → ℕ → Result (Unit {0}) GateError → Type 0
HasRoom bytes max number (Ok done) = bytes ≢ [] → number < max
HasRoom bytes max number (Err errors.TooManyLines) = (bytes ≢ []) × (max ≤ number)
HasRoom bytes max number (Err _) = ⊥

abbrev pub end_without_feed : List ℕ → LineEnd
end_without_feed [] = ends.Nothing
end_without_feed (c ∷ bytes) = ends.Rest

-- how the first line ends, or why it is refused before it ends
abbrev pub EndsLine : Option (List ℕ) → List ℕ → ℕ → ℕ → Result LineEnd GateError → Type 0
EndsLine left bytes max number (Ok (ends.Feed n)) =
    IsFirstFeed bytes (Some n) × (number < max)
EndsLine left bytes max number (Ok ends.Rest) =
    IsAtEnd left × HasNoFeed bytes × (bytes ≢ []) × (number < max)
EndsLine left bytes max number (Ok ends.Nothing) = IsAtEnd left × (bytes ≡ [])
EndsLine left bytes max number (Err errors.TooManyLines) = (bytes ≢ []) × (max ≤ number)
EndsLine left bytes max number (Err (errors.LineTooLong line)) =
    (line ≡ number + 1) × HasNoFeed bytes × (4096 < length bytes) × (number < max)
EndsLine left bytes max number (Err errors.ReadFault) = HasNoFeed bytes
EndsLine left bytes max number (Err errors.OutOfMemory) = Unit {0}
EndsLine left bytes max number (Err _) = ⊥

pub record FillsLine (left left' : Option (List ℕ)) (octets octets' : List ℕ) (max number : ℕ)
    (r : Result LineEnd GateError) : Type 0 where
  pub adds : Adds left left' octets octets'
  pub end : EndsLine left' octets' max number r

-- ---- what was read and what is left, as lines

-- these lines are taken from the front, where the bytes are known
abbrev pub Hands : Option (List ℕ) → Option (List ℕ) → List (List ℕ) → Type 0
Hands None new lines = Unit {0}
Hands (Some old) None lines = ⊥
Hands (Some old) (Some new) lines = lines_of old ≡ lines ++ lines_of new

-- the first line breaks a rule
pub record Breaks (max number : ℕ) (bytes : List ℕ) (e : GateError) : Type 0 where
  pub line : List ℕ
  pub others : List (List ℕ)
  pub lines_are : lines_of bytes ≡ line ∷ others
  pub rule : line_rule max number line ≡ Err e

-- a line of this number is taken, or none is left, or the first one breaks a rule
abbrev pub TakesLine : ℕ → ℕ → Option (List ℕ) → Option (List ℕ) → List ℕ → Result Bool GateError
    → Type 0
TakesLine max number old new text (Ok true) =
    Hands old new (text ∷ []) × (line_rule max number text ≡ Ok tt)
TakesLine max number old new text (Ok false) =
    Hands old new [] × IfSome new (λ bytes. lines_of bytes ≡ [])
TakesLine max number old new text (Err errors.ReadFault) = Hands old new []
TakesLine max number old new text (Err errors.OutOfMemory) = Hands old new []
TakesLine max number old new text (Err e) =
    Hands old new [] × IfSome new (λ bytes. Breaks max number bytes e)

-- how many lines are taken after a call
abbrev pub number_after : ℕ → Result Bool GateError → ℕ
number_after number (Ok true) = number + 1
number_after number _ = number
