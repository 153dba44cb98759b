-- Lines of an input, and the rules that each keeps.
use Rattle.std.specs.Prelude.{ℕ, Bool, true, false, ◌==◌, not, nat_lt, List, [], ◌∷◌, length}
use Rattle.std.specs.Prelude.{Result, Ok, Err}
use Rattle.std.specs.Prelude.{if◌then◌else◌}
use Rattle.std.specs.List.{slice_split}
use Rattle.std.specs.Str.Lossy.{utf8_valid_len}
use Rattle.spf_gate.specs.declared.gate_error.GateError.{GateError}
use Rattle.spf_gate.specs.declared.gate_error.GateError.TheVariants as errors

-- whether an error says that memory ran out
abbrev pub is_memory_gate : GateError → Bool
is_memory_gate errors.OutOfMemory = true
is_memory_gate _ = false

abbrev pub is_feed : ℕ → Bool
is_feed c = c == 10

abbrev pub unless_empty : List ℕ → List (List ℕ)
unless_empty [] = []
unless_empty (c ∷ piece) = (c ∷ piece) ∷ []

-- the pieces but for a last one that is empty
abbrev pub without_empty_end : List (List ℕ) → List (List ℕ)
without_empty_end [] = []
without_empty_end (piece ∷ []) = unless_empty piece
without_empty_end (piece ∷ next ∷ pieces) = piece ∷ without_empty_end (next ∷ pieces)

-- the lines of the bytes: what stands between line feeds, of which the last line may lack its own
unfoldable pub lines_of : List ℕ → List (List ℕ)
lines_of bytes = without_empty_end (slice_split is_feed bytes)

abbrev pub is_text : List ℕ → Bool
is_text line = utf8_valid_len line == length line

-- the rules of a line of this number: it is short, and a text
unfoldable pub text_rule : ℕ → List ℕ → Result (Unit {0}) GateError
text_rule number line =
    if nat_lt 4096 (length line) then Err (errors.LineTooLong number)
    else (if not (is_text line) then Err (errors.NotText number) else Ok tt)

-- the same after the rule that no more lines come than are allowed
unfoldable pub line_rule : ℕ → ℕ → List ℕ → Result (Unit {0}) GateError
line_rule max number line =
    if nat_lt max number then Err errors.TooManyLines else text_rule number line
