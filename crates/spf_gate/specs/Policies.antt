-- What the lines of an input say: a policy, up to the line `---`, and then asks.
use Rattle.std.specs.Prelude.{◌≡◌, ℕ, ◌+◌, Bool, List, [], ◌∷◌, ◌++◌, length, codes, Option, Some}
use Rattle.std.specs.Prelude.{None, Result, Ok, Err, is_ok, if◌then◌else◌}
use Rattle.std.specs.Option.{option_to_list}
use Rattle.std.specs.Str.{bytes_eq}
use Rattle.spf_io.specs.Rule.{◌>>=◌, broken_as}
use Rattle.spf_gate.specs.declared.rule.Rule.{Rule}
use Rattle.spf_gate.specs.declared.rule.RuleError.{RuleError}
use Rattle.spf_gate.specs.declared.rule.RuleError.TheVariants as rule_errors
use Rattle.spf_gate.specs.declared.gate_error.GateError.{GateError}
use Rattle.spf_gate.specs.declared.gate_error.GateError.TheVariants as errors
use Rattle.spf_gate.specs.Lines.{line_rule, lines_of}
use Rattle.spf_gate.specs.Rules.{policy_line}

-- the error of a line of this number that gives no rule
abbrev pub rule_error : ℕ → RuleError → GateError
rule_error number rule_errors.Broken = errors.BadRule number
rule_error number rule_errors.OutOfMemory = errors.OutOfMemory

-- the rule of a line of this number, if it gives one
abbrev pub rule_at : ℕ → List ℕ → Result (Option Rule) GateError
rule_at number line = broken_as (rule_error number) (policy_line line)

-- the line after which asks begin
abbrev pub is_policy_end : List ℕ → Bool
is_policy_end line = bytes_eq line (codes "---")

-- the rules of a policy, the lines after it, and the number of the first of them
pub record Policy : Type 0 where
  pub rules : List Rule
  pub asks : List (List ℕ)
  pub first : ℕ

abbrev pub with_rules : List Rule → Policy → Policy
with_rules rules p = record { rules = rules ++ p.rules; asks = p.asks; first = p.first }

-- the policy of these rules and more
abbrev pub after_rules : List Rule → Result Policy GateError → Result Policy GateError
after_rules rules (Ok p) = Ok (with_rules rules p)
after_rules rules (Err e) = Err e

-- the policy at the start of lines, of which the first has this number, or the first broken rule
abbrev pub policy_of : ℕ → ℕ → List (List ℕ) → Result Policy GateError
policy_of max number [] = Err errors.NoPolicyEnd
policy_of max number (line ∷ lines) =
    line_rule max number line
    >>= λ _.
    if is_policy_end line then Ok (record { rules = []; asks = lines; first = number + 1 })
    else (rule_at number line
    >>= λ rule. after_rules (option_to_list rule) (policy_of max (number + 1) lines))

-- the asks keep the rules of lines, or the first broken rule
abbrev pub asks_rule : ℕ → ℕ → List (List ℕ) → Result (Unit {0}) GateError
asks_rule max number [] = Ok tt
asks_rule max number (ask ∷ asks) =
    line_rule max number ask >>= λ _. asks_rule max (number + 1) asks

-- the asks before the first that breaks a rule of lines
abbrev pub asks_before : ℕ → ℕ → List (List ℕ) → List (List ℕ)
asks_before max number [] = []
asks_before max number (ask ∷ asks) =
    if is_ok (line_rule max number ask) then ask ∷ asks_before max (number + 1) asks else []

-- how many asks the lines of an input are, or the first rule that they break
unfoldable pub input_rule : ℕ → List ℕ → Result ℕ GateError
input_rule max bytes =
    policy_of max 1 (lines_of bytes)
    >>= λ p. asks_rule max p.first p.asks >>= λ _. Ok (length p.asks)

-- the rules and the asks that stand before the first broken rule
abbrev pub rules_in : Result Policy GateError → List Rule
rules_in (Ok p) = p.rules
rules_in (Err e) = []

abbrev pub asks_in : ℕ → Result Policy GateError → List (List ℕ)
asks_in max (Ok p) = asks_before max p.first p.asks
asks_in max (Err e) = []

-- ---- what reading a policy leaves

-- The policy of `old` has not ended where `new` is left: its end and the asks, if there are any,
-- stand in the lines of `new`.
abbrev pub NotEnded : ℕ → ℕ → List ℕ → List ℕ → Type 0
NotEnded max first old new =
    (rules : List Rule) × (number : ℕ)
    × (policy_of max first (lines_of old) ≡ after_rules rules (policy_of max number (lines_of new)))

-- the policy that was read, where the bytes are known, and the lines that are left
abbrev pub ReadsPolicy : ℕ → ℕ → ℕ → Option (List ℕ) → Option (List ℕ)
    → Result (List Rule) GateError → Type 0
ReadsPolicy max before after None new r = Unit {0}
ReadsPolicy max before after (Some old) None r = ⊥
ReadsPolicy max before after (Some old) (Some new) (Ok rules) =
    policy_of max (before + 1) (lines_of old)
    ≡ Ok (record { rules = rules; asks = lines_of new; first = after + 1 })
ReadsPolicy max before after (Some old) (Some new) (Err errors.ReadFault) =
    NotEnded max (before + 1) old new
ReadsPolicy max before after (Some old) (Some new) (Err errors.OutOfMemory) = Unit {0}
ReadsPolicy max before after (Some old) (Some new) (Err e) =
    policy_of max (before + 1) (lines_of old) ≡ Err e
