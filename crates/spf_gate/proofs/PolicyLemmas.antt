-- Reading a policy line by line.
use Rattle.std.proofs.Common.{◌≡◌, ◌∙◌, refl, sym, ap, ℕ, ◌+◌, Bool, true, false, List, []}
use Rattle.std.proofs.Common.{◌++◌}
use Rattle.std.proofs.Common.{Option, Some, None, Result, Ok, Err, append_assoc, arith}
use Rattle.std.proofs.Common.{◌-◌, ◌<◌, ◌≤◌, nat_lt}
use Rattle.std.specs.Prelude.{◌≢◌, if◌then◌else◌}
use Rattle.std.specs.Bool.{MatchBool}
use Rattle.std.specs.Option.{option_to_list}
use Rattle.std.proofs.lemmas.List.{append-nil}
use Rattle.spf_io.specs.Rule.{◌>>=◌}
use Rattle.spf_gate.specs.declared.rule.Rule.{Rule}
use Rattle.spf_gate.specs.declared.gate_error.GateError.{GateError}
use Rattle.spf_gate.specs.declared.gate_error.GateError.TheVariants as errors
use Rattle.spf_gate.specs.Lines.{is_memory_gate, lines_of, line_rule, text_rule}
use Rattle.spf_gate.specs.Policies.{Policy, ReadsPolicy, after_rules, is_policy_end, policy_of}
use Rattle.spf_gate.specs.Policies.{rule_at}
use Rattle.spf_gate.specs.Reading.{Breaks, TakesLine, number_after}

-- what is read so far of a policy whose first line has the number `first`
abbrev pub SoFar : ℕ → ℕ → Option (List ℕ) → Option (List ℕ) → ℕ → List Rule → Type 0
SoFar max first None new number rules = Unit {0}
SoFar max first (Some a) None number rules = ⊥
SoFar max first (Some a) (Some b) number rules =
    policy_of max first (lines_of a) ≡ after_rules rules (policy_of max (number + 1) (lines_of b))

no_rules : (r : Result Policy GateError) → r ≡ after_rules [] r
no_rules (Ok p) = refl
no_rules (Err e) = refl

pub so_far_none : (max number : ℕ) (old : Option (List ℕ))
    → SoFar max (number + 1) old old number []
so_far_none max number None = tt
so_far_none max number (Some a) = no_rules (policy_of max (number + 1) (lines_of a))

join : (rules more : List Rule) (r : Result Policy GateError)
    → after_rules rules (after_rules more r) ≡ after_rules (rules ++ more) r
join rules more (Ok p) =
    ap (λ (l : List Rule). Ok (record { rules = l; asks = p.asks; first = p.first }))
    (sym (append_assoc rules more p.rules))
join rules more (Err e) = refl

-- what a line of a policy and the lines after it say
abbrev pub line_step : ℕ → ℕ → List ℕ → List (List ℕ) → Result Policy GateError
line_step max number line lines =
    if is_policy_end line then Ok (record { rules = []; asks = lines; first = number + 1 })
    else (rule_at number line
    >>= λ rule. after_rules (option_to_list rule) (policy_of max (number + 1) lines))

-- one more line is read
abbrev pub Stepped : ℕ → ℕ → Option (List ℕ) → Option (List ℕ) → ℕ → List Rule → List ℕ → Type 0
Stepped max first None new number rules line = Unit {0}
Stepped max first (Some a) None number rules line = ⊥
Stepped max first (Some a) (Some b) number rules line =
    policy_of max first (lines_of a) ≡ after_rules rules (line_step max number line (lines_of b))

pub stepped : (max first : ℕ) (old mid new : Option (List ℕ)) (number : ℕ) (rules : List Rule)
    (line : List ℕ) (is_line : Bool) → SoFar max first old mid number rules
    → TakesLine max (number + 1) mid new line (Ok is_line) → is_line ≡ true
    → Stepped max first old new (number + 1) rules line
stepped max first old mid new number rules line false so takes is = absurd (cc)
stepped max first None mid new number rules line true so takes is = tt
stepped max first (Some a) None new number rules line true so takes is = absurd so
stepped max first (Some a) (Some b) None number rules line true so takes is = absurd takes.0
stepped max first (Some a) (Some b) (Some c) number rules line true so takes is =
    so ∙ ap (λ (l : List (List ℕ)). after_rules rules (policy_of max (number + 1) l)) takes.0
    ∙ ap (λ (r : Result (Unit {0}) GateError).
    after_rules rules (r >>= λ _. line_step max (number + 1) line (lines_of c))) takes.1

-- the policy ends with the line
pub ended : (max before : ℕ) (old new : Option (List ℕ)) (number : ℕ) (rules : List Rule)
    (line : List ℕ) → Stepped max (before + 1) old new number rules line
    → is_policy_end line ≡ true → ReadsPolicy max before number old new (Ok rules)
ended max before None new number rules line so is = tt
ended max before (Some a) None number rules line so is = absurd so
ended max before (Some a) (Some c) number rules line so is =
    so ∙ rw is
    (ap (λ (l : List Rule). Ok (record { rules = l; asks = lines_of c; first = number + 1 }))
    (append-nil rules))

-- the line says a rule, or nothing
pub kept : (max first : ℕ) (old new : Option (List ℕ)) (number : ℕ) (rules : List Rule)
    (line : List ℕ) (rule : Option Rule) → Stepped max first old new number rules line
    → is_policy_end line ≡ false → rule_at number line ≡ Ok rule
    → SoFar max first old new number (rules ++ option_to_list rule)
kept max first None new number rules line rule so is says = tt
kept max first (Some a) None number rules line rule so is says = absurd so
kept max first (Some a) (Some c) number rules line rule so is says =
    so ∙ rw (is, says)
    (join rules (option_to_list rule) (policy_of max (number + 1) (lines_of c)))

map_broken : (e : GateError) {P Q : Type 0} → MatchBool (is_memory_gate e) (Unit {0}) P → (P → Q)
    → MatchBool (is_memory_gate e) (Unit {0}) Q
map_broken errors.ReadFault p f = f p
map_broken errors.OutOfMemory p f = tt
map_broken errors.WriteFault p f = f p
map_broken (errors.BadRule line) p f = f p
map_broken errors.NoPolicyEnd p f = f p
map_broken (errors.LineTooLong line) p f = f p
map_broken (errors.NotText line) p f = f p
map_broken errors.TooManyLines p f = f p

broken_here : (max before after : ℕ) (a b : List ℕ) (e : GateError)
    → e ≢ errors.ReadFault
    → MatchBool (is_memory_gate e) (Unit {0}) (policy_of max (before + 1) (lines_of a) ≡ Err e)
    → ReadsPolicy max before after (Some a) (Some b) (Err e)
broken_here max before after a b errors.ReadFault calm h = absurd (calm refl)
broken_here max before after a b errors.OutOfMemory calm h = tt
broken_here max before after a b errors.WriteFault calm h = h
broken_here max before after a b (errors.BadRule line) calm h = h
broken_here max before after a b errors.NoPolicyEnd calm h = h
broken_here max before after a b (errors.LineTooLong line) calm h = h
broken_here max before after a b (errors.NotText line) calm h = h
broken_here max before after a b errors.TooManyLines calm h = h

-- the line breaks a rule
pub bad_rule : (max before : ℕ) (old new : Option (List ℕ)) (number : ℕ) (rules : List Rule)
    (line : List ℕ) (e : GateError) → Stepped max (before + 1) old new number rules line
    → is_policy_end line ≡ false → e ≢ errors.ReadFault
    → MatchBool (is_memory_gate e) (Unit {0}) (rule_at number line ≡ Err e)
    → ReadsPolicy max before number old new (Err e)
bad_rule max before None new number rules line e so is calm says = tt
bad_rule max before (Some a) None number rules line e so is calm says = absurd so
bad_rule max before (Some a) (Some c) number rules line e so is calm says =
    broken_here max before number a c e calm
    (map_broken e says (λ bad. so ∙ rw (is, bad) refl))

-- memory ran out
pub no_memory : (max before after : ℕ) (old new : Option (List ℕ)) (number : ℕ) (rules : List Rule)
    → SoFar max (before + 1) old new number rules
    → ReadsPolicy max before after old new (Err errors.OutOfMemory)
no_memory max before after None new number rules so = tt
no_memory max before after (Some a) None number rules so = absurd so
no_memory max before after (Some a) (Some b) number rules so = tt

-- no line is left
pub no_end : (max before after : ℕ) (old mid new : Option (List ℕ)) (number : ℕ) (rules : List Rule)
    (line : List ℕ) (is_line : Bool) → SoFar max (before + 1) old mid number rules
    → TakesLine max (number + 1) mid new line (Ok is_line) → is_line ≡ false
    → ReadsPolicy max before after old new (Err errors.NoPolicyEnd)
no_end max before after old mid new number rules line true so takes is = absurd (cc)
no_end max before after None mid new number rules line false so takes is = tt
no_end max before after (Some a) None new number rules line false so takes is = absurd so
no_end max before after (Some a) (Some b) None number rules line false so takes is = absurd takes.0
no_end max before after (Some a) (Some b) (Some c) number rules line false so takes is =
    so ∙ ap (λ (l : List (List ℕ)). after_rules rules (policy_of max (number + 1) l))
    (takes.0 ∙ takes.1)

first_breaks : (max first number : ℕ) (a c : List ℕ) (rules : List Rule) (e : GateError)
    → policy_of max first (lines_of a) ≡ after_rules rules (policy_of max number (lines_of c))
    → Breaks max number c e → policy_of max first (lines_of a) ≡ Err e
first_breaks max first number a c rules e so breaks =
    so ∙ rw (breaks.lines_are, breaks.rule) refl

-- the next line breaks a rule of lines
pub bad_line : (max before after : ℕ) (old mid new : Option (List ℕ)) (number : ℕ)
    (rules : List Rule) (line : List ℕ) (e : GateError)
    → SoFar max (before + 1) old mid number rules
    → TakesLine max (number + 1) mid new line (Err e)
    → ReadsPolicy max before after old new (Err e)
bad_line max before after None mid new number rules line e so takes = tt
bad_line max before after (Some a) None new number rules line e so takes = absurd so
bad_line max before after (Some a) (Some b) None number rules line errors.ReadFault so takes =
    absurd takes
bad_line max before after (Some a) (Some b) (Some c) number rules line errors.ReadFault so takes = (
  rules,
  number + 1,
  so ∙ ap (λ (l : List (List ℕ)). after_rules rules (policy_of max (number + 1) l)) takes,
)
bad_line max before after (Some a) (Some b) None number rules line errors.OutOfMemory so takes =
    absurd takes
bad_line max before after (Some a) (Some b) (Some c) number rules line errors.OutOfMemory so takes =
    tt
bad_line max before after (Some a) (Some b) None number rules line errors.WriteFault so takes =
    absurd takes.0
bad_line max before after (Some a) (Some b) (Some c) number rules line errors.WriteFault so takes =
    first_breaks max (before + 1) (number + 1) a c rules _
    (so ∙ ap (λ (l : List (List ℕ)). after_rules rules (policy_of max (number + 1) l)) takes.0)
    takes.1
bad_line max before after (Some a) (Some b) None number rules line (errors.BadRule at) so takes =
    absurd takes.0
bad_line max before after (Some a) (Some b) (Some c) number rules line (errors.BadRule at) so takes
    =
    first_breaks max (before + 1) (number + 1) a c rules _
    (so ∙ ap (λ (l : List (List ℕ)). after_rules rules (policy_of max (number + 1) l)) takes.0)
    takes.1
bad_line max before after (Some a) (Some b) None number rules line errors.NoPolicyEnd so takes =
    absurd takes.0
bad_line max before after (Some a) (Some b) (Some c) number rules line errors.NoPolicyEnd so takes =
    first_breaks max (before + 1) (number + 1) a c rules _
    (so ∙ ap (λ (l : List (List ℕ)). after_rules rules (policy_of max (number + 1) l)) takes.0)
    takes.1
bad_line max before after (Some a) (Some b) None number rules line (errors.LineTooLong at) so takes
    =
    absurd takes.0
bad_line max before after (Some a) (Some b) (Some c) number rules line (errors.LineTooLong at) so
    takes =
    first_breaks max (before + 1) (number + 1) a c rules _
    (so ∙ ap (λ (l : List (List ℕ)). after_rules rules (policy_of max (number + 1) l)) takes.0)
    takes.1
bad_line max before after (Some a) (Some b) None number rules line (errors.NotText at) so takes =
    absurd takes.0
bad_line max before after (Some a) (Some b) (Some c) number rules line (errors.NotText at) so takes
    =
    first_breaks max (before + 1) (number + 1) a c rules _
    (so ∙ ap (λ (l : List (List ℕ)). after_rules rules (policy_of max (number + 1) l)) takes.0)
    takes.1
bad_line max before after (Some a) (Some b) None number rules line errors.TooManyLines so takes =
    absurd takes.0
bad_line max before after (Some a) (Some b) (Some c) number rules line errors.TooManyLines so takes
    =
    first_breaks max (before + 1) (number + 1) a c rules _
    (so ∙ ap (λ (l : List (List ℕ)). after_rules rules (policy_of max (number + 1) l)) takes.0)
    takes.1

within : (b : Bool) (r : Result (Unit {0}) GateError)
    → (if b then Err errors.TooManyLines else r) ≡ Ok tt → b ≡ false
within true r is = absurd (cc)
within false r is = refl

pub room : (max number : ℕ) (line : List ℕ) → line_rule max number line ≡ Ok tt → number ≤ max
unfolding line_rule
room max number line is =
    let few = within (nat_lt max number) (text_rule number line) is in search (arith, few)

-- each line that is taken brings the bound nearer
pub nearer : (max max' number number' : ℕ) (old new : Option (List ℕ)) (line : List ℕ)
    (is_line : Bool) → TakesLine max (number + 1) old new line (Ok is_line) → is_line ≡ true
    → number' ≡ number_after number (Ok is_line) → max' ≡ max
    → max' - number' < max - number
nearer max max' number number' old new line false takes is number_is max_is = absurd (cc)
nearer max max' number number' old new line true takes is number_is max_is =
    let le = room max (number + 1) line takes.1 in omega (arith, le, number_is, max_is)
