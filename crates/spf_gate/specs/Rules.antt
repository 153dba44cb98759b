-- Rules of a policy: how they are written, and which IDs they match.
use Rattle.std.specs.Prelude.{ℕ, Bool, true, false, ◌||◌, ◌&&◌, ◌==◌, List, length, take}
use Rattle.std.specs.Prelude.{drop, codes}
use Rattle.std.specs.Prelude.{Option, Some, None, Result, Ok, Err, nat_eq, if◌then◌else◌}
use Rattle.std.specs.List.{starts_with}
use Rattle.std.specs.Option.{option_map}
use Rattle.std.specs.Str.{bytes_eq}
use Rattle.spf_io.specs.Option.{◌>>=◌}
use Rattle.spf_id.specs.Id.{Id, id_text}
use Rattle.spf_id.specs.Rule.{id_rule, name_rule}
use Rattle.spf_feed.specs.Items.{value_of}
use Rattle.spf_gate.specs.declared.rule.Pattern.{Pattern}
use Rattle.spf_gate.specs.declared.rule.Pattern.TheVariants as patterns
use Rattle.spf_gate.specs.declared.rule.Rule.{Rule}
use Rattle.spf_gate.specs.declared.rule.RuleError.{RuleError}
use Rattle.spf_gate.specs.declared.rule.RuleError.TheVariants as errors

-- ---- how rules are written

-- whether an error says that memory ran out
abbrev pub is_memory : RuleError → Bool
is_memory errors.OutOfMemory = true
is_memory _ = false

abbrev pub begins : List ℕ → List ℕ → Bool
begins front text = starts_with nat_eq text front

abbrev pub id_pattern : List ℕ → Option Pattern
id_pattern text = option_map patterns.Id (value_of (id_rule text))

-- a trust domain by its name alone, and not by an ID of it
unfoldable pub domain_pattern : List ℕ → Option Pattern
domain_pattern text =
    value_of (name_rule text)
    >>= λ name. if bytes_eq name text then Some (patterns.Domain name) else None

-- an ID that has a path
unfoldable pub prefix_pattern : List ℕ → Option Pattern
prefix_pattern text =
    value_of (id_rule text)
    >>= λ id. if length id.path == 0 then None else Some (patterns.Prefix id)

-- a word, a space, and what it is about
unfoldable pub pattern_of : List ℕ → Option Pattern
pattern_of text =
    if begins (codes "id ") text then id_pattern (drop 3 text)
    else (if begins (codes "domain ") text then domain_pattern (drop 7 text)
    else (if begins (codes "prefix ") text then prefix_pattern (drop 7 text) else None))

abbrev pub rule_over : Bool → List ℕ → Option Rule
rule_over allow text = option_map (λ p. record { allow = allow; pattern = p }) (pattern_of text)

-- an action, a space, and a pattern
unfoldable pub rule_of : List ℕ → Option Rule
rule_of text =
    if begins (codes "allow ") text then rule_over true (drop 6 text)
    else (if begins (codes "deny ") text then rule_over false (drop 5 text) else None)

-- a line that is empty, or a comment
abbrev pub is_skipped : List ℕ → Bool
is_skipped line = length line == 0 || begins (codes "#") line

abbrev pub rule_or_broken : Option Rule → Result (Option Rule) RuleError
rule_or_broken (Some rule) = Ok (Some rule)
rule_or_broken None = Err errors.Broken

-- what a line of a policy says: a rule, or nothing where it is passed over
unfoldable pub policy_line : List ℕ → Result (Option Rule) RuleError
policy_line line = if is_skipped line then Ok None else rule_or_broken (rule_of line)

-- ---- what rules match

-- the rest of a path: empty, or begun by a slash
abbrev pub ends_or_goes_on : List ℕ → Bool
ends_or_goes_on rest = length rest == 0 || begins (codes "/") rest

-- a path is this one, or this one, `/` and more
unfoldable pub is_under : List ℕ → List ℕ → Bool
is_under own path =
    bytes_eq (take (length own) path) own && ends_or_goes_on (drop (length own) path)

abbrev pub matches : Pattern → Id → Bool
matches (patterns.Id own) id = bytes_eq (id_text own) (id_text id)
matches (patterns.Domain name) id = bytes_eq name id.domain
matches (patterns.Prefix own) id = bytes_eq own.domain id.domain && is_under own.path id.path
