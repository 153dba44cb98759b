use Rattle.std.proofs.Common.{◌≡◌, Ok, take}
use Rattle.serde_json.specs.Find.{as_str}
use Rattle.serde_json.specs.View.{view}
use Rattle.spf_io.specs.Rule.{each}
use Rattle.spf_jwt.specs.Token.{text_rule}
use Rattle.spf_jwt.proofs.claims.texts_of.Given as goal

abbrev pub invariant-loop-value : goal.invariant-loop-value
invariant-loop-value l =
    each (λ v. text_rule (as_str (view v))) (take l.value-index l.values) ≡ Ok l.texts.items
