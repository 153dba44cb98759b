use Rattle.std.proofs.Common.{◌≡◌, Ok, take}
use Rattle.serde_json.specs.View.{view}
use Rattle.spf_io.specs.Rule.{each}
use Rattle.spf_jwt.specs.Authority.{key_rule}
use Rattle.spf_jwt.proofs.bundle.authorities_of.Given as goal

abbrev pub invariant-loop-key : goal.invariant-loop-key
invariant-loop-key l =
    each (λ v. key_rule (view v)) (take l.key-index l.keys) ≡ Ok l.authorities.items
