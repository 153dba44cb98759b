use Rattle.std.proofs.Common.{rules}
use Rattle.std.specs.Option.{option_map}
use Rattle.spf_x509.proofs.Heads.{parts_give}
use Rattle.spf_x509.proofs.svid.X509Svid.of_parts.Goals as goal

pub invariant_of-result : goal.invariant_of-result
invariant_of-result c =
    let hint = option_map (λ t. t.now) c.args.hint in
    (search rules, parts_give c.args.key.now hint _ _ c.requires (search rules))
