use Rattle.std.proofs.Common.{rules}
use Rattle.std.specs.Option.{option_map}
use Rattle.spf_x509.specs.Chain.{svid_with_leaf}
use Rattle.spf_x509.proofs.Tails.{leaf_gives}
use Rattle.spf_x509.proofs.svid.X509Svid.with_leaf.Goals as goal

pub invariant_of-svid : goal.invariant_of-svid
unfolding svid_with_leaf
invariant_of-svid c =
    let hint = option_map (λ t. t.now) c.args.hint in (
      search rules,
      leaf_gives c.args.leaf.now c.args.scan.now c.args.others.now c.args.key.now hint _
          c.requires.leaf c.requires.others (search rules),
    )
