use Rattle.spf_x509.proofs.FewOrMany.{moved_put}
use Rattle.spf_x509.proofs.bundle_map.BundleMap.tree_with.Goals as goal

pub returns : goal.returns
returns c =
    moved_put c.args.self.now c.in_ok-tree.tree.entries c.insert.new.self.entries
    c.args.trust_domain c.args.bundle c.in_ok-tree.ensures c.in_ok-insert.ensures.entries
