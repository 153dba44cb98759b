use Rattle.std.proofs.Common.{◌++◌, List, map, sym, ◌∙◌, arith}
use Rattle.std.proofs.lemmas.List.{at_drop_all}
use Rattle.spf_x509.specs.Bundle.{find_entry, plain_entry}
use Rattle.spf_x509.proofs.Entries.{lookup_plain, seen_arc}
use Rattle.spf_x509.proofs.Rising.{Shared}
use Rattle.spf_x509.proofs.bundle_map.BundleMap.get.Goals as goal

pub returns-clause-found : goal.returns-clause-found
returns-clause-found c =
    let k = c.args.trust_domain.now in
    let many = c.self.inside.many.entries in
    let rest = λ (es : List Shared).
    find_entry k (map plain_entry es ++ map plain_entry many) in
    seen_arc c.get.result _ c.get.ensures.value ∙ lookup_plain many k
    ∙ sym (c.loop-name.invariant
    ∙ at_drop_all rest c.as_slice-name-items.result.now c.loop-name.name-index (omega arith))
