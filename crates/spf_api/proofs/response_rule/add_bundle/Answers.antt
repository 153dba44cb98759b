use Rattle.std.proofs.Common.{ap, sym, subst, ℕ, List, Ok}
use Rattle.std.specs.Arc.{arc_value}
use Rattle.spf_io.proofs.Exact.{bytes_exact}
use Rattle.spf_api.specs.Sharing.{IsAdded}
use Rattle.spf_api.proofs.response_rule.add_bundle.Goals as goal

pub returns-then-is_last_domain : goal.returns-then-is_last_domain
returns-then-is_last_domain c =
    let bundles = c.args.bundles.now in
    let found = c.is_last_domain.ensures c.if-is_last_domain.true in
    let same = (bytes_exact c.args.der.now c.args.last.now).0 (sym c.if-eq.ensures) in
    let is =
    subst (λ (domain : List ℕ). IsAdded bundles domain c.args.der.now) found.is
    (subst (λ (der : List ℕ). IsAdded bundles (arc_value found.svid).id.domain der) (sym same)
    (c.requires found.svid found.last)) in
    rw is.read (ap Ok is.stays)
