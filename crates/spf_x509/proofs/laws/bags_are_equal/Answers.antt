use Rattle.std.proofs.Common.{◌≡◌, Bool, sym, subst}
use Rattle.std.specs.Cmp.Lexicographic.{pointwise}
use Rattle.std.specs.Ordering.{eq_by_cmp}
use Rattle.spf_x509.specs.Bag.{same_bag, in_order}
use Rattle.spf_x509.proofs.OrderLemmas.{orders_decide}
use Rattle.spf_x509.proofs.laws.bags_are_equal.Goals as goal

pub returns : goal.returns
returns g c = λ xs ys.
    let R = g.T.Ord.cmp in
    let same : g.T.PartialEq.eq ≡ eq_by_cmp R = λ i x y. g.met.T.Ord.matches_eq x y i in
    subst (λ (E : g.row.T.Denot → g.row.T.Denot → Bool). same_bag E xs ys
    ≡ pointwise E (in_order R xs) (in_order R ys)) (sym same)
    (sym (orders_decide R g.met.T.Ord.total xs ys))
