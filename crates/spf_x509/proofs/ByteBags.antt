-- Bags of byte texts, which their order tells apart.
use Rattle.std.proofs.Common.{◌≡◌, ℕ, Bool, true, List, sym, ap, ◌∙◌, subst}
use Rattle.std.specs.Prelude.{◌↔◌, nat_eq}
use Rattle.std.specs.Ordering.{nat_cmp, eq_by_cmp}
use Rattle.std.specs.Cmp.Lexicographic.{pointwise, slice_cmp, texts_ties, nat_list_cmp_total}
use Rattle.std.specs.Cmp.Lexicographic.{lists_equiv, nat_list_eq_equiv}
use Rattle.std.proofs.lemmas.Map.Lookups.{exact_bytes}
use Rattle.spf_x509.specs.Bag.{same_bag, in_order}
use Rattle.spf_x509.proofs.OrderLemmas.{order_of_bags, orders_decide}

-- equality of byte texts is that of their order
pub bytes_by_order : pointwise nat_eq ≡ eq_by_cmp (slice_cmp nat_cmp)
bytes_by_order = λ i x y. texts_ties x y i

pub byte_bags_in_order : (xs ys : List (List ℕ)) → same_bag (pointwise nat_eq) xs ys ≡ true
    → in_order (slice_cmp nat_cmp) xs ≡ in_order (slice_cmp nat_cmp) ys
byte_bags_in_order xs ys e =
    order_of_bags (slice_cmp nat_cmp) nat_list_cmp_total exact_bytes xs ys
    (subst (λ (F : List ℕ → List ℕ → Bool). same_bag F xs ys ≡ true) bytes_by_order e)

-- equal lists in order are those of equal bags
byte_bags_back : (xs ys : List (List ℕ))
    → in_order (slice_cmp nat_cmp) xs ≡ in_order (slice_cmp nat_cmp) ys
    → same_bag (pointwise nat_eq) xs ys ≡ true
byte_bags_back xs ys e =
    let R = slice_cmp nat_cmp in
    subst (λ (F : List ℕ → List ℕ → Bool). same_bag F xs ys ≡ true) (sym bytes_by_order)
    (sym (orders_decide R nat_list_cmp_total xs ys)
    ∙ subst (λ (F : List ℕ → List ℕ → Bool). pointwise F (in_order R xs) (in_order R ys) ≡ true)
    bytes_by_order
    (ap (λ (zs : List (List ℕ)). pointwise (pointwise nat_eq) (in_order R xs) zs) (sym e)
    ∙ (lists_equiv nat_list_eq_equiv).refl (in_order R xs)))

pub bags_exactly : (xs ys : List (List ℕ))
    → (same_bag (pointwise nat_eq) xs ys ≡ true)
    ↔ (in_order (slice_cmp nat_cmp) xs ≡ in_order (slice_cmp nat_cmp) ys)
bags_exactly xs ys = (byte_bags_in_order xs ys, byte_bags_back xs ys)
