-- Being the same is an equivalence, and the order of members makes no difference to it.
use Rattle.std.proofs.Common.{◌≡◌, ℕ, Bool, true, false, ◌&&◌, List, [], ◌∷◌, Option, refl, ap, ◌∙◌}
use Rattle.std.proofs.Common.{subst}
use Rattle.std.specs.Prelude.{nat_eq}
use Rattle.std.specs.Cmp.{IsEquivalence}
use Rattle.std.specs.List.{AllZip}
use Rattle.std.specs.Option.{option_eq}
use Rattle.std.specs.Cmp.Lexicographic.{pointwise, nat_list_eq_equiv, lists_equiv, options_equiv}
use Rattle.std.proofs.lemmas.Cmp.{int_eq_equiv, on_equiv, and_equiv}
use Rattle.spf_x509.specs.Bundle.{Bundle}
use Rattle.spf_x509.specs.Svid.{Svid}
use Rattle.spf_x509.specs.contracts.svid.X509SvidEq.TheImpl.Laws as svid
use Rattle.spf_x509.specs.Bag.{same_bag}
use Rattle.spf_x509.proofs.BagLemmas.{bag_equiv, bag_reordered}
use Rattle.spf_feed.specs.Material.{Material, chosen_of, same_svid, same_choice, entry_same}
use Rattle.spf_feed.specs.Material.{same_set, same_material}
use Rattle.spf_feed.specs.Reordered.{IsReordered, IsReorderedEntry}
use Rattle.spf_feed.proofs.SameSvids.{by_fields}

pub svid_equiv : IsEquivalence same_svid
svid_equiv = subst (λ (E : Svid → Svid → Bool). IsEquivalence E) by_fields svid.laws-law

pub choice_equiv : IsEquivalence same_choice
choice_equiv = and_equiv svid_equiv (on_equiv (λ (s : Svid). s.expiry) int_eq_equiv)

pub entry_equiv : IsEquivalence entry_same
entry_equiv =
    and_equiv (on_equiv (λ (e : List ℕ × Bundle). e.0) nat_list_eq_equiv)
    (on_equiv (λ (e : List ℕ × Bundle). e.1.authorities)
    (bag_equiv (pointwise nat_eq) nat_list_eq_equiv))

pub material_equiv : IsEquivalence same_material
unfolding same_material
material_equiv = and_equiv (on_equiv chosen_of (options_equiv choice_equiv))
    (and_equiv (on_equiv (λ (m : Material). m.context.svids) (bag_equiv same_svid svid_equiv))
    (and_equiv (on_equiv (λ (m : Material). m.context.bundles) (lists_equiv entry_equiv))
    (on_equiv (λ (m : Material). m.context.crls) (bag_equiv (pointwise nat_eq) nat_list_eq_equiv))))

-- ---- another order, and another choice

both_on : (b c : Bool) → b ≡ true → c ≡ true → (b && c) ≡ true
both_on b c e f = ap (λ x. x && c) e ∙ f

sets_reordered : (xs ys : List (List ℕ × Bundle)) → AllZip IsReorderedEntry xs ys
    → same_set xs ys ≡ true
sets_reordered [] [] h = refl
sets_reordered [] (y ∷ ys) h = absurd h
sets_reordered (x ∷ xs) [] h = absurd h
sets_reordered (x ∷ xs) (y ∷ ys) h = both_on (entry_same x y) (same_set xs ys)
    (both_on (pointwise nat_eq x.0 y.0)
    (same_bag (pointwise nat_eq) x.1.authorities y.1.authorities)
    (subst (λ (d : List ℕ). pointwise nat_eq x.0 d ≡ true) h.0.domain (nat_list_eq_equiv.refl x.0))
    (bag_reordered (pointwise nat_eq) nat_list_eq_equiv x.1.authorities y.1.authorities
    h.0.authorities))
    (sets_reordered xs ys h.1)

pub material_reordered : (a b : Material) → IsReordered a b → same_material a b ≡ true
unfolding same_material
material_reordered a b h =
    both_on (option_eq same_choice (chosen_of a) (chosen_of b)) _
    (subst (λ (o : Option Svid). option_eq same_choice (chosen_of a) o ≡ true) h.chosen
    ((options_equiv choice_equiv).refl (chosen_of a)))
    (both_on (same_bag same_svid a.context.svids b.context.svids) _
    (bag_reordered same_svid svid_equiv a.context.svids b.context.svids h.svids)
    (both_on (same_set a.context.bundles b.context.bundles) _
    (sets_reordered a.context.bundles b.context.bundles h.bundles)
    (bag_reordered (pointwise nat_eq) nat_list_eq_equiv a.context.crls b.context.crls h.crls)))

pub material_differs : (a b : Material) → option_eq same_choice (chosen_of a) (chosen_of b) ≡ false
    → same_material a b ≡ false
unfolding same_material
material_differs a b e =
    ap (λ x. x && (same_bag same_svid a.context.svids b.context.svids
    && (same_set a.context.bundles b.context.bundles
    && same_bag (pointwise nat_eq) a.context.crls b.context.crls))) e
