-- SVIDs of which neither stands before the other are equal.
use Rattle.std.proofs.Common.{◌≡◌, ℕ, List, Option, Some, None, refl, ap, [], ◌∷◌}
use Rattle.std.specs.declared.cmp.Ordering.{Ordering}
use Rattle.std.specs.declared.cmp.Ordering.TheVariants.{Less, Equal, Greater}
use Rattle.std.specs.Ordering.{nat_cmp, ordering_then}
use Rattle.std.specs.Cmp.Lexicographic.{slice_cmp, lists_total, nat_list_cmp_total}
use Rattle.std.specs.Option.{option_cmp}
use Rattle.std.proofs.lemmas.Cmp.{tied_itself}
use Rattle.spf_id.specs.Id.{id_text}
use Rattle.spf_id.proofs.Exact.{id_ties, name_ties}
use Rattle.spf_x509.specs.Svid.{Svid}
use Rattle.spf_x509.specs.Order.{id_cmp, svid_cmp, IsSameSvid}

both_tie : (o p : Ordering) → ordering_then o p ≡ Equal → (o ≡ Equal) × (p ≡ Equal)
both_tie Less p h = absurd (cc)
both_tie Equal p h = (refl, h)
both_tie Greater p h = absurd (cc)

then_equal : (o p : Ordering) → o ≡ Equal → p ≡ Equal → ordering_then o p ≡ Equal
then_equal o p h k = rw (h, k) refl

name_tied : (x : List ℕ) → slice_cmp nat_cmp x x ≡ Equal
name_tied x = tied_itself nat_list_cmp_total x

hint_tied : (x : Option (List ℕ)) → option_cmp (slice_cmp nat_cmp) x x ≡ Equal
hint_tied None = refl
hint_tied (Some x) = name_tied x

chain_ties : (x y : List (List ℕ)) → slice_cmp (slice_cmp nat_cmp) x y ≡ Equal → x ≡ y
chain_ties [] [] h = refl
chain_ties [] (b ∷ y) h = absurd (cc)
chain_ties (a ∷ x) [] h = absurd (cc)
chain_ties (a ∷ x) (b ∷ y) h =
    let both = both_tie (slice_cmp nat_cmp a b) (slice_cmp (slice_cmp nat_cmp) x y) h in
    (λ i. name_ties a b both.0 i ∷ chain_ties x y both.1 i)

hint_ties : (x y : Option (List ℕ)) → option_cmp (slice_cmp nat_cmp) x y ≡ Equal → x ≡ y
hint_ties None None h = refl
hint_ties None (Some y) h = absurd (cc)
hint_ties (Some x) None h = absurd (cc)
hint_ties (Some x) (Some y) h = ap Some (name_ties x y h)

pub svids_tie : (a b : Svid) → svid_cmp a b ≡ Equal → IsSameSvid a b
svids_tie a b h =
    let first = both_tie (id_cmp a.id b.id) _ h in
    let second = both_tie (option_cmp (slice_cmp nat_cmp) a.hint b.hint) _ first.1 in
    let third = both_tie (slice_cmp (slice_cmp nat_cmp) a.chain b.chain) _ second.1 in
    record {
      id = id_ties a.id b.id first.0;
      hint = hint_ties a.hint b.hint second.0;
      chain = chain_ties a.chain b.chain third.0;
      key = name_ties a.key b.key third.1;
    }

pub same_svids : (a b : Svid) → IsSameSvid a b → svid_cmp a b ≡ Equal
same_svids a b s =
    rw (s.id, s.hint, s.chain, s.key)
    (then_equal _ _ (then_equal _ _ (name_tied (id_text b.id)) (name_tied b.id.domain))
    (then_equal _ _ (hint_tied b.hint)
    (then_equal _ _ (tied_itself (lists_total nat_list_cmp_total) b.chain) (name_tied b.key))))
