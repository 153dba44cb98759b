-- A bundle that is put in a set twice.
use Rattle.std.proofs.Common.{◌≡◌, ◌-◌, ℕ, List, [], ◌∷◌, ◌++◌, length, Some, Ok, arith}
use Rattle.std.proofs.Common.{refl, sym, ap, ◌∙◌, subst}
use Rattle.std.proofs.lemmas.List.{length-append}
use Rattle.std.specs.Prelude.{slice_get}
use Rattle.std.specs.declared.cmp.Ordering.{Ordering}
use Rattle.std.specs.declared.cmp.Ordering.TheVariants.{Less, Equal, Greater}
use Rattle.std.specs.Ordering.{match_ordering, nat_cmp, ordering_reverse}
use Rattle.std.specs.Cmp.Lexicographic.{nat_list_cmp_total, slice_cmp}
use Rattle.spf_io.specs.Rule.{◌>>=◌}
use Rattle.spf_x509.specs.Bundle.{Bundle, with_entry}
use Rattle.spf_x509.specs.Svid.{Svid}
use Rattle.spf_x509.proofs.Cuts.{ok_bind}
use Rattle.spf_api.specs.declared.error.WorkloadApiError.{WorkloadApiError}
use Rattle.spf_api.specs.declared.response.SvidEntry.{SvidEntry}
use Rattle.spf_api.specs.Parsed.{bundle_for, pair_of, svid_of_entry, with_bundle}
use Rattle.spf_api.specs.Sharing.{IsAdded}

turned : (o : Ordering) → o ≡ ordering_reverse o → o ≡ Equal
turned Less is = absurd (cc (is))
turned Equal is = refl
turned Greater is = absurd (cc (is))

same_name : (k : List ℕ) → slice_cmp nat_cmp k k ≡ Equal
same_name k = turned (slice_cmp nat_cmp k k) (nat_list_cmp_total.antisymm k k)

-- putting an entry once more changes nothing
put_twice : {V : Type 0} (es : List (List ℕ × V)) (k : List ℕ) (v : V)
    → with_entry (with_entry es k v) k v ≡ with_entry es k v
put_twice [] k v = rw (same_name k) refl
put_twice {V} (e ∷ es) k v = at (slice_cmp nat_cmp k e.0) refl (put_twice es k v)
  where
    at : (o : Ordering) → slice_cmp nat_cmp k e.0 ≡ o
        → with_entry (with_entry es k v) k v ≡ with_entry es k v
        → with_entry (match_ordering (slice_cmp nat_cmp k e.0) ((k, v) ∷ e ∷ es) ((e.0, v) ∷ es)
        (e ∷ with_entry es k v)) k v
        ≡ match_ordering (slice_cmp nat_cmp k e.0) ((k, v) ∷ e ∷ es) ((e.0, v) ∷ es)
        (e ∷ with_entry es k v)
    at Less is more = rw is (rw (same_name k) refl)
    at Equal is more = rw is (rw is refl)
    at Greater is more = rw is (rw is (ap (λ (xs : List (List ℕ × V)). e ∷ xs) more))

-- the bundle of an entry, where the entry is read
bundle_in : (entry : SvidEntry) (m : Svid × Bundle) → pair_of entry ≡ Ok m
    → bundle_for m.0.id.domain entry.bundle ≡ Ok m.1
unfolding pair_of
bundle_in entry m is =
    let s = ok_bind {E = WorkloadApiError} (svid_of_entry entry)
    (λ (svid : Svid). bundle_for svid.id.domain entry.bundle >>= λ bundle. Ok (svid, bundle)) m is
    in
    let b = ok_bind {E = WorkloadApiError} (bundle_for s.0.id.domain entry.bundle)
    (λ (bundle : Bundle). Ok (s.0, bundle)) m s.2 in
    let same : (s.0, b.0) ≡ m = cc (b.2) in
    subst (λ (n : Svid × Bundle). bundle_for n.0.id.domain entry.bundle ≡ Ok n.1) same b.1

-- the bundle of an entry is in the set once it was added
pub entry_is_added : (entry : SvidEntry) (old new : List (List ℕ × Bundle)) (m : Svid × Bundle)
    → pair_of entry ≡ Ok m → new ≡ with_bundle old m.1 → IsAdded new m.0.id.domain entry.bundle
entry_is_added entry old new m is put = record {
  bundle = m.1;
  read = bundle_in entry m is;
  stays = rw put (put_twice old m.1.domain m.1);
}

got_last : {A : Type 0} (xs : List A) (x : A) → slice_get (xs ++ x ∷ []) (length xs) ≡ Some x
got_last [] x = refl
got_last (y ∷ xs) x = got_last xs x

-- the last of a list is what was pushed
pub last_is : {A : Type 0} (xs : List A) (x y : A)
    → slice_get (xs ++ x ∷ []) (length (xs ++ x ∷ []) - 1) ≡ Some y → x ≡ y
last_is {A} xs x y is =
    let count : length (xs ++ x ∷ []) - 1 ≡ length xs =
    ap (λ (n : ℕ). n - 1) (length-append xs (x ∷ [])) ∙ (omega arith) in
    let found : Some x ≡ Some y =
    sym (got_last xs x) ∙ sym (ap (slice_get (xs ++ x ∷ [])) count) ∙ is in
    cc (found)
