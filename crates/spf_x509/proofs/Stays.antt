-- A bundle that stands in a set, and is added once more.
use Rattle.std.proofs.Common.{◌≡◌, ℕ, Bool, true, false, if◌then◌else◌, List, [], ◌∷◌, Some}
use Rattle.std.proofs.Common.{Ok, refl, sym, ap, ◌∙◌, subst}
use Rattle.std.specs.declared.cmp.Ordering.{Ordering}
use Rattle.std.specs.declared.cmp.Ordering.TheVariants.{Less, Equal, Greater}
use Rattle.std.specs.Ordering.{match_ordering, is_eq, ordering_reverse}
use Rattle.std.specs.Cmp.Lexicographic.{nat_list_cmp_total, texts_ties}
use Rattle.std.specs.List.{AllByRecursion}
use Rattle.std.specs.Map.{keys_of}
use Rattle.std.specs.Str.{bytes_eq}
use Rattle.std.proofs.lemmas.Map.Keys.{sorted_head, sorted_tail}
use Rattle.spf_io.specs.Rule.{broken_as}
use Rattle.spf_io.proofs.Exact.{bytes_exact}
use Rattle.spf_x509.specs.declared.error.X509BundleError.{X509BundleError}
use Rattle.spf_x509.specs.Bundle.{Bundle, find_entry, with_entry}
use Rattle.spf_x509.specs.BundleRule.{ChangesNothing, IsIn, bundle_of}
use Rattle.spf_x509.specs.Chain.{authorities_rule}
use Rattle.spf_x509.specs.Errors.{bundle_of_certificate}
use Rattle.spf_x509.proofs.Cuts.{ok_bind, ok_is}
use Rattle.spf_x509.proofs.Rising.{Rises, name_cmp}

-- what is found is one of the entries
one_of : {V : Type 0} (P : List ℕ → Type 0) (es : List (List ℕ × V)) (k : List ℕ) (v : V)
    → AllByRecursion P (keys_of es) → find_entry k es ≡ Some v → P k
one_of P [] k v all is = absurd (cc)
one_of {V} P (e ∷ es) k v all is =
    at (bytes_eq k e.0) refl (λ found. one_of P es k v all.1 found) is
  where
    at : (b : Bool) → bytes_eq k e.0 ≡ b → (find_entry k es ≡ Some v → P k)
        → (if b then Some e.1 else find_entry k es) ≡ Some v → P k
    at true same more found = subst P (sym ((bytes_exact k e.0).0 same)) all.0
    at false other more found = more found

-- putting it there again changes nothing
pub put_again : {V : Type 0} (es : List (List ℕ × V)) (k : List ℕ) (v : V) → Rises es
    → find_entry k es ≡ Some v → with_entry es k v ≡ es
put_again [] k v rises is = absurd (cc)
put_again {V} (e ∷ es) k v rises is =
    let rest = sorted_tail name_cmp e.0 (keys_of es) rises in
    at (name_cmp k e.0) refl (put_again es k v rest) (rw (texts_ties k e.0) at is)
  where
    at : (o : Ordering) → name_cmp k e.0 ≡ o
        → (find_entry k es ≡ Some v → with_entry es k v ≡ es)
        → (if is_eq (name_cmp k e.0) then Some e.1 else find_entry k es) ≡ Some v
        → match_ordering (name_cmp k e.0) ((k, v) ∷ e ∷ es) ((e.0, v) ∷ es)
        (e ∷ with_entry es k v) ≡ e ∷ es
    at Less is_less more found =
        let other : find_entry k es ≡ Some v = rw is_less at found in
        let before : name_cmp e.0 k ≡ Less =
        one_of (λ y. name_cmp e.0 y ≡ Less) es k v (sorted_head name_cmp e.0 (keys_of es) rises)
        other in
        let after : name_cmp e.0 k ≡ Greater =
        nat_list_cmp_total.antisymm e.0 k ∙ ap ordering_reverse is_less in
        absurd (cc (before, after))
    at Equal is_equal more found =
        let same : Some e.1 ≡ Some v = rw is_equal at found in
        let value : e.1 ≡ v = cc in
        rw is_equal (λ i. (e.0, sym value i) ∷ es)
    at Greater is_greater more found =
        let other : find_entry k es ≡ Some v = rw is_greater at found in
        rw is_greater (ap (λ (xs : List (List ℕ × V)). e ∷ xs) (more other))

domain_of : (domain der : List ℕ) (bundle : Bundle)
    → bundle_of domain (authorities_rule der) ≡ Ok bundle → bundle.domain ≡ domain
domain_of domain der bundle is =
    let made : List (List ℕ) → Bundle =
    λ authorities. record { domain = domain; authorities = authorities } in
    let a = ok_bind {E = X509BundleError} (broken_as bundle_of_certificate (authorities_rule der))
    (λ authorities. Ok (made authorities)) bundle is in
    let same = ok_is {E = X509BundleError} (made a.0) bundle (Ok (made a.0)) refl a.2 in
    ap (λ (b : Bundle). b.domain) (sym same)

-- where a bundle is found that the bytes are, adding it changes nothing
pub unchanged : (set : List (List ℕ × Bundle)) (domain der : List ℕ) → Rises set
    → IsIn set domain der → ChangesNothing set domain der
unchanged set domain der rises is bundle read =
    let same : is.bundle ≡ bundle =
    ok_is is.bundle bundle (bundle_of domain (authorities_rule der)) is.read read in
    ap (λ (k : List ℕ). with_entry set k bundle) (domain_of domain der bundle read)
    ∙ put_again set domain bundle rises (is.found ∙ ap Some same)
