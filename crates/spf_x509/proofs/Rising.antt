-- Entries in the order of their trust domains, put in one after the other.
use Rattle.std.proofs.Common.{◌≡◌, ℕ, List, [], ◌∷◌, ◌++◌, map, refl, sym, ap, ◌∙◌, subst}
use Rattle.std.proofs.Common.{append_assoc}
use Rattle.std.specs.declared.cmp.Ordering.{Ordering}
use Rattle.std.specs.declared.cmp.Ordering.TheVariants.{Less, Greater}
use Rattle.std.specs.declared.sync.Arc.{Arc}
use Rattle.std.specs.declared.alloc.Global.{Global}
use Rattle.std.specs.Arc.{arc_value}
use Rattle.std.specs.Ordering.{nat_cmp, ordering_reverse}
use Rattle.std.specs.BTreeMap.{insert_entry}
use Rattle.std.specs.Cmp.Lexicographic.{slice_cmp, nat_list_cmp_total}
use Rattle.std.specs.List.{AllByRecursion}
use Rattle.std.specs.List.Sorted.{IsStrictlySortedBy}
use Rattle.std.specs.Map.{keys_of}
use Rattle.std.proofs.lemmas.List.{append-nil}
use Rattle.std.proofs.lemmas.Map.Keys.{sorted_head, sorted_tail}
use Rattle.spf_x509.specs.Bundle.{Bundle, plain_entry, with_entry, with_entries}
use Rattle.spf_x509.proofs.Entries.{insert_plain}

abbrev pub name_cmp : List ℕ → List ℕ → Ordering
name_cmp = slice_cmp nat_cmp

-- each trust domain stands before those after it
abbrev pub Rises : {V : Type 0} → List (List ℕ × V) → Type 0
Rises es = IsStrictlySortedBy name_cmp (keys_of es)

-- what holds of each trust domain holds of this one
pub member : {V : Type 0} (P : List ℕ → Type 0) (front : List (List ℕ × V)) (f : List ℕ × V)
    (rest : List (List ℕ × V))
    → AllByRecursion P (keys_of (front ++ f ∷ rest)) → P f.0
member P [] f rest all = all.0
member P (e ∷ front) f rest all = member P front f rest all.1

-- what comes after all entries is put at the end
at_end : {V : Type 0} (front : List (List ℕ × V)) (f : List ℕ × V) (rest : List (List ℕ × V))
    → Rises (front ++ f ∷ rest)
    → with_entry front f.0 f.1 ≡ front ++ f ∷ []
at_end [] f rest rises = refl
at_end {V} (e ∷ front) f rest rises =
    let before : name_cmp e.0 f.0 ≡ Less =
    member (λ y. name_cmp e.0 y ≡ Less) front f rest
    (sorted_head name_cmp e.0 (keys_of (front ++ f ∷ rest)) rises) in
    let after : name_cmp f.0 e.0 ≡ Greater =
    nat_list_cmp_total.antisymm f.0 e.0 ∙ ap ordering_reverse before in
    rw after (ap (λ (es : List (List ℕ × V)). e ∷ es)
    (at_end front f rest (sorted_tail name_cmp e.0 (keys_of (front ++ f ∷ rest)) rises)))

all_at_end : {V : Type 0} (front es : List (List ℕ × V)) → Rises (front ++ es)
    → with_entries front es ≡ front ++ es
all_at_end front [] rises = sym (append-nil front)
all_at_end {V} front (f ∷ es) rises =
    let P : List (List ℕ × V) → Type 0 = λ xs. Rises xs in
    let rises_on : Rises ((front ++ f ∷ []) ++ es) =
    subst P (sym (append_assoc front (f ∷ []) es)) rises in
    rw (at_end front f es rises)
    (all_at_end (front ++ f ∷ []) es rises_on ∙ append_assoc front (f ∷ []) es)

abbrev pub Shared : Type 0
Shared = List ℕ × Arc Bundle Global

-- the trust domains are seen without sharing
pub same_keys : (es : List Shared) → keys_of es ≡ keys_of (map plain_entry es)
same_keys [] = refl
same_keys (e ∷ es) = ap (λ (ks : List (List ℕ)). e.0 ∷ ks) (same_keys es)

-- entries in order that are put in are those entries
pub again : (es : List (List ℕ × Bundle)) → Rises es → with_entries [] es ≡ es
again es rises = all_at_end [] es rises

-- one more entry is added
pub one_put : (es : List Shared) (left after : List (List ℕ × Bundle)) (k same_k : List ℕ)
    (b : Bundle) (v : Arc Bundle Global) (total : List (List ℕ × Bundle))
    → left ≡ (k, b) ∷ after → same_k ≡ k → arc_value v ≡ b
    → with_entries (map plain_entry es) left ≡ total
    → with_entries (map plain_entry (insert_entry name_cmp es same_k v)) after ≡ total
one_put es left after k same_k b v total is key value going =
    let put : map plain_entry (insert_entry name_cmp es same_k v)
    ≡ with_entry (map plain_entry es) k b =
    insert_plain es same_k v ∙ (λ i. with_entry (map plain_entry es) (key i) (value i)) in
    ap (λ (s : List (List ℕ × Bundle)). with_entries s after) put
    ∙ sym (ap (λ (xs : List (List ℕ × Bundle)). with_entries (map plain_entry es) xs) is)
    ∙ going
