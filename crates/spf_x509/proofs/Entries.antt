-- The entries of a bundle set, seen without their sharing.
use Rattle.std.proofs.Common.{◌≡◌, ◌<◌, length, take, length-append, arith, ℕ, Bool, true, false}
use Rattle.std.proofs.Common.{cond, List, [], ◌∷◌, ◌++◌, map, Option, Some, None, refl, ap, ◌∙◌}
use Rattle.std.specs.Borrow.{Bor}
use Rattle.std.specs.declared.cmp.Ordering.{Ordering}
use Rattle.std.specs.declared.cmp.Ordering.TheVariants.{Less, Equal, Greater}
use Rattle.std.specs.Option.{option_map, option_copied}
use Rattle.std.specs.Ordering.{match_ordering, nat_cmp, is_eq}
use Rattle.std.specs.Cmp.Lexicographic.{slice_cmp, texts_ties}
use Rattle.std.specs.Arc.{arc_value}
use Rattle.std.specs.declared.sync.Arc.{Arc}
use Rattle.std.specs.declared.alloc.Global.{Global}
use Rattle.std.proofs.lemmas.List.{map_push}
use Rattle.std.specs.BTreeMap.{insert_entry, is_at}
use Rattle.std.specs.Map.{lookup}
use Rattle.spf_x509.specs.Bundle.{Bundle, HoldsFront, plain_entry, with_entry, with_entries}
use Rattle.spf_x509.specs.Bundle.{with_bundles, find_entry}

abbrev Shared : Type 0
Shared = List ℕ × Arc Bundle Global

step : (o : Ordering) (e : Shared) (es : List Shared) (k : List ℕ) (v : Arc Bundle Global)
    (others : List Shared) (seen : List (List ℕ × Bundle))
    → map plain_entry others ≡ seen
    → map plain_entry (match_ordering o ((k, v) ∷ e ∷ es) ((e.0, v) ∷ es) (e ∷ others))
    ≡ match_ordering o ((k, arc_value v) ∷ plain_entry e ∷ map plain_entry es)
    ((e.0, arc_value v) ∷ map plain_entry es) (plain_entry e ∷ seen)
step Less e es k v others seen is = refl
step Equal e es k v others seen is = refl
step Greater e es k v others seen is = ap (λ (xs : List (List ℕ × Bundle)). plain_entry e ∷ xs) is

-- adding a shared bundle is adding the bundle
pub insert_plain : (es : List Shared) (k : List ℕ) (v : Arc Bundle Global)
    → map plain_entry (insert_entry (slice_cmp nat_cmp) es k v)
    ≡ with_entry (map plain_entry es) k (arc_value v)
insert_plain [] k v = refl
insert_plain (e ∷ es) k v =
    step (slice_cmp nat_cmp k e.0) e es k v (insert_entry (slice_cmp nat_cmp) es k v)
    (with_entry (map plain_entry es) k (arc_value v)) (insert_plain es k v)

-- so is putting it in
pub with_plain : (es : List Shared) (k : List ℕ) (v : Arc Bundle Global)
    → map plain_entry (with_entry es k v) ≡ with_entry (map plain_entry es) k (arc_value v)
with_plain [] k v = refl
with_plain (e ∷ es) k v =
    step (slice_cmp nat_cmp k e.0) e es k v (with_entry es k v)
    (with_entry (map plain_entry es) k (arc_value v)) (with_plain es k v)

found : (b : Bool) (v : Arc Bundle Global) (others : Option (Arc Bundle Global))
    (seen : Option Bundle)
    → option_map arc_value others ≡ seen
    → option_map arc_value (cond b (Some v) others) ≡ cond b (Some (arc_value v)) seen
found true v others seen is = refl
found false v others seen is = is

pub lookup_plain : (es : List Shared) (k : List ℕ)
    → option_map arc_value (lookup (is_at (slice_cmp nat_cmp k)) es)
    ≡ find_entry k (map plain_entry es)
lookup_plain [] k = refl
lookup_plain (e ∷ es) k =
    rw (texts_ties k e.0)
    (found (is_eq (slice_cmp nat_cmp k e.0)) e.1 (lookup (is_at (slice_cmp nat_cmp k)) es)
    (find_entry k (map plain_entry es)) (lookup_plain es k))

pub seen_arc : (r : Option (Bor (Arc Bundle Global))) (o : Option (Arc Bundle Global))
    → option_copied r ≡ o → option_map (λ a. arc_value a.now) r ≡ option_map arc_value o
seen_arc None o is = ap (option_map arc_value) is
seen_arc (Some r) o is = ap (option_map arc_value) is

one_more : {V : Type 0} (es fs : List (List ℕ × V)) (f : List ℕ × V)
    → with_entries es (fs ++ f ∷ []) ≡ with_entry (with_entries es fs) f.0 f.1
one_more es [] f = refl
one_more es (g ∷ fs) f = one_more (with_entry es g.0 g.1) fs f

-- one more bundle is added
pub one_more_bundle : (set : List (List ℕ × Bundle)) (bundles : List Bundle) (b : Bundle)
    → with_bundles set (bundles ++ b ∷ []) ≡ with_entry (with_bundles set bundles) b.domain b
one_more_bundle set bundles b =
    ap (with_entries set) (map_push (λ (x : Bundle). (x.domain, x)) bundles b)
    ∙ one_more set (map (λ (x : Bundle). (x.domain, x)) bundles) (b.domain, b)

taken : {V : Type 0} (front : List V) (b : V) (rest : List V)
    → take (length front) (front ++ b ∷ rest) ≡ front
taken [] b rest = refl
taken {V} (f ∷ front) b rest = ap (λ (xs : List V). f ∷ xs) (taken front b rest)

counted : {V : Type 0} (front : List V) (b : V) (rest : List V)
    → length front < length (front ++ b ∷ rest)
counted front b rest = omega (arith, length-append front (b ∷ rest))

-- a bundle was refused
pub holds_front : (old : List (List ℕ × Bundle)) (bundles front : List Bundle) (b : Bundle)
    (rest : List Bundle) (new : List (List ℕ × Bundle))
    → front ++ b ∷ rest ≡ bundles → new ≡ with_bundles old front → HoldsFront old bundles new
holds_front old bundles front b rest new is holds = record {
  count = length front;
  refused = rw (← is) (counted front b rest);
  holds = rw (← is, taken front b rest) holds;
}
