-- The authorities of a trust domain, and the bundles of
-- several (SPIFFE Trust Domain and Bundle section 4).
use Rattle.std.specs.Prelude.{◌≡◌, ◌≢◌, ◌<◌, ℕ, length, take, map, Bool, ◌&&◌, nat_eq, List, []}
use Rattle.std.specs.Prelude.{◌∷◌, Option, Some, None, if◌then◌else◌}
use Rattle.std.specs.Ordering.{match_ordering, nat_cmp}
use Rattle.std.specs.Cmp.Lexicographic.{pointwise, slice_cmp}
use Rattle.std.specs.List.Sorted.{IsStrictlySortedBy}
use Rattle.std.specs.Map.{keys_of}
use Rattle.std.specs.Str.{bytes_eq}
use Rattle.std.specs.Arc.{arc_value}
use Rattle.std.specs.declared.sync.Arc.{Arc}
use Rattle.std.specs.declared.alloc.Global.{Global}

-- a trust domain and its authorities in order
pub record Bundle : Type 0 where
  pub domain : List ℕ
  pub authorities : List (List ℕ)

abbrev pub bundle_eq : Bundle → Bundle → Bool
bundle_eq a b =
    pointwise nat_eq a.domain b.domain && pointwise (pointwise nat_eq) a.authorities b.authorities

-- an entry of a bundle set: the trust domain, and its bundle
abbrev pub entry_eq : List ℕ × Bundle → List ℕ × Bundle → Bool
entry_eq p q = pointwise nat_eq p.0 q.0 && bundle_eq p.1 q.1

abbrev pub set_eq : List (List ℕ × Bundle) → List (List ℕ × Bundle) → Bool
set_eq = pointwise entry_eq

-- an entry without its sharing
abbrev pub plain_entry : List ℕ × Arc Bundle Global → List ℕ × Bundle
plain_entry e = (e.0, arc_value e.1)

-- the entries, in the order of the trust domains, with
-- that value instead of the one of that trust domain
abbrev pub with_entry : {V : Type 0} → List (List ℕ × V) → List ℕ → V → List (List ℕ × V)
with_entry [] k v = (k, v) ∷ []
with_entry (e ∷ es) k v =
    match_ordering (slice_cmp nat_cmp k e.0) ((k, v) ∷ e ∷ es) ((e.0, v) ∷ es)
    (e ∷ with_entry es k v)

-- the entries with those put in, one after the other
abbrev pub with_entries : {V : Type 0} → List (List ℕ × V) → List (List ℕ × V) → List (List ℕ × V)
with_entries es [] = es
with_entries es (f ∷ fs) = with_entries (with_entry es f.0 f.1) fs

-- the set with those bundles added in order: the last one of a trust domain stands
abbrev pub with_bundles : List (List ℕ × Bundle) → List Bundle → List (List ℕ × Bundle)
with_bundles set bundles = with_entries set (map (λ (b : Bundle). (b.domain, b)) bundles)

-- the set with the bundles before one that was refused
pub record HoldsFront (old : List (List ℕ × Bundle)) (bundles : List Bundle)
    (new : List (List ℕ × Bundle)) : Type 0 where
  pub count : ℕ
  pub refused : count < length bundles
  pub holds : new ≡ with_bundles old (take count bundles)

-- the value of that trust domain
abbrev pub find_entry : {V : Type 0} → List ℕ → List (List ℕ × V) → Option V
find_entry k [] = None
find_entry k (e ∷ es) = if bytes_eq k e.0 then Some e.1 else find_entry k es

-- each trust domain stands before those after it in the order of their bytes, so none stands twice
abbrev pub IsInDomainOrder : {V : Type 0} → List (List ℕ × V) → Type 0
IsInDomainOrder es = IsStrictlySortedBy (slice_cmp nat_cmp) (keys_of es)

-- each other trust domain has the bundle that it had
abbrev pub KeepsOthers : List ℕ → List (List ℕ × Bundle) → List (List ℕ × Bundle) → Type 0
KeepsOthers changed old new = (domain : List ℕ) → domain ≢ changed
    → find_entry domain new ≡ find_entry domain old
