-- Entries in a list or in a tree, with one more put in.
use Rattle.std.proofs.Common.{◌≡◌, ◌≢◌, ◌<◌, ◌≤◌, ℕ, Bool, true, false, ◌&&◌, List, [], ◌∷◌, ◌++◌}
use Rattle.std.proofs.Common.{◌+◌, length, map, inl, inr, refl, sym, ap, ◌∙◌, subst, arith}
use Rattle.std.proofs.Common.{Result, Ok, Err}
use Rattle.std.specs.declared.cmp.Ordering.{Ordering}
use Rattle.std.specs.declared.cmp.Ordering.TheVariants.{Less, Equal, Greater}
use Rattle.std.specs.declared.sync.Arc.{Arc}
use Rattle.std.specs.declared.alloc.Global.{Global}
use Rattle.std.specs.Arc.{arc_value}
use Rattle.std.specs.BTreeMap.{insert_entry}
use Rattle.std.specs.List.{AllByRecursion, insert}
use Rattle.std.specs.List.Sorted.{IsStrictlySortedBy}
use Rattle.std.specs.Map.{keys_of}
use Rattle.std.specs.Ordering.{match_ordering, ordering_reverse}
use Rattle.std.specs.Result.{OnErr, OnOk}
use Rattle.std.specs.Cmp.Lexicographic.{nat_list_cmp_total, unequal}
use Rattle.std.proofs.lemmas.List.{append-nil, length-map}
use Rattle.std.proofs.lemmas.List.Edits.{length-insert}
use Rattle.spf_x509.specs.declared.bundle_map.TheConstants.{FEW}
use Rattle.spf_x509.specs.Bundle.{Bundle, entry_eq, plain_entry, set_eq, with_entry}
use Rattle.spf_x509.specs.BundleMap.{AreFewOrMany, GoesAt}
use Rattle.spf_x509.proofs.Entries.{insert_plain, with_plain}
use Rattle.spf_x509.proofs.Rising.{Rises, Shared, name_cmp, same_keys}

all_map : (P Q : List ℕ → Type 0) → ((x : List ℕ) → P x → Q x) → (ks : List (List ℕ))
    → AllByRecursion P ks → AllByRecursion Q ks
all_map P Q of [] all = tt
all_map P Q of (k ∷ ks) all = (of k all.0, all_map P Q of ks all.1)

module _ {V : Type 0} where
  all_step : (P : List ℕ → Type 0) (o : Ordering) (e : List ℕ × V) (es others : List (List ℕ × V))
      (k : List ℕ) (v : V) → AllByRecursion P (keys_of (e ∷ es))
      → AllByRecursion P (keys_of others) → P k
      → AllByRecursion P
      (keys_of (match_ordering o ((k, v) ∷ e ∷ es) ((e.0, v) ∷ es) (e ∷ others)))
  all_step P Less e es others k v all more here = (here, all)
  all_step P Equal e es others k v all more here = (all.0, all.1)
  all_step P Greater e es others k v all more here = (all.0, more)

  all_with : (P : List ℕ → Type 0) (es : List (List ℕ × V)) (k : List ℕ) (v : V)
      → AllByRecursion P (keys_of es) → P k → AllByRecursion P (keys_of (with_entry es k v))
  all_with P [] k v all here = (here, tt)
  all_with P (e ∷ es) k v all here =
      all_step P (name_cmp k e.0) e es (with_entry es k v) k v all
      (all_with P es k v all.1 here) here

  rises_step : (o : Ordering) (e : List ℕ × V) (es others : List (List ℕ × V))
      (k : List ℕ) (v : V) → name_cmp k e.0 ≡ o → Rises (e ∷ es)
      → (name_cmp e.0 k ≡ Less → AllByRecursion (λ y. name_cmp e.0 y ≡ Less) (keys_of others))
      → Rises others
      → Rises (match_ordering o ((k, v) ∷ e ∷ es) ((e.0, v) ∷ es) (e ∷ others))
  unfolding IsStrictlySortedBy
  rises_step Less e es others k v is rises all more = (
    (
      is,
      all_map (λ y. name_cmp e.0 y ≡ Less) (λ y. name_cmp k y ≡ Less)
          (λ y below. nat_list_cmp_total.trans k e.0 y is below) (keys_of es) rises.0,
    ),
    rises,
  )
  rises_step Equal e es others k v is rises all more = (rises.0, rises.1)
  rises_step Greater e es others k v is rises all more =
      (all (nat_list_cmp_total.antisymm e.0 k ∙ ap ordering_reverse is), more)

  -- entries in order stay so
  pub rises_with : (es : List (List ℕ × V)) (k : List ℕ) (v : V) → Rises es
      → Rises (with_entry es k v)
  unfolding IsStrictlySortedBy
  rises_with [] k v rises = (tt, tt)
  rises_with (e ∷ es) k v rises =
      rises_step (name_cmp k e.0) e es (with_entry es k v) k v refl rises
      (λ below. all_with (λ y. name_cmp e.0 y ≡ Less) es k v rises.0 below)
      (rises_with es k v rises.1)

abbrev Entries : Type 0
Entries = List (List ℕ × Bundle)

abbrev plain : List Shared → Entries
plain es = map plain_entry es

abbrev Are : List Shared → List Shared → Type 0
Are few many = AreFewOrMany (plain few) (plain many)

alone : (few many : List Shared) → many ≡ [] → plain few ++ plain many ≡ plain few
alone few many none = rw none (append-nil (plain few))

-- where the tree is empty, the list is in order
pub few_rise : (few many : List Shared) → Are few many → many ≡ [] → Rises few
few_rise few many are none =
    let Rise : List (List ℕ) → Type 0 = λ ks. IsStrictlySortedBy name_cmp ks in
    subst Rise (sym (same_keys few ∙ sym (ap keys_of (alone few many none)))) are.order

-- the list takes an entry
pub few_put : (few many new : List Shared) (k : List ℕ) (v : Arc Bundle Global) → many ≡ []
    → new ≡ with_entry few k v
    → plain new ++ plain many ≡ with_entry (plain few ++ plain many) k (arc_value v)
few_put few many new k v none is =
    alone new many none ∙ ap plain is ∙ with_plain few k v
    ∙ ap (λ (es : Entries). with_entry es k (arc_value v)) (sym (alone few many none))

pub few_are : (few many new : List Shared) (k : List ℕ) (v : Arc Bundle Global) → Are few many
    → many ≡ [] → new ≡ with_entry few k v → length new ≤ FEW → Are new many
few_are few many new k v are none is small = record {
  order = subst (λ (es : Entries). Rises es) (sym (few_put few many new k v none is))
      (rises_with (plain few ++ plain many) k (arc_value v) are.order);
  small = omega (arith, length-map new plain_entry);
  either = inl (ap plain none);
}

-- the list takes an entry, unless memory runs out
pub few_tried : {T E : Type 0} (r : Result T E) (few many new : List Shared) (k : List ℕ)
    (v : Arc Bundle Global) (i : ℕ) → Are few many → many ≡ [] → GoesAt few k i
    → length few < FEW → OnOk r (new ≡ insert few i (k, v)) → OnErr r (new ≡ few) → Are new many
few_tried (Ok _) few many new k v i are none goes room is same =
    let longer = length-insert few i (k, v) goes.within in
    few_are few many new k v are none (is ∙ sym (goes.put v)) (omega (arith, ap length is, longer))
few_tried (Err _) few many new k v i are none goes room is same = rw same are

no_few : (few many : List Shared) → Are few many → length many ≢ 0
    → (plain few ≡ []) × (FEW < length many)
no_few few many are some =
    let same = length-map many plain_entry in
    elim are.either [
      | inl none ↦ absurd (some (sym same ∙ ap length none))
      | inr p ↦ (p.0, omega (arith, p.1))
    ]

-- the tree takes an entry
pub many_put : (few many new : List Shared) (k : List ℕ) (v : Arc Bundle Global) → Are few many
    → length many ≢ 0 → new ≡ insert_entry name_cmp many k v
    → plain few ++ plain new ≡ with_entry (plain few ++ plain many) k (arc_value v)
many_put few many new k v are some is =
    rw (no_few few many are some).0 (ap plain is ∙ insert_plain many k v)

pub many_are : (few many new : List Shared) (k : List ℕ) (v : Arc Bundle Global) → Are few many
    → length many ≢ 0 → new ≡ insert_entry name_cmp many k v → length many ≤ length new
    → Are few new
many_are few many new k v are some is more =
    let p = no_few few many are some in record {
      order = subst (λ (es : Entries). Rises es) (sym (many_put few many new k v are some is))
          (rises_with (plain few ++ plain many) k (arc_value v) are.order);
      small = are.small;
      either = inr (p.0, omega (arith, p.1, length-map new plain_entry));
    }

-- the entries move into the tree, which takes one more
pub moved_put : (old : Entries) (tree new : List Shared) (k : List ℕ) (v : Arc Bundle Global)
    → plain tree ≡ old → new ≡ insert_entry name_cmp tree k v
    → plain new ≡ with_entry old k (arc_value v)
moved_put old tree new k v same is =
    ap plain is ∙ insert_plain tree k v
    ∙ ap (λ (es : Entries). with_entry es k (arc_value v)) same

pub moved_are : (few many new : List Shared) (k : List ℕ) (v : Arc Bundle Global) (i : ℕ)
    → Are few many → many ≡ [] → GoesAt few k i → FEW ≤ length few
    → plain new ≡ with_entry (plain few ++ plain many) k (arc_value v) → Are [] new
moved_are few many new k v i are none goes full put =
    let in_list : plain new ≡ plain (insert few i (k, v)) =
    put ∙ sym (few_put few many (with_entry few k v) k v none refl)
    ∙ alone (with_entry few k v) many none ∙ ap plain (goes.put v) in
    let more : length (plain new) ≡ length few + 1 =
    ap length in_list ∙ length-map (insert few i (k, v)) plain_entry
    ∙ length-insert few i (k, v) goes.within in
    record {
      order = subst (λ (es : Entries). Rises es) (sym put)
          (rises_with (plain few ++ plain many) k (arc_value v) are.order);
      small = omega arith;
      either = inr (refl, omega arith);
    }

and_true : (b : Bool) → b ≡ (b && true)
and_true true = refl
and_true false = refl

and_false : (b : Bool) → false ≡ (b && false)
and_false true = refl
and_false false = refl

parts : (few many other_few other_many : Entries) → AreFewOrMany few many
    → AreFewOrMany other_few other_many
    → set_eq (few ++ many) (other_few ++ other_many)
    ≡ (set_eq few other_few && set_eq many other_many)
parts few many other_few other_many are others = elim are.either [
  | inl none ↦ elim others.either [
    | inl no_other ↦
        rw (none, no_other, append-nil few, append-nil other_few) (and_true (set_eq few other_few))
    | inr p ↦
        let apart : length few ≢ length other_many = omega (arith, are.small, p.1) in
        let empty : length {A = List ℕ × Bundle} [] ≢ length other_many = omega (arith, p.1) in
        rw (
          none,
          p.0,
          append-nil few,
          unequal entry_eq few other_many apart,
          unequal entry_eq [] other_many empty,
        ) (and_false (set_eq few []))
  ]
  | inr p ↦ elim others.either [
    | inl no_other ↦
        let apart : length many ≢ length other_few = omega (arith, others.small, p.1) in
        let empty : length many ≢ length {A = List ℕ × Bundle} [] = omega (arith, p.1) in
        rw (
          p.0,
          no_other,
          append-nil other_few,
          unequal entry_eq many other_few apart,
          unequal entry_eq many [] empty,
        ) (and_false (set_eq [] other_few))
    | inr q ↦ rw (p.0, q.0) refl
  ]
]

-- the sets are equal where the lists are, and the trees
pub equal_parts : (few many other_few other_many : Entries) (a b : Bool)
    → AreFewOrMany few many → AreFewOrMany other_few other_many
    → a ≡ set_eq few other_few → b ≡ set_eq many other_many
    → (a && b) ≡ set_eq (few ++ many) (other_few ++ other_many)
equal_parts few many other_few other_many a b are others few_are many_are =
    (λ i. few_are i && many_are i) ∙ sym (parts few many other_few other_many are others)
