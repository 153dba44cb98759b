-- The entries of an ordered map, seen by plain names and values.
use Rattle.std.proofs.Common.{◌≡◌, ℕ, Bool, true, false, cond, List, [], ◌∷◌, ◌++◌, map, Option}
use Rattle.std.proofs.Common.{Some, None, String, string_bytes, refl, ap, ◌∙◌}
use Rattle.std.specs.Borrow.{Bor}
use Rattle.std.specs.declared.cmp.Ordering.{Ordering}
use Rattle.std.specs.declared.cmp.Ordering.TheVariants.{Less, Equal, Greater}
use Rattle.std.specs.Option.{option_map, option_copied}
use Rattle.std.specs.Ordering.{match_ordering, nat_cmp, is_eq}
use Rattle.std.specs.Cmp.Lexicographic.{slice_cmp, texts_ties}
use Rattle.std.specs.Arc.{arc_value}
use Rattle.std.specs.declared.sync.Arc.{Arc}
use Rattle.std.specs.declared.alloc.Global.{Global}
use Rattle.std.specs.BTreeMap.{insert_entry, is_at}
use Rattle.std.specs.Map.{keys_of, lookup}
use Rattle.std.specs.List.{AllByRecursion}
use Rattle.std.specs.List.Sorted.{IsStrictlySortedBy}
use Rattle.std.specs.String.{string_cmp}
use Rattle.std.proofs.lemmas.List.{map_push}
use Rattle.spf_jwt.specs.Responses.{with_bundles}
use Rattle.spf_jwt.specs.Authority.{Authority}
use Rattle.spf_jwt.specs.Bundle.{Bundle, keyed, plain_entry, with_authorities}
use Rattle.spf_x509.specs.Bundle.{with_entry, with_entries, find_entry}
use Rattle.spf_jwt.specs.Entries.{IsInOrder}

module _ {K X V : Type 0} (name : K → List ℕ) (value : X → V) where
  abbrev seen : K × X → List ℕ × V
  seen e = (name e.0, value e.1)

  step : (o : Ordering) (e : K × X) (es : List (K × X)) (k : K) (x : X) (others : List (K × X))
      (plain : List (List ℕ × V))
      → map seen others ≡ plain
      → map seen (match_ordering o ((k, x) ∷ e ∷ es) ((e.0, x) ∷ es) (e ∷ others))
      ≡ match_ordering o ((name k, value x) ∷ seen e ∷ map seen es)
      ((name e.0, value x) ∷ map seen es) (seen e ∷ plain)
  step Less e es k x others plain is = refl
  step Equal e es k x others plain is = refl
  step Greater e es k x others plain is = ap (λ (xs : List (List ℕ × V)). seen e ∷ xs) is

  -- an insertion
  pub insert_seen : (es : List (K × X)) (k : K) (x : X)
      → map seen (insert_entry (λ j l. slice_cmp nat_cmp (name j) (name l)) es k x)
      ≡ with_entry (map seen es) (name k) (value x)
  insert_seen [] k x = refl
  insert_seen (e ∷ es) k x =
      step (slice_cmp nat_cmp (name k) (name e.0)) e es k x
      (insert_entry (λ j l. slice_cmp nat_cmp (name j) (name l)) es k x)
      (with_entry (map seen es) (name k) (value x)) (insert_seen es k x)

  found : (b : Bool) (x : X) (others : Option X) (plain : Option V)
      → option_map value others ≡ plain
      → option_map value (cond b (Some x) others) ≡ cond b (Some (value x)) plain
  found true x others plain is = refl
  found false x others plain is = is

  -- a search
  pub lookup_seen : (es : List (K × X)) (wanted : List ℕ)
      → option_map value (lookup (is_at (λ k. slice_cmp nat_cmp wanted (name k))) es)
      ≡ find_entry wanted (map seen es)
  lookup_seen [] wanted = refl
  lookup_seen (e ∷ es) wanted =
      rw (texts_ties wanted (name e.0))
      (found (is_eq (slice_cmp nat_cmp wanted (name e.0))) e.1
      (lookup (is_at (λ k. slice_cmp nat_cmp wanted (name k))) es)
      (find_entry wanted (map seen es)) (lookup_seen es wanted))

pub seen_ref : {X V : Type 0} (value : X → V) (r : Option (Bor X)) (o : Option X)
    → option_copied r ≡ o → option_map (λ a. value a.now) r ≡ option_map value o
seen_ref value None o is = ap (option_map value) is
seen_ref value (Some r) o is = ap (option_map value) is

one_more : {V : Type 0} (es fs : List (List ℕ × V)) (f : List ℕ × V)
    → with_entries es (fs ++ f ∷ []) ≡ with_entry (with_entries es fs) f.0 f.1
one_more es [] f = refl
one_more es (g ∷ fs) f = one_more (with_entry es g.0 g.1) fs f

-- one more key is added
pub one_more_key : (held : List (List ℕ × Authority)) (keys : List Authority) (a : Authority)
    → with_authorities held (keys ++ a ∷ [])
    ≡ with_entry (with_authorities held keys) a.key_id a
one_more_key held keys a =
    ap (with_entries held) (map_push (λ (x : Authority). (x.key_id, x)) keys a)
    ∙ one_more held (map (λ (x : Authority). (x.key_id, x)) keys) (a.key_id, a)

-- the keys of a bundle, without the names
pub keyed_values : (es : List (String Global × Authority))
    → map (λ (e : String Global × Authority). e.1) es
    ≡ map (λ (e : List ℕ × Authority). e.1) (map keyed es)
keyed_values [] = refl
keyed_values (e ∷ es) = ap (λ (vs : List Authority). e.1 ∷ vs) (keyed_values es)

all_named : {V : Type 0} (k : String Global) (es : List (String Global × V))
    → AllByRecursion (λ y. string_cmp k y ≡ Less) (keys_of es)
    → AllByRecursion (λ y. slice_cmp nat_cmp (string_bytes k) y ≡ Less)
    (keys_of (map (λ (e : String Global × V). (string_bytes e.0, e.1)) es))
all_named k [] all = tt
all_named k (e ∷ es) all = (all.0, all_named k es all.1)

-- texts in order are so as bytes
pub keyed_order : (es : List (String Global × Authority))
    → IsStrictlySortedBy string_cmp (keys_of es) → IsInOrder (map keyed es)
unfolding IsStrictlySortedBy
keyed_order [] rises = rises
keyed_order (e ∷ es) rises = (all_named e.0 es rises.0, keyed_order es rises.1)

-- a key is put in under its `kid`
pub insert_keyed : (es : List (String Global × Authority)) (k : String Global) (a : Authority)
    → string_bytes k ≡ a.key_id
    → map keyed (insert_entry string_cmp es k a) ≡ with_entry (map keyed es) a.key_id a
insert_keyed es k a named =
    insert_seen string_bytes (λ (x : Authority). x) es k a
    ∙ ap (λ (n : List ℕ). with_entry (map keyed es) n a) named

pub insert_plain : (es : List (List ℕ × Arc Bundle Global)) (k : List ℕ) (v : Arc Bundle Global)
    → map plain_entry (insert_entry (slice_cmp nat_cmp) es k v)
    ≡ with_entry (map plain_entry es) k (arc_value v)
insert_plain es k v = insert_seen (λ (n : List ℕ). n) arc_value es k v

pub lookup_plain : (es : List (List ℕ × Arc Bundle Global)) (k : List ℕ)
    → option_map arc_value (lookup (is_at (slice_cmp nat_cmp k)) es)
    ≡ find_entry k (map plain_entry es)
lookup_plain es k = lookup_seen (λ (n : List ℕ). n) arc_value es k

pub plain_keys : (es : List (List ℕ × Arc Bundle Global))
    → keys_of es ≡ keys_of (map plain_entry es)
plain_keys [] = refl
plain_keys (e ∷ es) = ap (λ (ks : List (List ℕ)). e.0 ∷ ks) (plain_keys es)

-- one more bundle is added
pub one_more_bundle : (set : List (List ℕ × Bundle)) (bundles : List Bundle) (b : Bundle)
    → with_bundles set (bundles ++ b ∷ []) ≡ with_entry (with_bundles set bundles) b.domain b
one_more_bundle set bundles b =
    ap (with_entries set) (map_push (λ (x : Bundle). (x.domain, x)) bundles b)
    ∙ one_more set (map (λ (x : Bundle). (x.domain, x)) bundles) (b.domain, b)
