-- What a set has of a trust domain is the last bundle that was added.
use Rattle.std.proofs.Common.{◌≡◌, ℕ, Bool, true, false, cond, List, [], ◌∷◌, Option, Some, None}
use Rattle.std.proofs.Common.{refl, sym, ap, ◌∙◌}
use Rattle.std.specs.declared.cmp.Ordering.{Ordering}
use Rattle.std.specs.declared.cmp.Ordering.TheVariants.{Less, Equal, Greater}
use Rattle.std.specs.Ordering.{match_ordering, nat_cmp, is_eq}
use Rattle.std.specs.Cmp.Lexicographic.{slice_cmp, texts_ties}
use Rattle.std.specs.Str.{bytes_eq}
use Rattle.std.proofs.lemmas.Slice.Eq.{bytes_eq-Decides}
use Rattle.spf_x509.specs.Bundle.{Bundle, with_entry, with_bundles, find_entry}
use Rattle.spf_api.specs.Parsed.{or_else, last_for}

-- a found value, where the key is that of the entry
abbrev pub at_key : {V : Type 0} → List ℕ → List ℕ → V → Option V → Option V
at_key q k v other = cond (bytes_eq q k) (Some v) other

twice : {A : Type 0} (b : Bool) (x y z : A) → cond b x z ≡ cond b x (cond b y z)
twice true x y z = refl
twice false x y z = refl

swapped : {A : Type 0} (a b : Bool) (x y z : A) → ¬ ((a ≡ true) × (b ≡ true))
    → cond b y (cond a x z) ≡ cond a x (cond b y z)
swapped true true x y z never = absurd (never (refl, refl))
swapped true false x y z never = refl
swapped false b x y z never = refl

placed : {V : Type 0} (o : Ordering) (e : List ℕ × V) (es : List (List ℕ × V)) (k : List ℕ) (v : V)
    (q : List ℕ) → slice_cmp nat_cmp k e.0 ≡ o
    → find_entry q (with_entry es k v) ≡ at_key q k v (find_entry q es)
    → find_entry q (match_ordering o ((k, v) ∷ e ∷ es) ((e.0, v) ∷ es) (e ∷ with_entry es k v))
    ≡ at_key q k v (at_key q e.0 e.1 (find_entry q es))
placed Less e es k v q is later = refl
placed {V} Equal e es k v q is later =
    let same : k ≡ e.0 = (bytes_eq-Decides k e.0).0 (texts_ties k e.0 ∙ ap is_eq is) in
    twice (bytes_eq q e.0) (Some v) (Some e.1) (find_entry q es)
    ∙ ap (λ (l : List ℕ). at_key q l v (at_key q e.0 e.1 (find_entry q es))) (sym same)
placed {V} Greater e es k v q is later =
    ap (λ (o : Option V). at_key q e.0 e.1 o) later
    ∙ swapped (bytes_eq q k) (bytes_eq q e.0) (Some v) (Some e.1) (find_entry q es) (λ both.
    let same : k ≡ e.0 =
    sym ((bytes_eq-Decides q k).0 both.0) ∙ (bytes_eq-Decides q e.0).0 both.1 in
    let tie : true ≡ is_eq Greater =
    sym ((bytes_eq-Decides k e.0).1 same) ∙ texts_ties k e.0 ∙ ap is_eq is in
    cc)

-- one entry is put in its place
found_put : {V : Type 0} (es : List (List ℕ × V)) (k : List ℕ) (v : V) (q : List ℕ)
    → find_entry q (with_entry es k v) ≡ at_key q k v (find_entry q es)
found_put [] k v q = refl
found_put (e ∷ es) k v q = placed (slice_cmp nat_cmp k e.0) e es k v q refl (found_put es k v q)

joined : {V : Type 0} (later : Option V) (b : Bool) (v : V) (other : Option V)
    → or_else later (cond b (Some v) other) ≡ or_else (or_else later (cond b (Some v) None)) other
joined (Some x) b v other = refl
joined None true v other = refl
joined None false v other = refl

-- the last bundle of a trust domain stands in place of what the set had
added : (set : List (List ℕ × Bundle)) (bundles : List Bundle) (domain : List ℕ)
    → find_entry domain (with_bundles set bundles)
    ≡ or_else (last_for domain bundles) (find_entry domain set)
added set [] domain = refl
added set (b ∷ bundles) domain =
    added (with_entry set b.domain b) bundles domain
    ∙ ap (λ (o : Option Bundle). or_else (last_for domain bundles) o)
    (found_put set b.domain b domain)
    ∙ joined (last_for domain bundles) (bytes_eq domain b.domain) b (find_entry domain set)

alone : {V : Type 0} (found : Option V) → or_else found None ≡ found
alone (Some x) = refl
alone None = refl

pub last_stands : (bundles : List Bundle) (domain : List ℕ)
    → find_entry domain (with_bundles [] bundles) ≡ last_for domain bundles
last_stands bundles domain = added [] bundles domain ∙ alone (last_for domain bundles)
