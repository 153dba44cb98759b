-- A rule that each member keeps, as a loop applies it.
use Rattle.std.proofs.Common.{◌≡◌, ℕ, ◌+◌, ◌<◌, ◌≤◌, List, [], ◌∷◌, ◌++◌, length, get_or, take, map}
use Rattle.std.proofs.Common.{Result, Ok, Err, zero, suc, refl, sym, ap, ◌∙◌, arith}
use Rattle.std.proofs.lemmas.List.{take_all}
use Rattle.spf_io.specs.Rule.{◌>>=◌, each}
use Rattle.spf_io.proofs.Each.{each_more, each_fails}
use Rattle.spf_api.specs.declared.response.SvidEntryView.{SvidEntryView}
use Rattle.spf_api.specs.declared.response.BundleEntryView.{BundleEntryView}
use Rattle.spf_api.specs.Parsed.{kept_by_each}

-- within the list the default does not matter
pub get_or_same : {A : Type 0} (xs : List A) (i : ℕ) (d e : A) → i < length xs
    → get_or xs i d ≡ get_or xs i e
get_or_same [] i d e lt = absurd (omega arith)
get_or_same (x ∷ xs) zero d e lt = refl
get_or_same (x ∷ xs) (suc i) d e lt = get_or_same xs i d e (omega arith)

-- each of the members keeps the rule
pub record Kept {A E : Type 0} (rule : A → Result (Unit {0}) E) (members : List A) : Type 0 where
  pub answers : List (Unit {0})
  pub are : each rule members ≡ Ok answers

pub kept_more : {A E : Type 0} (rule : A → Result (Unit {0}) E) (xs : List A) (i : ℕ) (d : A)
    → Kept rule (take i xs) → i < length xs → rule (get_or xs i d) ≡ Ok tt
    → Kept rule (take (i + 1) xs)
kept_more rule xs i d kept lt keeps =
    record {
      answers = kept.answers ++ tt ∷ [];
      are = each_more rule xs i (get_or xs i d) kept.answers tt kept.are lt
          (get_or_same xs i d (get_or xs i d) lt) keeps;
    }

-- a rule for what a function gives
pub each-map : {A B C E : Type 0} (f : B → Result C E) (g : A → B) (xs : List A)
    → each f (map g xs) ≡ each (λ x. f (g x)) xs
each-map f g [] = refl
each-map f g (x ∷ xs) = ap (λ r. f (g x) >>= λ y. r >>= λ ys. Ok (y ∷ ys)) (each-map f g xs)

-- a member breaks the rule
pub kept_fails : {A B E : Type 0} (f : B → Result (Unit {0}) E) (g : A → B) (xs : List A) (i : ℕ)
    (d : A) (e : E)
    → Kept (λ x. f (g x)) (take i xs) → i < length xs → f (g (get_or xs i d)) ≡ Err e
    → kept_by_each f (map g xs) ≡ Err e
kept_fails f g xs i d e kept lt fails =
    ap (λ r. r >>= λ k. Ok tt)
    (each-map f g xs
    ∙ each_fails (λ x. f (g x)) xs i (get_or xs i d) kept.answers e kept.are lt
    (get_or_same xs i d (get_or xs i d) lt) fails)

-- all members keep it
pub kept_all : {A B E : Type 0} (f : B → Result (Unit {0}) E) (g : A → B) (xs : List A) (i : ℕ)
    → Kept (λ x. f (g x)) (take i xs) → length xs ≤ i → kept_by_each f (map g xs) ≡ Ok tt
kept_all {A} f g xs i kept le =
    ap (λ r. r >>= λ k. Ok tt)
    (each-map f g xs ∙ ap (λ (l : List A). each (λ x. f (g x)) l) (sym (take_all i xs le))
    ∙ kept.are)

-- what a loop over entries would read past their end
abbrev pub no_entry : SvidEntryView
no_entry = record {
  spiffe_id = record { ref_ptr = (0, 0); now = [] };
  x509_svid = record { ref_ptr = (0, 0); now = [] };
  x509_svid_key = record { ref_ptr = (0, 0); now = [] };
  bundle = record { ref_ptr = (0, 0); now = [] };
  hint = record { ref_ptr = (0, 0); now = [] };
}

abbrev pub no_bundle : BundleEntryView
no_bundle = record {
  name = record { ref_ptr = (0, 0); now = [] };
  bundle = record { ref_ptr = (0, 0); now = [] };
}
