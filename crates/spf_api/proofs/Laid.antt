-- A list, as a loop lays it out.
use Rattle.std.proofs.Common.{◌≡◌, ℕ, ◌+◌, ◌<◌, ◌≤◌, List, [], ◌∷◌, ◌++◌, length, get_or, take, sym}
use Rattle.std.proofs.Common.{ap, ◌∙◌, append_assoc, subst}
use Rattle.std.proofs.lemmas.List.{take_more, take_all, append-nil}
use Rattle.std.proofs.lemmas.List.Elements.{All-more}
use Rattle.std.proofs.lemmas.List.Concat.{flat_map-cons, flat_map-append}
use Rattle.std.specs.List.{flat_map, All}
use Rattle.spf_api.specs.Layout.{IsListOf, HasLength32}

-- after `start` the members are laid out, and each of them may be
pub record Laid {A : Type 0} (one : A → List ℕ) (P : A → Type 0) (start now : List ℕ)
    (members : List A) : Type 0 where
  pub octets : now ≡ start ++ flat_map one members
  pub fits : All P members

-- one more member
pub laid_more : {A : Type 0} (one : A → List ℕ) (P : A → Type 0) (start now next : List ℕ)
    (xs : List A) (i : ℕ) (x : A)
    → Laid one P start now (take i xs) → i < length xs → x ≡ get_or xs i x → next ≡ now ++ one x
    → P x → Laid one P start next (take (i + 1) xs)
laid_more {A} one P start now next xs i x laid lt is put fits =
    let cut : take (i + 1) xs ≡ take i xs ++ x ∷ [] =
    take_more xs i x lt ∙ ap (λ (z : A). take i xs ++ z ∷ []) (sym is) in
    let single : flat_map one (x ∷ []) ≡ one x = flat_map-cons one x [] ∙ append-nil (one x) in
    let whole : flat_map one (take (i + 1) xs) ≡ flat_map one (take i xs) ++ one x =
    ap (flat_map one) cut ∙ flat_map-append one (take i xs) (x ∷ [])
    ∙ ap (λ (l : List ℕ). flat_map one (take i xs) ++ l) single in
    record {
      octets = put ∙ ap (λ (l : List ℕ). l ++ one x) laid.octets
          ∙ append_assoc start (flat_map one (take i xs)) (one x)
          ∙ ap (λ (l : List ℕ). start ++ l) (sym whole);
      fits = All-more P xs i x lt laid.fits (subst P is fits);
    }

-- all members
pub laid_list : {A : Type 0} (one : A → List ℕ) (P : A → Type 0) (start now : List ℕ) (xs : List A)
    (i : ℕ)
    → Laid one P start now (take i xs) → length xs ≤ i → HasLength32 xs → IsListOf P xs
laid_list {A} one P start now xs i laid le short = record {
  short = short;
  each = subst (λ (l : List A). All P l) (take_all i xs le) laid.fits;
}

-- what all members add, after their count
pub laid_octets : {A : Type 0} (one : A → List ℕ) (P : A → Type 0) (out count start now : List ℕ)
    (xs : List A) (i : ℕ)
    → Laid one P start now (take i xs) → length xs ≤ i → start ≡ out ++ count
    → now ≡ out ++ (count ++ flat_map one xs)
laid_octets {A} one P out count start now xs i laid le is =
    laid.octets ∙ ap (λ (l : List A). start ++ flat_map one l) (take_all i xs le)
    ∙ ap (λ (l : List ℕ). l ++ flat_map one xs) is ∙ append_assoc out count (flat_map one xs)
