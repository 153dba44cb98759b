-- A list of entries, laid out from views of them.
use Rattle.std.proofs.Common.{◌≡◌, ◌∙◌, ◌≤◌, ◌++◌, ℕ, List, length, map, take, sym}
use Rattle.std.proofs.Common.{arith}
use Rattle.std.proofs.lemmas.List.{length-map}
use Rattle.std.specs.Int.{w32, to_be_bytes}
use Rattle.std.proofs.lemmas.List.Folds.{flat_map-map}
use Rattle.std.proofs.lemmas.List.Elements.{All-map}
use Rattle.spf_api.specs.Layout.{list_text, IsListOf, HasLength32}
use Rattle.spf_api.proofs.Laid.{Laid, laid_list, laid_octets}

pub views_fit : {A B : Type 0} (of : B → A) (one : A → List ℕ) (P : A → Type 0)
    (start now : List ℕ) (xs : List B) (i : ℕ)
    → Laid (λ v. one (of v)) (λ v. P (of v)) start now (take i xs) → length xs ≤ i
    → HasLength32 xs → IsListOf P (map of xs)
views_fit of one P start now xs i laid le short =
    let each = laid_list (λ v. one (of v)) (λ v. P (of v)) start now xs i laid le short in
    record {
      short = omega (arith, short, length-map xs of);
      each = All-map P of xs each.each;
    }

pub views_laid : {A B : Type 0} (of : B → A) (one : A → List ℕ) (P : A → Type 0)
    (out start now : List ℕ) (xs : List B) (i : ℕ)
    → Laid (λ v. one (of v)) (λ v. P (of v)) start now (take i xs) → length xs ≤ i
    → start ≡ out ++ to_be_bytes w32 (length xs) → now ≡ out ++ list_text one (map of xs)
unfolding list_text
views_laid of one P out start now xs i laid le is =
    laid_octets (λ v. one (of v)) (λ v. P (of v)) out (to_be_bytes w32 (length xs)) start now xs i
    laid le is
    ∙ (λ j. out ++ (to_be_bytes w32 (sym (length-map xs of) j)
    ++ sym (flat_map-map one of xs) j))
