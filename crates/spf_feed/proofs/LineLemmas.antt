-- A text is its pieces, one after another.
use Rattle.std.proofs.Common.{◌≡◌, ℕ, List, [], ◌∷◌, ◌++◌, Option, None, sym, ap, ◌∙◌, append_assoc}
use Rattle.std.proofs.lemmas.List.{append-nil}
use Rattle.std.specs.Prelude.{slice_get, codes}
use Rattle.std.specs.List.{flat_map}
use Rattle.std.specs.Option.{option_map_or}
use Rattle.hex.specs.Hex.{encode_lower, encode_with}
use Rattle.spf_feed.specs.declared.step.Denial.{Denial}
use Rattle.spf_feed.specs.declared.step.Denial.TheVariants.{PermissionDenied}
use Rattle.spf_feed.specs.Lines.{after_comma, hex_list, shown_at, withdrawn_text}

-- the first of a list, and then the others
pub hex_list_made : {X : Type 0} (shown : X → List ℕ) (x : X) (xs : List X)
    (before first all : List ℕ)
    → first ≡ before ++ encode_lower (shown x)
    → all ≡ first ++ flat_map (λ (y : X). after_comma (shown y)) xs
    → all ≡ before ++ hex_list shown (x ∷ xs)
hex_list_made {X} shown x xs before first all is then =
    let rest = flat_map (λ (y : X). after_comma (shown y)) xs in
    then ∙ ap (λ l. l ++ rest) is ∙ append_assoc before (encode_lower (shown x)) rest

-- an index that is out of range shows nothing
pub nothing_shown : {X : Type 0} (shown : X → List ℕ) (xs : List X) (index : ℕ) (before : List ℕ)
    → slice_get xs index ≡ None → before ≡ before ++ encode_lower (shown_at shown xs index)
unfolding encode_with
nothing_shown {X} shown xs index before none =
    sym (append-nil before)
    ∙ ap (λ (o : Option X). before ++ encode_lower (option_map_or shown o [])) (sym none)

-- the reason of a withdrawal with its message
pub withdrawn_made : (reason : Denial) (message before first all : List ℕ)
    → reason ≡ PermissionDenied message
    → first ≡ before ++ codes " withdrawn permission_denied:" → all ≡ first ++ encode_lower message
    → all ≡ before ++ withdrawn_text reason
withdrawn_made reason message before first all is named then =
    then ∙ ap (λ l. l ++ encode_lower message) named
    ∙ append_assoc before (codes " withdrawn permission_denied:") (encode_lower message)
    ∙ ap (λ r. before ++ withdrawn_text r) (sym is)
