-- A line is its pieces, one after another.
use Rattle.std.proofs.Common.{◌≡◌, ℕ, ◌≤◌, List, [], ◌∷◌, ◌++◌, sym, ap, ◌∙◌, append_assoc, length}
use Rattle.std.proofs.Common.{take, drop, drop_at}
use Rattle.std.specs.List.{flat_map}
use Rattle.std.proofs.lemmas.List.{append-nil, length-take-le}
use Rattle.spf_view.specs.Views.{View}
use Rattle.spf_feed.specs.declared.step.Denial.{Denial}
use Rattle.spf_jwt.specs.Authority.{Authority}
use Rattle.spf_jwt_feed.specs.Shown.{key_text, after_comma, listed_text, view_line, shown_text}
use Rattle.spf_jwt_feed.specs.Steps.{BundleSet}

-- one more is shown of those that are still to come
pub shown_more : {X : Type 0} (text : X → List ℕ) (all line line' : List ℕ) (x : X)
    (rest iter : List X) → iter ≡ x ∷ rest → all ≡ line ++ flat_map text iter
    → line' ≡ line ++ text x → all ≡ line' ++ flat_map text rest
shown_more {X} text all line line' x rest iter is to_come made =
    to_come ∙ ap (λ (xs : List X). line ++ flat_map text xs) is
    ∙ sym (append_assoc line (text x) (flat_map text rest))
    ∙ ap (λ (l : List ℕ). l ++ flat_map text rest) (sym made)

-- none is still to come
pub shown_all : {X : Type 0} (text : X → List ℕ) (all line : List ℕ) (iter : List X) → iter ≡ []
    → all ≡ line ++ flat_map text iter → line ≡ all
shown_all {X} text all line iter is to_come =
    sym (to_come ∙ ap (λ (xs : List X). line ++ flat_map text xs) is ∙ append-nil line)

-- the first key, and then the others
pub keys_made : (keys : List Authority) (key : Authority) (others : List Authority)
    (before first all : List ℕ) → keys ≡ key ∷ others → first ≡ before ++ key_text key
    → all ≡ first ++ flat_map after_comma others → all ≡ before ++ listed_text keys
keys_made keys key others before first all is shown then =
    then ∙ ap (λ l. l ++ flat_map after_comma others) shown
    ∙ append_assoc before (key_text key) (flat_map after_comma others)
    ∙ ap (λ ks. before ++ listed_text ks) (sym is)

pub line_written : (octets cut spaced all : List ℕ) (v w : View BundleSet Denial) (r s : ℕ)
    → 20 ≤ length octets → cut ≡ take 20 octets → spaced ≡ cut ++ 32 ∷ [] → v ≡ w → r ≡ s
    → all ≡ spaced ++ view_line v r → drop 20 all ≡ shown_text w s
unfolding shown_text
line_written octets cut spaced all v w r s room cut-is spaced-is view-is revision-is made =
    ap (drop 20)
    (made ∙ ap (λ (l : List ℕ). l ++ view_line v r)
    (spaced-is ∙ ap (λ (l : List ℕ). l ++ 32 ∷ []) cut-is)
    ∙ append_assoc (take 20 octets) (32 ∷ []) (view_line v r))
    ∙ drop_at (take 20 octets) (32 ∷ view_line v r) 20 (length-take-le 20 octets room)
    ∙ (λ i. 32 ∷ view_line (view-is i) (revision-is i))
