-- How a view is shown: the line of an event without its number.
use Rattle.std.specs.Prelude.{ℕ, List, [], ◌∷◌, ◌++◌, codes, decimal, map}
use Rattle.std.specs.List.{flat_map}
use Rattle.hex.specs.Hex.{encode_lower}
use Rattle.spf_view.specs.Views.{View, Waiting, Withdrawn, Permitted}
use Rattle.spf_jwt.specs.Authority.{Authority}
use Rattle.spf_jwt.specs.Bundle.{Bundle}
use Rattle.spf_feed.specs.declared.step.Denial.{Denial}
use Rattle.spf_feed.specs.Lines.{withdrawn_text}
use Rattle.spf_jwt_feed.specs.Steps.{BundleSet}

-- the ID of a key and its JSON text, each in hexadecimal
abbrev pub key_text : Authority → List ℕ
key_text key = encode_lower key.key_id ++ 58 ∷ encode_lower key.jwk

abbrev pub after_comma : Authority → List ℕ
after_comma key = 44 ∷ key_text key

-- keys in order, with commas between
abbrev pub listed_text : List Authority → List ℕ
listed_text [] = []
listed_text (key ∷ others) = key_text key ++ flat_map after_comma others

-- the keys of a bundle, in the order of their IDs
abbrev pub keys_text : List (List ℕ × Authority) → List ℕ
keys_text keys = listed_text (map (λ (k : List ℕ × Authority). k.1) keys)

-- a trust domain, and its keys
abbrev pub entry_text : List ℕ × Bundle → List ℕ
entry_text e = 32 ∷ e.0 ++ 61 ∷ keys_text e.1.authorities

-- what is visible after the revision
abbrev pub visible_text : View BundleSet Denial → List ℕ
visible_text Waiting = []
visible_text (Withdrawn reason) = withdrawn_text reason
visible_text (Permitted set) = codes " permitted" ++ flat_map entry_text set

-- the revision, what is visible, and a line feed;
-- before the first accepted item there is no revision
unfoldable pub view_line : View BundleSet Denial → ℕ → List ℕ
view_line Waiting revision = codes "waiting" ++ 10 ∷ []
view_line view revision = decimal revision ++ visible_text view ++ 10 ∷ []

-- Shown: the same after the event's number
unfoldable pub shown_text : View BundleSet Denial → ℕ → List ℕ
shown_text view revision = 32 ∷ view_line view revision
