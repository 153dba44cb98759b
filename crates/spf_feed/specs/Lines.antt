-- The texts of lines.
use Rattle.std.specs.Prelude.{ℕ, List, [], ◌∷◌, ◌++◌, slice_get, codes, Option, None, Some}
use Rattle.std.specs.Fmt.{signed_decimal}
use Rattle.std.specs.List.{flat_map}
use Rattle.std.specs.Option.{option_map_or}
use Rattle.hex.specs.Hex.{encode_lower}
use Rattle.spf_id.specs.Id.{id_text}
use Rattle.spf_x509.specs.Svid.{Svid}
use Rattle.spf_feed.specs.declared.step.Denial.{Denial}
use Rattle.spf_feed.specs.declared.step.Denial.TheVariants as denial

abbrev pub after_comma : List ℕ → List ℕ
after_comma octets = 44 ∷ encode_lower octets

-- the octets of each in hexadecimal, with commas between
abbrev pub hex_list : {X : Type 0} → (X → List ℕ) → List X → List ℕ
hex_list shown [] = []
hex_list shown (x ∷ xs) = encode_lower (shown x) ++ flat_map (λ y. after_comma (shown y)) xs

-- the octets of the value at an index
abbrev pub shown_at : {X : Type 0} → (X → List ℕ) → List X → ℕ → List ℕ
shown_at shown xs index = option_map_or shown (slice_get xs index) []

-- the ID, the expiry and the chain of a choice that is shown
abbrev pub choice_text : Option Svid → List ℕ
choice_text None = codes " - - -"
choice_text (Some svid) =
    32 ∷ id_text svid.id ++ 32 ∷ signed_decimal svid.expiry ++ 32 ∷ hex_list (λ c. c) svid.chain

abbrev pub withdrawn_text : Denial → List ℕ
withdrawn_text denial.NoIdentityIssued = codes " withdrawn no_identity_issued"
withdrawn_text (denial.PermissionDenied message) =
    codes " withdrawn permission_denied:" ++ encode_lower message
