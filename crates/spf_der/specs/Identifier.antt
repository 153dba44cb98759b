-- The identifiers of the extensions that are read (RFC 5280 section 4.2.1).
use Rattle.std.specs.Prelude.{ℕ, List, [], ◌∷◌}

-- the contents octets of 2.5.29.15, 2.5.29.17 and 2.5.29.19
abbrev pub key_usage_identifier : List ℕ
key_usage_identifier = 85 ∷ 29 ∷ 15 ∷ []

abbrev pub subject_alt_name_identifier : List ℕ
subject_alt_name_identifier = 85 ∷ 29 ∷ 17 ∷ []

abbrev pub basic_constraints_identifier : List ℕ
basic_constraints_identifier = 85 ∷ 29 ∷ 19 ∷ []
