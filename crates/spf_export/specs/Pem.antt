-- PEM, by RFC 7468.
use Rattle.std.specs.Prelude.{ℕ, zero, suc, List, [], ◌∷◌, ◌++◌, codes, if◌then◌else◌}
use Rattle.std.specs.Str.{bytes_eq}
use Rattle.base64.specs.Engines.{standard}
use Rattle.base64.specs.GeneralPurpose.{encode_of}
use Rattle.spf_disk.specs.declared.generation.AuthorityList.{AuthorityList}

-- what is left of a line on which so many characters fit yet, and the lines after it
abbrev pub rest_of_line : ℕ → List ℕ → List ℕ
rest_of_line left [] = 10 ∷ []
rest_of_line zero (c ∷ text) = 10 ∷ c ∷ rest_of_line 63 text
rest_of_line (suc left) (c ∷ text) = c ∷ rest_of_line left text

-- a text in lines of 64 characters, the last of which may have fewer
abbrev pub lines_of : List ℕ → List ℕ
lines_of [] = []
lines_of (c ∷ text) = c ∷ rest_of_line 63 text

-- the line that begins or ends a block
unfoldable pub boundary : List ℕ → List ℕ → List ℕ
boundary words label = words ++ label ++ codes "-----\n"

unfoldable pub block : List ℕ → List ℕ → List ℕ
block label der =
    boundary (codes "-----BEGIN ") label ++ lines_of (encode_of standard der)
    ++ boundary (codes "-----END ") label

-- the certificates, one block each
abbrev pub certificates_text : List (List ℕ) → List ℕ
certificates_text [] = []
certificates_text (der ∷ ders) = block (codes "CERTIFICATE") der ++ certificates_text ders

-- the authorities of a list, if it is that of the trust domain of this name
abbrev pub authorities_in : List ℕ → AuthorityList → List (List ℕ)
authorities_in name list = if bytes_eq list.name name then list.certificates else []

-- the authorities of the trust domain of this name, in order
abbrev pub authorities_of : List ℕ → List AuthorityList → List (List ℕ)
authorities_of name [] = []
authorities_of name (list ∷ lists) = authorities_in name list ++ authorities_of name lists
