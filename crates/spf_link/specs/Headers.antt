-- Headers as a list of names and values.
use Rattle.std.specs.Prelude.{ℕ, bytes_eq, if◌then◌else◌, List, [], ◌∷◌, Option, None, Some}

-- a name and its value
abbrev pub Header : Type 0
Header = List ℕ × List ℕ

-- the value under a name
abbrev pub value_in : List ℕ → List Header → Option (List ℕ)
value_in name [] = None
value_in name (h ∷ headers) = if bytes_eq h.0 name then Some h.1 else value_in name headers

-- the headers without that of this name
abbrev pub without : List ℕ → List Header → List Header
without name [] = []
without name (h ∷ headers) = if bytes_eq h.0 name then headers else h ∷ without name headers

-- the headers with this value under the name, in place of the one that was there, or else at the
-- end
abbrev pub with_header : List ℕ → List ℕ → List Header → List Header
with_header name value [] = (name, value) ∷ []
with_header name value (h ∷ headers) = if bytes_eq h.0 name then (h.0, value) ∷ headers else h ∷
    with_header name value headers
