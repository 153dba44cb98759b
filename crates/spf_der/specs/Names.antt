-- The names of a subject alternative name (RFC 5280 section 4.2.1.6).
use Rattle.std.specs.Prelude.{ℕ, zero, suc, List, [], ◌∷◌, length, Option, Some, None, Bool, not}
use Rattle.std.specs.Prelude.{◌&&◌, nat_le, nat_lt, ◌==◌, if◌then◌else◌, bit_and}
use Rattle.std.specs.List.{list_all}
use Rattle.std.specs.Option.{option_map_or}
use Rattle.spf_io.specs.Option.{◌>>=◌}
use Rattle.spf_der.specs.Value.{value_at, whole_at}
use Rattle.spf_der.specs.declared.value.TheConstants.{SEQUENCE}

-- a tag of the context class with a number from 0 to 8
abbrev pub is_name_tag : ℕ → Bool
is_name_tag tag = (bit_and tag 192 == 128) && nat_le (bit_and tag 31) 8

-- octets that are all below 128
abbrev pub ascii_of : List ℕ → Option (List ℕ)
ascii_of octets = if list_all (λ b. nat_lt b 128) octets then Some octets else None

-- the octets of a URI, by its tag
abbrev pub uri_of : ℕ → List ℕ → Option (Option (List ℕ))
uri_of tag contents = do
  uri ← (if tag == 134 then ascii_of contents else None)
  Some (Some uri)

-- a name by its tag and contents octets: its URI if it is one, where it may stand at all
abbrev pub name_of : ℕ → List ℕ → Option (Option (List ℕ))
name_of tag contents =
    if not (is_name_tag tag) then None
    else (if bit_and tag 31 == 6 then uri_of tag contents else Some None)

-- the name at the start, and what follows it
unfoldable pub name_at : List ℕ → Option (Option (List ℕ) × List ℕ)
name_at bytes = do
  v ← value_at bytes
  name ← name_of v.0 v.1
  Some (name, v.2)

-- one more name before those URIs
abbrev pub with_name : Option (List ℕ) → List (List ℕ) → List (List ℕ)
with_name None uris = uris
with_name (Some uri) uris = uri ∷ uris

-- the URIs of the names, at most `n`, whose concatenation the bytes are
abbrev pub uris_within : ℕ → List ℕ → Option (List (List ℕ))
uris_within n [] = Some []
uris_within zero (b ∷ bytes) = None
uris_within (suc n) (b ∷ bytes) = do
  name ← name_at (b ∷ bytes)
  uris ← uris_within n name.1
  Some (with_name name.0 uris)

-- the URIs of the names whose concatenation the bytes are
abbrev pub uris_of : List ℕ → Option (List (List ℕ))
uris_of names = uris_within (length names) names

-- the URIs of a subject alternative name
unfoldable pub san_uris_of : List ℕ → Option (List (List ℕ))
san_uris_of contents = do
  names ← whole_at SEQUENCE contents
  uris_of names

-- the URIs of the names before the first that is unreadable, of at most `n`
abbrev pub uris_before : ℕ → List ℕ → List (List ℕ)
uris_before n [] = []
uris_before zero (b ∷ bytes) = []
uris_before (suc n) (b ∷ bytes) =
    option_map_or (λ name. with_name name.0 (uris_before n name.1)) (name_at (b ∷ bytes)) []

-- the URIs that are left to a walk over the names
abbrev pub uris_left : List ℕ → List (List ℕ)
uris_left names = uris_before (length names) names
