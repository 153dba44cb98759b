-- Values of DER: a tag octet, the shortest length, and
-- that many contents octets (X.690 sections 8.1 and 10.1).
use Rattle.std.specs.Prelude.{◌≡◌, ◌≢◌, ℕ, ◌+◌, ◌*◌, ◌/◌, ◌%◌, ◌^◌, ◌<◌, ◌≤◌, List, [], ◌∷◌, ◌++◌}
use Rattle.std.specs.Prelude.{length, take, drop, Option, Some, None, MatchOption, nat_lt, ◌==◌}
use Rattle.std.specs.Prelude.{if◌then◌else◌, bit_and}
use Rattle.std.specs.Borrow.{Bor}
use Rattle.std.specs.List.{All}
use Rattle.std.specs.Option.{option_map}
use Rattle.spf_io.specs.Option.{◌>>=◌}

-- the shortest octets of a length
unfoldable pub length_octets : ℕ → List ℕ
length_octets n =
    if nat_lt n 128 then n ∷ []
    else (if nat_lt n 256 then 129 ∷ n ∷ []
    else (if nat_lt n 65536 then 130 ∷ n / 256 ∷ n % 256 ∷ []
    else (if nat_lt n 16777216 then 131 ∷ n / 65536 ∷ n / 256 % 256 ∷ n % 256 ∷ []
    else 132 ∷ n / 16777216 ∷ n / 65536 % 256 ∷ n / 256 % 256 ∷ n % 256 ∷ [])))

-- the tag octets of the number n in the context-specific class (section 8.1.2)
abbrev pub context_primitive : ℕ → ℕ
context_primitive n = 128 + n

abbrev pub context_constructed : ℕ → ℕ
context_constructed n = 160 + n

-- a tag octet whose low five bits are not all set
abbrev pub IsTag : ℕ → Type 0
IsTag t = bit_and t 31 ≢ 31

-- what a value may hold
pub record Fits (tag : ℕ) (contents : List ℕ) : Type 0 where
  pub octet : tag < 256
  pub tag_ok : IsTag tag
  pub short : length contents < 2 ^ 32

-- the one spelling of a value
abbrev pub value_text : ℕ → List ℕ → List ℕ
value_text tag contents = tag ∷ length_octets (length contents) ++ contents

-- the bytes are the value of that tag with these contents
pub record Value (bytes : List ℕ) (tag : ℕ) (contents : List ℕ) : Type 0 where
  pub fits : Fits tag contents
  pub spelled : bytes ≡ value_text tag contents

-- each number is an octet
abbrev pub IsBytes : List ℕ → Type 0
IsBytes bytes = All (λ b. b < 256) bytes

-- the octets of a length after the first, which says how many there are
abbrev pub one_octet : List ℕ → Option (ℕ × List ℕ)
one_octet (a ∷ rest) = if nat_lt a 128 then None else Some (a, rest)
one_octet _ = None

abbrev pub two_octets : List ℕ → Option (ℕ × List ℕ)
two_octets (a ∷ b ∷ rest) = if a == 0 then None else Some (a * 256 + b, rest)
two_octets _ = None

abbrev pub three_octets : List ℕ → Option (ℕ × List ℕ)
three_octets (a ∷ b ∷ c ∷ rest) = if a == 0 then None else Some ((a * 256 + b) * 256 + c, rest)
three_octets _ = None

abbrev pub four_octets : List ℕ → Option (ℕ × List ℕ)
four_octets (a ∷ b ∷ c ∷ d ∷ rest) =
    if a == 0 then None else Some (((a * 256 + b) * 256 + c) * 256 + d, rest)
four_octets _ = None

-- a length of several octets, after the first of them
unfoldable pub long_length_at : ℕ → List ℕ → Option (ℕ × List ℕ)
long_length_at n rest =
    if n == 129 then one_octet rest
    else (if n == 130 then two_octets rest
    else (if n == 131 then three_octets rest
    else (if n == 132 then four_octets rest
    else None)))

-- a length at the start, and what follows it
unfoldable pub length_at : List ℕ → Option (ℕ × List ℕ)
length_at [] = None
length_at (n ∷ rest) = if nat_lt n 128 then Some (n, rest) else long_length_at n rest

-- the contents of a value after its tag, and what follows them
unfoldable pub contents_at : List ℕ → Option (List ℕ × List ℕ)
contents_at bytes = do
  n ← length_at bytes
  if nat_lt (length n.1) n.0 then None else Some (take n.0 n.1, drop n.0 n.1)

-- the value at the start: its tag, its contents, and what follows it
unfoldable pub value_at : List ℕ → Option (ℕ × List ℕ × List ℕ)
value_at [] = None
value_at (tag ∷ bytes) =
    if bit_and tag 31 == 31 then None else (do
      v ← contents_at bytes
      Some (tag, v.0, v.1))

-- the contents of the value of that tag at the start, and what follows it
unfoldable pub tagged_at : ℕ → List ℕ → Option (List ℕ × List ℕ)
tagged_at tag [] = None
tagged_at tag (first ∷ bytes) = if first == tag then contents_at bytes else None

-- the contents of the value of that tag that the bytes are
unfoldable pub whole_at : ℕ → List ℕ → Option (List ℕ)
whole_at tag bytes = do
  v ← tagged_at tag bytes
  if length v.1 == 0 then Some v.0 else None

-- the contents of the value of that tag, if one stands at the start, and what follows it
unfoldable pub optional_at : ℕ → List ℕ → Option (Option (List ℕ) × List ℕ)
optional_at tag [] = Some (None, [])
optional_at tag (first ∷ bytes) =
    if first == tag then (do
      v ← contents_at bytes
      Some (Some v.0, v.1))
    else Some (None, first ∷ bytes)

-- a number that was read of `count` octets, and what is left after them
abbrev pub MeetsRest : ℕ → Option ℕ → Option (ℕ × List ℕ) → List ℕ → Type 0
MeetsRest count result found bytes =
    MatchOption result (found ≡ None)
    (λ n. (count ≤ length bytes) × (found ≡ Some (n, drop count bytes)))

-- what a reader found, without where it lies
abbrev pub seen : Option (Bor (List ℕ)) → Option (List ℕ)
seen found = option_map (λ x. x.now) found

abbrev pub seen_two : Option (Bor (List ℕ) × Bor (List ℕ)) → Option (List ℕ × List ℕ)
seen_two found = option_map (λ x. (x.0.now, x.1.now)) found

abbrev pub seen_value : Option (ℕ × Bor (List ℕ) × Bor (List ℕ)) → Option (ℕ × List ℕ × List ℕ)
seen_value found = option_map (λ x. (x.0, x.1.now, x.2.now)) found

abbrev pub seen_optional : Option (Option (Bor (List ℕ)) × Bor (List ℕ))
    → Option (Option (List ℕ) × List ℕ)
seen_optional found = option_map (λ x. (seen x.0, x.1.now)) found
