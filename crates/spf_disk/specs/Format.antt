-- The format of an entry: eight octets of its number, one octet of its kind, 0 withdrawn or 1
-- accepted, and for 1 the chain, the key and the authorities. Lengths and counts have eight octets.
use Rattle.std.specs.Prelude.{ℕ, ◌^◌, ◌<◌, ◌==◌, nat_lt, if◌then◌else◌}
use Rattle.std.specs.Prelude.{List, [], ◌∷◌, ◌++◌, length, take, drop, Option, Some, None}
use Rattle.std.specs.List.{flat_map, All}
use Rattle.std.specs.Int.{w64, to_be_bytes, from_be_bytes}
use Rattle.std.specs.Str.{IsUtf8, is_utf8}
use Rattle.spf_api.specs.Reading.{◌>>=◌, counted}
use Rattle.spf_disk.specs.declared.generation.AuthorityList.{AuthorityList}
use Rattle.spf_disk.specs.declared.generation.Generation.{Generation}
use Rattle.spf_disk.specs.declared.generation.Entry.{Entry}
use Rattle.spf_disk.specs.declared.generation.Entry.TheVariants.{Withdrawn, Accepted}

-- ---- what is written

unfoldable pub number_text : ℕ → List ℕ
number_text number = to_be_bytes w64 number

-- a byte field or a text field: its length, and its octets
unfoldable pub field_text : List ℕ → List ℕ
field_text octets = number_text (length octets) ++ octets

-- a list: its count, and its members
unfoldable pub list_text : {A : Type 0} → (A → List ℕ) → List A → List ℕ
list_text one members = number_text (length members) ++ flat_map one members

unfoldable pub authorities_text : AuthorityList → List ℕ
authorities_text a = field_text a.name ++ list_text field_text a.certificates

unfoldable pub entry_text : Entry → List ℕ
entry_text (Withdrawn number) = number_text number ++ 0 ∷ []
entry_text (Accepted g) =
    number_text g.number ++ (1 ∷ field_text g.chain)
    ++ (field_text g.key ++ list_text authorities_text g.authorities)

-- its length is a number of eight octets
abbrev pub HasLength64 : {A : Type 0} → List A → Type 0
HasLength64 members = length members < 2 ^ 64

pub record IsListOf {A : Type 0} (P : A → Type 0) (members : List A) : Type 0 where
  pub short : HasLength64 members
  pub each : All P members

pub record IsAuthorities (a : AuthorityList) : Type 0 where
  pub short : HasLength64 a.name
  pub utf8 : IsUtf8 a.name
  pub certificates : IsListOf HasLength64 a.certificates

pub record IsGeneration (g : Generation) : Type 0 where
  pub number : g.number < 2 ^ 64
  pub chain : HasLength64 g.chain
  pub key : HasLength64 g.key
  pub authorities : IsListOf IsAuthorities g.authorities

-- it has a text
abbrev pub IsEntry : Entry → Type 0
IsEntry (Withdrawn number) = number < 2 ^ 64
IsEntry (Accepted g) = IsGeneration g

-- ---- what is read: the value at the start, and the octets that follow

unfoldable pub number_at : List ℕ → Option (ℕ × List ℕ)
number_at (a ∷ b ∷ c ∷ d ∷ e ∷ f ∷ g ∷ h ∷ rest) =
    Some (from_be_bytes w64 (a ∷ b ∷ c ∷ d ∷ e ∷ f ∷ g ∷ h ∷ []), rest)
number_at _ = None

unfoldable pub field_at : List ℕ → Option (List ℕ × List ℕ)
field_at bytes = do
  n ← number_at bytes
  if nat_lt (length n.1) n.0 then None else Some (take n.0 n.1, drop n.0 n.1)

-- a byte field in UTF-8
unfoldable pub text_at : List ℕ → Option (List ℕ × List ℕ)
text_at bytes = do
  t ← field_at bytes
  if is_utf8 t.0 then Some (t.0, t.1) else None

-- a count, and that many members
abbrev pub list_at : {A : Type 0} → (List ℕ → Option (A × List ℕ)) → List ℕ
    → Option (List A × List ℕ)
list_at one bytes = number_at bytes >>= λ n. counted one n.0 n.1

unfoldable pub authorities_at : List ℕ → Option (AuthorityList × List ℕ)
authorities_at bytes = do
  n ← text_at bytes
  c ← list_at field_at n.1
  Some (record { name = n.0; certificates = c.0 }, c.1)

-- the value, where nothing follows it
abbrev pub ended : {A : Type 0} → A → List ℕ → Option A
ended x [] = Some x
ended x (b ∷ rest) = None

unfoldable pub generation_at : ℕ → List ℕ → Option Generation
generation_at number bytes = do
  c ← field_at bytes
  k ← field_at c.1
  a ← list_at authorities_at k.1
  ended (record { number = number; chain = c.0; key = k.0; authorities = a.0 }) a.1

-- an entry by its number and what follows that
abbrev pub entry_of_kind : ℕ → List ℕ → Option Entry
entry_of_kind number (kind ∷ rest) =
    if kind == 0 then ended (Withdrawn number) rest
    else (if kind == 1 then generation_at number rest >>= (λ g. Some (Accepted g)) else None)
entry_of_kind number [] = None

-- the entry that a file holds, and nothing after it
unfoldable pub entry_at : List ℕ → Option Entry
entry_at bytes = do
  n ← number_at bytes
  entry_of_kind n.0 n.1
