-- The encoding of Protocol Buffers: a message is a concatenation of fields, each a tag and a value.
use Rattle.std.specs.Prelude.{ℕ, zero, suc, ◌+◌, ◌*◌, ◌-◌, ◌/◌, ◌%◌, ◌^◌, List, [], ◌∷◌, ◌++◌}
use Rattle.std.specs.Prelude.{length, take, drop}
use Rattle.std.specs.Prelude.{Option, Some, None, Bool, nat_le, nat_lt, ◌==◌, ◌&&◌, if◌then◌else◌}
use Rattle.std.specs.Int.{w64, from_le_bytes}
use Rattle.std.specs.Option.{option_map}
use Rattle.spf_io.specs.Option.{◌>>=◌}
use Rattle.spf_messages.specs.declared.wire.Field.{Field}
use Rattle.spf_messages.specs.declared.wire.FieldValue.{FieldValue}
use Rattle.spf_messages.specs.declared.wire.FieldValue.TheVariants as field_value

-- a number below 2^64, and what follows it
abbrev pub below64 : ℕ → List ℕ → Option (ℕ × List ℕ)
below64 value rest = if nat_lt value (2 ^ 64) then Some (value, rest) else None

-- a varint of at most `max` octets at the start, and what follows it
abbrev pub varint_within : ℕ → List ℕ → Option (ℕ × List ℕ)
varint_within zero bytes = None
varint_within (suc max) [] = None
varint_within (suc max) (octet ∷ bytes) =
    if nat_lt octet 128 then Some (octet, bytes)
    else (varint_within max bytes >>= λ high. below64 (128 * high.0 + (octet - 128)) high.1)

-- the varint at the start, and what follows it
abbrev pub varint_at : List ℕ → Option (ℕ × List ℕ)
varint_at bytes = varint_within 10 bytes

-- a number in seven bits an octet, the least significant first; all but the last octet have the
-- eighth bit; of at most `more` octets and one
abbrev pub varint_octets : ℕ → ℕ → List ℕ
varint_octets zero number = number ∷ []
varint_octets (suc more) number =
    if nat_lt number 128 then number ∷ []
    else (128 + number % 128) ∷ varint_octets more (number / 128)

-- a number below 2^64 as a varint
abbrev pub varint_text : ℕ → List ℕ
varint_text number = varint_octets 9 number

-- what follows `count` octets
abbrev pub after : ℕ → List ℕ → Option (List ℕ)
after count bytes = if nat_lt (length bytes) count then None else Some (drop count bytes)

-- eight octets, the least significant first
unfoldable pub eight_at : List ℕ → Option (ℕ × List ℕ)
eight_at (a ∷ b ∷ c ∷ d ∷ e ∷ f ∷ g ∷ h ∷ rest) =
    Some (from_le_bytes w64 (a ∷ b ∷ c ∷ d ∷ e ∷ f ∷ g ∷ h ∷ []), rest)
eight_at _ = None

-- a length and octets of that length, and what follows them
unfoldable pub delimited_at : List ℕ → Option (List ℕ × List ℕ)
delimited_at bytes = do
  n ← varint_at bytes
  if nat_lt (length n.1) n.0 then None else Some (take n.0 n.1, drop n.0 n.1)

-- the value of a field, by its type: a varint (0), eight octets (1), octets after their length
-- (2), four octets (5)
pub data WireValue : Type 0 where
  Varint : ℕ → WireValue
  Eight : ℕ → WireValue
  Octets : List ℕ → WireValue
  Four : WireValue

-- a field: its number and its value
pub record WireField : Type 0 where
  pub number : ℕ
  pub value : WireValue

abbrev pub wire_value : FieldValue → WireValue
wire_value (field_value.Varint number) = Varint number
wire_value (field_value.Eight bits) = Eight bits
wire_value (field_value.Octets octets) = Octets octets.now
wire_value field_value.Four = Four

abbrev pub field_of : Field → WireField
field_of f = record { number = f.number; value = wire_value f.value }

-- the octets of a length-delimited value
abbrev pub delimited : WireValue → Option (List ℕ)
delimited (Octets octets) = Some octets
delimited _ = None

-- the value of that type at the start, and what follows it
abbrev pub value_at : ℕ → List ℕ → Option (WireValue × List ℕ)
value_at type bytes =
    if type == 0 then option_map (λ v. (Varint v.0, v.1)) (varint_at bytes)
    else (if type == 1 then option_map (λ v. (Eight v.0, v.1)) (eight_at bytes)
    else (if type == 2 then option_map (λ v. (Octets v.0, v.1)) (delimited_at bytes)
    else (if type == 5 then option_map (λ rest. (Four, rest)) (after 4 bytes)
    else None)))

-- a tag has a number of at least 1, and is below 2^32
abbrev pub is_tag : ℕ → Bool
is_tag tag = nat_le 8 tag && nat_lt tag (2 ^ 32)

-- the field at the start, and what follows it
unfoldable pub field_at : List ℕ → Option (WireField × List ℕ)
field_at bytes = do
  tag ← varint_at bytes
  v ← (if is_tag tag.0 then value_at (tag.0 % 8) tag.1 else None)
  Some (record { number = tag.0 / 8; value = v.0 }, v.1)

-- a length-delimited field as octets: a tag of its number and the type 2, a length, the octets
unfoldable pub field_text : ℕ → List ℕ → List ℕ
field_text number octets =
    varint_text (8 * number + 2) ++ (varint_text (length octets) ++ octets)
