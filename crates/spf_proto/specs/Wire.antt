-- The encoding of Protocol Buffers: a message is a concatenation of fields, each a tag and a value.
use Rattle.std.specs.Prelude.{ℕ, zero, suc, ◌+◌, ◌*◌, ◌-◌, ◌/◌, ◌%◌, ◌^◌, List, [], ◌∷◌, length}
use Rattle.std.specs.Prelude.{take, drop}
use Rattle.std.specs.Prelude.{Option, Some, None, Bool, nat_le, nat_lt, ◌==◌, ◌&&◌, if◌then◌else◌}
use Rattle.std.specs.Option.{option_map}
use Rattle.std.specs.Borrow.{Bor}
use Rattle.spf_io.specs.Option.{◌>>=◌}
use Rattle.spf_proto.specs.declared.wire.Field.{Field}

-- a number below 2^64, and what follows it
abbrev pub below64 : ℕ → List ℕ → Option (ℕ × List ℕ)
below64 value rest = if nat_lt value (2 ^ 64) then Some (value, rest) else None

-- a varint of at most `max` octets at the start, and what follows it
abbrev pub varint_within : ℕ → List ℕ → Option (ℕ × List ℕ)
varint_within zero bytes = None
varint_within (suc max) [] = None
varint_within (suc max) (octet ∷ bytes) =
    if nat_lt octet 128 then Some (octet, bytes)
    else (varint_within max bytes >>= λ high. below64 (128 * high.0 + (octet - 128)) high.1)

-- the varint at the start, and what follows it
abbrev pub varint_at : List ℕ → Option (ℕ × List ℕ)
varint_at bytes = varint_within 10 bytes

-- what follows `count` octets
abbrev pub after : ℕ → List ℕ → Option (List ℕ)
after count bytes = if nat_lt (length bytes) count then None else Some (drop count bytes)

-- a length and octets of that length, and what follows them
unfoldable pub delimited_at : List ℕ → Option (List ℕ × List ℕ)
delimited_at bytes = do
  n ← varint_at bytes
  if nat_lt (length n.1) n.0 then None else Some (take n.0 n.1, drop n.0 n.1)

-- a field: its number, and the octets of a length-delimited one
pub record WireField : Type 0 where
  pub number : ℕ
  pub octets : Option (List ℕ)

abbrev pub field_of : Field → WireField
field_of f = record {
  number = f.number;
  octets = option_map (λ (b : Bor (List ℕ)). b.now) f.octets;
}

-- the value of that type at the start, and what follows it
abbrev pub value_at : ℕ → List ℕ → Option (Option (List ℕ) × List ℕ)
value_at type bytes =
    if type == 0 then option_map (λ v. (None, v.1)) (varint_at bytes)
    else (if type == 1 then option_map (λ rest. (None, rest)) (after 8 bytes)
    else (if type == 2 then option_map (λ v. (Some v.0, v.1)) (delimited_at bytes)
    else (if type == 5 then option_map (λ rest. (None, rest)) (after 4 bytes)
    else None)))

-- a tag has a number of at least 1, and is below 2^32
abbrev pub is_tag : ℕ → Bool
is_tag tag = nat_le 8 tag && nat_lt tag (2 ^ 32)

-- the field at the start, and what follows it
unfoldable pub field_at : List ℕ → Option (WireField × List ℕ)
field_at bytes = do
  tag ← varint_at bytes
  v ← (if is_tag tag.0 then value_at (tag.0 % 8) tag.1 else None)
  Some (record { number = tag.0 / 8; octets = v.0 }, v.1)
