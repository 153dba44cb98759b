-- The small types that certificates and keys share.
use Rattle.std.specs.Prelude.{ℕ, List, [], ◌∷◌, length, Option, Some, None, Bool, true, false, not}
use Rattle.std.specs.Prelude.{◌&&◌, ◌||◌, nat_le, ◌==◌, if◌then◌else◌}
use Rattle.spf_io.specs.Option.{◌>>=◌}
use Rattle.spf_der.specs.Value.{value_at, tagged_at, optional_at}
use Rattle.spf_der.specs.declared.value.TheConstants.{BIT_STRING, BOOLEAN, INTEGER}
use Rattle.spf_der.specs.declared.value.TheConstants.{OBJECT_IDENTIFIER, SEQUENCE}

-- OBJECT IDENTIFIER (X.690 section 8.19): its contents octets, of which there is at least one
unfoldable pub object_identifier_at : List ℕ → Option (List ℕ × List ℕ)
object_identifier_at bytes = do
  v ← tagged_at OBJECT_IDENTIFIER bytes
  if length v.0 == 0 then None else Some v

-- INTEGER (X.690 section 8.3): its contents octets, of which there is at least one
unfoldable pub integer_at : List ℕ → Option (List ℕ × List ℕ)
integer_at bytes = do
  v ← tagged_at INTEGER bytes
  if length v.0 == 0 then None else Some v

-- one octet, at most `max`
abbrev pub small_of : ℕ → List ℕ → Option ℕ
small_of max (n ∷ []) = if nat_le n max then Some n else None
small_of max _ = None

-- an INTEGER of one octet, at most `max`, and what follows it
unfoldable pub small_integer_at : ℕ → List ℕ → Option (ℕ × List ℕ)
small_integer_at max bytes = do
  v ← tagged_at INTEGER bytes
  n ← small_of max v.0
  Some (n, v.1)

-- the contents octets of a BOOLEAN (X.690 sections 8.2 and 11.1)
abbrev pub boolean_of : List ℕ → Option Bool
boolean_of (octet ∷ []) =
    if octet == 255 then Some true else (if octet == 0 then Some false else None)
boolean_of _ = None

-- a BOOLEAN that may be left out, which is false then
abbrev pub flag_of : Option (List ℕ) → Option Bool
flag_of None = Some false
flag_of (Some contents) = boolean_of contents

-- an optional BOOLEAN whose default is false, and what follows it
unfoldable pub default_false_at : List ℕ → Option (Bool × List ℕ)
default_false_at bytes = do
  v ← optional_at BOOLEAN bytes
  flag ← flag_of v.0
  Some (flag, v.1)

-- the contents octets of a BIT STRING (X.690 section 8.6):
-- how many bits of the last octet are unused, and the octets
abbrev pub is_bit_string : List ℕ → Bool
is_bit_string [] = false
is_bit_string (unused ∷ octets) = nat_le unused 7 && (unused == 0 || not (length octets == 0))

-- what follows a BIT STRING
unfoldable pub after_bit_string_at : List ℕ → Option (List ℕ)
after_bit_string_at bytes = do
  v ← tagged_at BIT_STRING bytes
  if is_bit_string v.0 then Some v.1 else None

-- what follows an AlgorithmIdentifier (RFC 5280 section 4.1.1.2): an identifier and at most one
-- value of parameters
unfoldable pub after_algorithm_at : List ℕ → Option (List ℕ)
after_algorithm_at bytes = do
  whole ← tagged_at SEQUENCE bytes
  oid ← object_identifier_at whole.0
  if length oid.1 == 0 then Some whole.1 else (do
    parameters ← value_at oid.1
    if length parameters.2 == 0 then Some whole.1 else None)
