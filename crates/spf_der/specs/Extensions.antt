-- Key usage and basic constraints (RFC 5280 section 4.2.1).
use Rattle.std.specs.Prelude.{ℕ, ◌-◌, ◌/◌, ◌%◌, ◌^◌, List, length, drop, slice_index, Option, Some}
use Rattle.std.specs.Prelude.{None, Bool, not, ◌&&◌, ◌==◌, if◌then◌else◌, bit_and}
use Rattle.spf_io.specs.Option.{◌>>=◌}
use Rattle.spf_der.specs.Value.{whole_at, optional_at}
use Rattle.spf_der.specs.Types.{is_bit_string, default_false_at}
use Rattle.spf_der.specs.declared.extensions.KeyUsageBits.{KeyUsageBits}
use Rattle.spf_der.specs.declared.value.TheConstants.{BIT_STRING, INTEGER, SEQUENCE}

-- bit i of the octets of a BIT STRING, the first being
-- the highest of its octet; a missing octet has no bits
abbrev pub bit_of : List ℕ → ℕ → Bool
bit_of octets i = not (bit_and (slice_index octets (i / 8)) (2 ^ (7 - i % 8)) == 0)

-- the bits that are read of a key usage (section 4.2.1.3):
-- digitalSignature is 0, keyCertSign is 5, cRLSign is 6
abbrev pub usage_bits : List ℕ → KeyUsageBits
usage_bits octets = record {
  digital_signature = bit_of octets 0;
  key_cert_sign = bit_of octets 5;
  crl_sign = bit_of octets 6;
}

unfoldable pub key_usage_of : List ℕ → Option KeyUsageBits
key_usage_of contents = do
  bits ← whole_at BIT_STRING contents
  if is_bit_string bits then Some (usage_bits (drop 1 bits)) else None

-- an INTEGER that may be left out and ends the bytes:
-- its contents octets, of which there is at least one
abbrev pub is_path_length : Option (List ℕ) × List ℕ → Bool
is_path_length (None, end) = length end == 0
is_path_length (Some number, end) = not (length number == 0) && (length end == 0)

-- the CA flag of basic constraints (section 4.2.1.9)
unfoldable pub basic_constraints_of : List ℕ → Option Bool
basic_constraints_of contents = do
  inner ← whole_at SEQUENCE contents
  ca ← default_false_at inner
  number ← optional_at INTEGER ca.1
  if is_path_length number then Some ca.0 else None
