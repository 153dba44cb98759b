-- Private keys (RFC 5958 section 2).
use Rattle.std.specs.Prelude.{ℕ, List, length, Option, Some, None, Bool, false, ◌&&◌, ◌==◌}
use Rattle.spf_io.specs.Option.{◌>>=◌}
use Rattle.spf_der.specs.Value.{context_primitive, context_constructed, tagged_at, whole_at}
use Rattle.spf_der.specs.Value.{optional_at}
use Rattle.spf_der.specs.Types.{small_integer_at, is_bit_string, after_algorithm_at}
use Rattle.spf_der.specs.declared.value.TheConstants.{OCTET_STRING, SEQUENCE}

-- a public key that ends the bytes, which is there exactly where the version is 1
abbrev pub is_public_key : ℕ → Option (List ℕ) × List ℕ → Bool
is_public_key version (None, end) = (version == 0) && (length end == 0)
is_public_key version (Some bits, end) = (version == 1) && is_bit_string bits && (length end == 0)

-- the whole of the bytes is a key
unfoldable pub key_at : List ℕ → Option Bool
key_at der = do
  inner ← whole_at SEQUENCE der
  version ← small_integer_at 1 inner
  key ← after_algorithm_at version.1
  attributes ← tagged_at OCTET_STRING key
  public ← optional_at (context_constructed 0) attributes.1
  end ← optional_at (context_primitive 1) public.1
  Some (is_public_key version.0 end)

abbrev pub is_key : List ℕ → Bool
is_key der = is_some_true (key_at der)
  where
    is_some_true : Option Bool → Bool
    is_some_true (Some b) = b
    is_some_true None = false
