-- Private keys (RFC 5958 section 2).
use Rattle.std.specs.Prelude.{ℕ, List, ◌++◌, length, Result, Ok, Err, if◌then◌else◌, codes}
use Rattle.std.specs.Fmt.{decimal}
use Rattle.spf_der.specs.Key.{is_key}
use Rattle.spf_x509.specs.declared.error.PrivateKeyError.{PrivateKeyError}
use Rattle.spf_x509.specs.declared.error.PrivateKeyError.TheVariants.{DecodePkcs8}

-- a key is kept as its bytes, which are one whole key
unfoldable pub key_rule : List ℕ → Result (List ℕ) PrivateKeyError
key_rule der = if is_key der then Ok der else Err (DecodePkcs8 (record {}))

-- what is printed of a key: how many octets it has, and none of them
abbrev pub shown : List ℕ → List ℕ
shown key = codes "PrivateKey { len: " ++ decimal (length key) ++ codes " }"
