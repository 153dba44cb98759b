-- What the examples return.
use Rattle.std.specs.Prelude.{ℕ, ◌-◌, ◌==◌, ℤ, int_lt, Bool, if◌then◌else◌, List, length, Option}
use Rattle.std.specs.Prelude.{None, Some, Result, Ok}
use Rattle.std.specs.Str.{bytes_eq}
use Rattle.spf_io.specs.Rule.{◌>>=◌}
use Rattle.spf_id.specs.declared.error.SpiffeIdError.{SpiffeIdError}
use Rattle.spf_id.specs.Rule.{id_rule}
use Rattle.spf_x509.specs.Chain.{svid_of}
use Rattle.spf_x509.specs.Svid.{Svid}
use Rattle.spf_x509.specs.declared.svid_error.X509SvidError.{X509SvidError}

-- whether a text is the ID of a member of a trust domain, or the first rule of an ID that it breaks
abbrev pub member_rule : List ℕ → List ℕ → Result Bool SpiffeIdError
member_rule text domain = id_rule text >>= λ id. Ok (bytes_eq id.domain domain)

-- whether the SVID of a chain and a key expires after a
-- moment, or the first rule of an SVID that they break
abbrev pub validity_rule : List ℕ → List ℕ → ℤ → Result Bool X509SvidError
validity_rule chain key now = svid_of chain key None >>= λ svid. Ok (int_lt now svid.expiry)

-- the index of the last SVID, where there is one
abbrev pub last_index : List Svid → Option ℕ
last_index svids = if length svids == 0 then None else Some (length svids - 1)
