-- Certificates that differ in their expiry alone.
use Rattle.std.specs.Prelude.{◌≡◌, ℕ, suc, ◌+◌, List, [], ◌∷◌, ◌++◌, length, codes}
use Rattle.spf_der.specs.declared.writer.CertSpec.{CertSpec}
use Rattle.spf_der.specs.Value.{length_octets, value_text}
use Rattle.spf_der.specs.Written.{algorithm_text, certificate_text, extensions_part}
use Rattle.spf_der.specs.Written.{extensions_text, no_bits, no_name, public_key_text, version_text}
use Rattle.spf_watch.specs.declared.template.Template.{Template}

-- what stands in tbsCertificate before and after a notAfter of 15 octets
unfoldable pub tbs_before : CertSpec → List ℕ
tbs_before spec =
    version_text (extensions_text spec) ++ value_text 2 (spec.serial ∷ []) ++ algorithm_text
    ++ no_name
    ++ 48 ∷ 30 ∷ value_text 23 (codes "700101000000Z")

unfoldable pub tbs_after : CertSpec → List ℕ
tbs_after spec = no_name ++ public_key_text ++ extensions_part (extensions_text spec)

-- how many octets the contents of tbsCertificate have
unfoldable pub tbs_size : CertSpec → ℕ
tbs_size spec = length (tbs_before spec) + (15 + length (tbs_after spec))

-- what stands in a certificate before and after a notAfter of 15 octets
unfoldable pub before : CertSpec → List ℕ
before spec =
    48 ∷ length_octets (suc (length (length_octets (tbs_size spec)) + tbs_size spec) + 10)
    ++ 48 ∷ length_octets (tbs_size spec) ++ tbs_before spec

unfoldable pub after : CertSpec → List ℕ
after spec = tbs_after spec ++ algorithm_text ++ no_bits

-- with this notAfter put in
abbrev pub dated : Template → List ℕ → List ℕ
dated t time = t.before.items ++ (time ++ t.after.items)

-- with each notAfter of 15 octets it is the certificate of the specification
abbrev pub IsTemplate : CertSpec → Template → Type 0
IsTemplate spec t = (time : List ℕ) → length time ≡ 15 → dated t time ≡ certificate_text spec time
