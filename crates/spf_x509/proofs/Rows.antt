-- The rules of SVIDs at named certificates: what is kept of each, and what is said of it.
use Rattle.std.proofs.Common.{◌≡◌, ℕ, refl, List, [], ◌∷◌, ◌++◌, length, None, Ok, Err}
use Rattle.std.specs.Prelude.{pos, codes}
use Rattle.spf_id.specs.Rule.{domain_rule, segment_rule, parts_rule, id_rule, has_spiffe_scheme}
use Rattle.spf_id.specs.declared.error.SpiffeIdError.TheVariants.{WrongScheme, DotSegment}
use Rattle.spf_der.specs.Part.{Parts}
use Rattle.spf_der.specs.Value.{length_at, contents_at, value_at, tagged_at, whole_at, optional_at}
use Rattle.spf_der.specs.Types.{object_identifier_at, small_integer_at, default_false_at}
use Rattle.spf_der.specs.Types.{after_algorithm_at}
use Rattle.spf_der.specs.Extensions.{key_usage_of, basic_constraints_of}
use Rattle.spf_der.specs.Names.{name_at, san_uris_of}
use Rattle.spf_der.specs.Key.{key_at}
use Rattle.spf_der.specs.declared.certificate.ExtensionPart.{ExtensionPart}
use Rattle.spf_der.specs.declared.error.X509ParseKind.TheVariants.{DuplicateExtensions}
use Rattle.spf_x509.specs.declared.extension.X509ExtensionId.TheVariants.{KeyUsage}
use Rattle.spf_x509.specs.declared.extension.X509ExtensionId.TheVariants.{SubjectAlternativeName}
use Rattle.spf_x509.specs.declared.extension.X509ExtensionId.TheVariants.{BasicConstraints}
use Rattle.spf_x509.specs.declared.error.CertificateError.TheVariants.{MissingX509Extension}
use Rattle.spf_x509.specs.declared.error.CertificateError.TheVariants.{UnexpectedExtension}
use Rattle.spf_x509.specs.declared.error.CertificateError.TheVariants.{ParseX509Certificate}
use Rattle.spf_x509.specs.declared.error.CertificateError.TheVariants.{MissingSpiffeId}
use Rattle.spf_x509.specs.declared.error.CertificateError.TheVariants.{MultipleUriSanEntries}
use Rattle.spf_x509.specs.declared.error.CertificateError.TheVariants.{InvalidSpiffeId}
use Rattle.spf_x509.specs.declared.error.PrivateKeyError.TheVariants.{DecodePkcs8}
use Rattle.spf_x509.specs.declared.svid_error.X509SvidError.TheVariants as errors
use Rattle.spf_x509.specs.Certificate.{extension_rule, uri_rule, uris_rule, san_rule}
use Rattle.spf_x509.specs.Key.{key_rule}
use Rattle.spf_x509.specs.Rule.{usage_rule, ca_rule, leaf_rule, intermediate_rule}
use Rattle.spf_x509.specs.Chain.{chain_rule, svid_of_parts, svid_of}

-- an extension of 2.5.29.n
abbrev extension : ℕ → List ℕ → ExtensionPart
extension n contents = record { oid = 85 ∷ 29 ∷ n ∷ []; contents = contents }

-- a key usage of one octet
abbrev usage : ℕ → ExtensionPart
usage octet = extension 15 (3 ∷ 2 ∷ 1 ∷ octet ∷ [])

abbrev no_ca : ExtensionPart
no_ca = extension 19 (48 ∷ 0 ∷ [])

abbrev ca : ExtensionPart
ca = extension 19 (48 ∷ 3 ∷ 1 ∷ 1 ∷ 255 ∷ [])

-- a name of that tag
abbrev name : ℕ → List ℕ → List ℕ
name tag text = tag ∷ length text ∷ text

abbrev names : List ℕ → ExtensionPart
names text = extension 17 (48 ∷ length text ∷ text)

abbrev w : ExtensionPart
w = names (name 134 (codes "spiffe://example.org/w"))

abbrev kept : List ExtensionPart → Parts
kept extensions = record { expiry = pos 1000; extensions = extensions }

-- LEAF1, INTER1 and ROOT1 as they are kept, and KEY1
abbrev leaf : Parts
leaf = kept (usage 128 ∷ no_ca ∷ w ∷ [])

abbrev inter : Parts
inter = kept (usage 4 ∷ ca ∷ [])

abbrev root : Parts
root = kept []

abbrev key : List ℕ
key = 48 ∷ 13 ∷ 2 ∷ 1 ∷ 0 ∷ 48 ∷ 5 ∷ 6 ∷ 3 ∷ 43 ∷ 101 ∷ 112 ∷ 4 ∷ 1 ∷ 1 ∷ []

-- the SVID rule over certificates that were cut

whole : svid_of_parts key None ((leaf, codes "leaf") ∷ (inter, codes "inter") ∷ [])
    ≡ Ok (record {
      id = record { domain = codes "example.org"; path = codes "/w" };
      hint = None;
      chain = codes "leaf" ∷ codes "inter" ∷ [];
      key = key;
      expiry = pos 1000;
    })
unfolding leaf_rule intermediate_rule usage_rule ca_rule san_rule extension_rule uri_rule id_rule
    parts_rule domain_rule segment_rule has_spiffe_scheme key_usage_of basic_constraints_of
    san_uris_of name_at value_at whole_at tagged_at optional_at contents_at length_at
    default_false_at key_rule key_at small_integer_at after_algorithm_at object_identifier_at
whole = refl

empty_chain : svid_of [] key None ≡ Err errors.EmptyChain
unfolding svid_of chain_rule
empty_chain = refl

no_key : svid_of_parts (0 ∷ []) None ((leaf, []) ∷ [])
    ≡ Err (errors.PrivateKey (DecodePkcs8 (record {})))
unfolding leaf_rule usage_rule ca_rule san_rule extension_rule uri_rule id_rule parts_rule
    domain_rule segment_rule has_spiffe_scheme key_usage_of basic_constraints_of san_uris_of name_at
    value_at whole_at tagged_at optional_at contents_at length_at default_false_at key_rule key_at
no_key = refl

-- the chain is looked at before the key
chain_before_key : svid_of_parts (0 ∷ []) None ((leaf, []) ∷ (root, []) ∷ [])
    ≡ Err (errors.Certificate (MissingX509Extension BasicConstraints))
unfolding leaf_rule intermediate_rule usage_rule ca_rule san_rule extension_rule uri_rule id_rule
    parts_rule domain_rule segment_rule has_spiffe_scheme key_usage_of basic_constraints_of
    san_uris_of name_at value_at whole_at tagged_at optional_at contents_at length_at
    default_false_at
chain_before_key = refl

-- the rule of a leaf

inter_as_leaf : leaf_rule inter ≡ Err errors.LeafCertificateMissingDigitalSignature
unfolding leaf_rule usage_rule extension_rule key_usage_of whole_at tagged_at contents_at length_at
inter_as_leaf = refl

leaf_that_signs_certificates : leaf_rule (kept (usage 132 ∷ no_ca ∷ w ∷ []))
    ≡ Err errors.LeafCertificateHasKeyCertSign
unfolding leaf_rule usage_rule extension_rule key_usage_of whole_at tagged_at contents_at length_at
leaf_that_signs_certificates = refl

-- cRLSign is looked at before keyCertSign
leaf_that_signs_both : leaf_rule (kept (usage 134 ∷ no_ca ∷ w ∷ []))
    ≡ Err errors.LeafCertificateHasCrlSign
unfolding leaf_rule usage_rule extension_rule key_usage_of whole_at tagged_at contents_at length_at
leaf_that_signs_both = refl

unused_bits : leaf_rule (kept (extension 15 (3 ∷ 2 ∷ 8 ∷ 128 ∷ []) ∷ no_ca ∷ w ∷ []))
    ≡ Err (errors.UnparseableExtension (codes "KeyUsage"))
unfolding leaf_rule usage_rule extension_rule key_usage_of whole_at tagged_at contents_at length_at
unused_bits = refl

no_usage : leaf_rule (kept (no_ca ∷ w ∷ []))
    ≡ Err (errors.Certificate (MissingX509Extension KeyUsage))
unfolding leaf_rule usage_rule extension_rule
no_usage = refl

two_usages : leaf_rule (kept (usage 128 ∷ usage 128 ∷ w ∷ []))
    ≡ Err (errors.Certificate (ParseX509Certificate DuplicateExtensions))
unfolding leaf_rule usage_rule extension_rule
two_usages = refl

null_constraints : leaf_rule (kept (usage 128 ∷ extension 19 (5 ∷ 0 ∷ []) ∷ w ∷ []))
    ≡ Err (errors.UnparseableExtension (codes "BasicConstraints"))
unfolding leaf_rule usage_rule ca_rule extension_rule key_usage_of basic_constraints_of whole_at
    tagged_at contents_at length_at
null_constraints = refl

leaf_with_ca : leaf_rule (kept (usage 128 ∷ ca ∷ w ∷ [])) ≡ Err errors.LeafCertificateHasCaFlag
unfolding leaf_rule usage_rule ca_rule extension_rule key_usage_of basic_constraints_of whole_at
    tagged_at optional_at contents_at length_at default_false_at
leaf_with_ca = refl

no_path : leaf_rule
    (kept (usage 128 ∷ no_ca ∷ names (name 134 (codes "spiffe://example.org")) ∷ []))
    ≡ Err errors.LeafSpiffeIdMissingPath
unfolding leaf_rule usage_rule ca_rule san_rule extension_rule uri_rule id_rule parts_rule
    domain_rule has_spiffe_scheme key_usage_of basic_constraints_of san_uris_of name_at value_at
    whole_at tagged_at optional_at contents_at length_at default_false_at
no_path = refl

-- the rule of an intermediate

intermediate_without_ca : intermediate_rule (kept (usage 4 ∷ no_ca ∷ []))
    ≡ Err errors.SigningCertificateMissingCaFlag
unfolding intermediate_rule usage_rule ca_rule extension_rule key_usage_of basic_constraints_of
    whole_at tagged_at optional_at contents_at length_at default_false_at
intermediate_without_ca = refl

intermediate_without_usage : intermediate_rule (kept (usage 128 ∷ ca ∷ []))
    ≡ Err errors.SigningCertificateMissingKeyCertSign
unfolding intermediate_rule usage_rule ca_rule extension_rule key_usage_of basic_constraints_of
    whole_at tagged_at optional_at contents_at length_at default_false_at
intermediate_without_usage = refl

-- the SAN rule

no_names : san_rule root ≡ Err (MissingX509Extension SubjectAlternativeName)
unfolding san_rule extension_rule
no_names = refl

dns_name : san_rule (kept (names (name 130 (codes "spiffe://example.org/w")) ∷ []))
    ≡ Err MissingSpiffeId
unfolding san_rule extension_rule san_uris_of name_at value_at whole_at tagged_at contents_at
    length_at
dns_name = refl

constructed_name : san_rule (kept (names (name 166 (codes "spiffe://example.org/w")) ∷ []))
    ≡ Err (UnexpectedExtension (codes "SubjectAlternativeName"))
unfolding san_rule extension_rule san_uris_of name_at value_at whole_at tagged_at contents_at
    length_at
constructed_name = refl

octet_above_127 : san_rule
    (kept (names (name 134 (codes "spiffe://example.org/" ++ 247 ∷ [])) ∷ []))
    ≡ Err (UnexpectedExtension (codes "SubjectAlternativeName"))
unfolding san_rule extension_rule san_uris_of name_at value_at whole_at tagged_at contents_at
    length_at
octet_above_127 = refl

dot_segment : san_rule (kept (names (name 134 (codes "spiffe://example.org/.")) ∷ []))
    ≡ Err (InvalidSpiffeId DotSegment)
unfolding san_rule extension_rule uri_rule id_rule parts_rule domain_rule segment_rule
    has_spiffe_scheme san_uris_of name_at value_at whole_at tagged_at contents_at length_at
dot_segment = refl

other_case : uris_rule (codes "SPIFFE://example.org/w" ∷ []) ≡ Err (InvalidSpiffeId WrongScheme)
unfolding uri_rule id_rule has_spiffe_scheme
other_case = refl

two_uris : uris_rule (codes "https://a" ∷ codes "https://a" ∷ []) ≡ Err MultipleUriSanEntries
unfolding uri_rule has_spiffe_scheme
two_uris = refl

no_id : uris_rule (codes "https://a" ∷ []) ≡ Err MissingSpiffeId
unfolding uri_rule has_spiffe_scheme
no_id = refl
