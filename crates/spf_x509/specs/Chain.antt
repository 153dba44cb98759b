-- Concatenated certificates, and the SVID of a chain (SPIFFE X.509-SVID sections 3 and 4).
use Rattle.std.specs.Prelude.{◌≡◌, ℕ, List, [], ◌∷◌, ◌++◌, length, take, drop, map, Option, Result}
use Rattle.std.specs.Prelude.{Ok, Err}
use Rattle.spf_io.specs.Rule.{◌>>=◌, broken_as, each, many}
use Rattle.spf_der.specs.Grammar.{CertsOf, joined}
use Rattle.spf_der.specs.Part.{Parts}
use Rattle.spf_der.specs.Read.{certificate_rule}
use Rattle.spf_der.specs.declared.error.X509ParseKind.TheVariants.{InvalidCertificate}
use Rattle.spf_x509.specs.declared.error.CertificateError.{CertificateError}
use Rattle.spf_x509.specs.declared.error.CertificateError.TheVariants.{TooManyCertificates}
use Rattle.spf_x509.specs.declared.error.CertificateError.TheVariants.{ParseX509Certificate}
use Rattle.spf_x509.specs.declared.svid_error.X509SvidError.{X509SvidError}
use Rattle.spf_x509.specs.declared.svid_error.X509SvidError.TheVariants.{EmptyChain}
use Rattle.spf_x509.specs.Errors.{of_read, svid_of_certificate, svid_of_key}
use Rattle.spf_x509.specs.Svid.{Svid}
use Rattle.spf_x509.specs.Key.{key_rule}
use Rattle.spf_x509.specs.Rule.{leaf_rule, intermediate_rule}

-- the certificate at the start, as what is kept of it and as its bytes, and what follows it
unfoldable pub certificate_text_at : List ℕ → Result ((Parts × List ℕ) × List ℕ) CertificateError
certificate_text_at bytes = do
  read ← broken_as of_read (certificate_rule bytes)
  Ok ((read.0, take read.1 bytes), drop read.1 bytes)

-- the certificates whose concatenation the bytes are, at most 16
unfoldable pub chain_rule : List ℕ → Result (List (Parts × List ℕ)) CertificateError
chain_rule chain = many certificate_text_at (TooManyCertificates 16) 16 chain

-- the certificates of a chain, at most 16, whose first two are cut
abbrev pub chain_after : Parts × List ℕ → Parts × List ℕ → List ℕ
    → Result (List (Parts × List ℕ)) CertificateError
chain_after leaf second others = do
  more ← many certificate_text_at (TooManyCertificates 16) 14 others
  Ok (leaf ∷ second ∷ more)

-- the bytes of the certificate at the start, and what follows it
unfoldable pub authority_at : List ℕ → Result (List ℕ × List ℕ) CertificateError
authority_at bytes = do
  read ← certificate_text_at bytes
  Ok (read.0.1, read.1)

-- the certificates whose concatenation the bytes are, as many as there are
unfoldable pub authorities_rule : List ℕ → Result (List (List ℕ)) CertificateError
authorities_rule der = many authority_at (ParseX509Certificate InvalidCertificate) (length der) der

-- the same after other certificates
abbrev pub authorities_after : List (List ℕ) → List ℕ → Result (List (List ℕ)) CertificateError
authorities_after certificates der = do
  more ← authorities_rule der
  Ok (certificates ++ more)

-- the bytes of certificates
abbrev pub texts : List (Parts × List ℕ) → List (List ℕ)
texts parts = map (λ (p : Parts × List ℕ). p.1) parts

-- certificates that their own concatenation gives
abbrev pub IsChain : List (Parts × List ℕ) → Type 0
IsChain parts = chain_rule (joined (texts parts)) ≡ Ok parts

-- the rule of each intermediate, in order: the first that breaks it decides
abbrev pub intermediates_rule : List (Parts × List ℕ) → Result (Unit {0}) X509SvidError
intermediates_rule intermediates =
    each (λ (p : Parts × List ℕ). intermediate_rule p.0) intermediates >>= λ _. Ok tt

-- the rules of the leaf, of each intermediate in order, and of the key
abbrev pub svid_of_parts : List ℕ → Option (List ℕ) → List (Parts × List ℕ)
    → Result Svid X509SvidError
svid_of_parts key hint [] = Err EmptyChain
svid_of_parts key hint (leaf ∷ intermediates) = do
  found ← leaf_rule leaf.0
  _ ← intermediates_rule intermediates
  kept ← broken_as svid_of_key (key_rule key)
  Ok (record {
    id = found.0;
    hint = hint;
    chain = texts (leaf ∷ intermediates);
    key = kept;
    expiry = found.1;
  })

-- SvidOf: the SVID of a chain and a key, or the first broken rule
unfoldable pub svid_of : List ℕ → List ℕ → Option (List ℕ) → Result Svid X509SvidError
svid_of chain key hint = do
  parts ← broken_as svid_of_certificate (chain_rule chain)
  svid_of_parts key hint parts

-- certificates that may follow a leaf: they are read, and each keeps the rule of an intermediate
pub record MayFollowLeaf (certificates : List (List ℕ)) : Type 0 where
  pub parts : List (Parts × List ℕ)
  pub are : texts parts ≡ certificates
  pub read : many certificate_text_at (TooManyCertificates 16) 15 (joined certificates) ≡ Ok parts
  pub keep : intermediates_rule parts ≡ Ok tt

-- the rules of the leaf and of the key, where the certificates after the leaf keep theirs
unfoldable pub svid_with_leaf : Parts → List ℕ → List (List ℕ) → List ℕ → Option (List ℕ)
    → Result Svid X509SvidError
svid_with_leaf parts leaf others key hint = do
  found ← leaf_rule parts
  kept ← broken_as svid_of_key (key_rule key)
  Ok (record {
    id = found.0;
    hint = hint;
    chain = leaf ∷ others;
    key = kept;
    expiry = found.1;
  })

-- an SVID that its own chain, key and hint give
abbrev pub IsSvid : Svid → Type 0
IsSvid svid = svid_of (joined svid.chain) svid.key svid.hint ≡ Ok svid

-- 16 certificates stand at the start of the chain, and an octet after them
pub record IsTooLong (chain : List ℕ) : Type 0 where
  pub certificates : List (List ℕ)
  pub octet : ℕ
  pub others : List ℕ
  pub count : length certificates ≡ 16
  pub are : CertsOf (joined certificates) certificates
  pub cut : chain ≡ joined certificates ++ octet ∷ others

-- certificates are read of a chain, with those bytes
pub record ReadAs (read : Result (List (Parts × List ℕ)) CertificateError)
    (certificates : List (List ℕ)) : Type 0 where
  pub parts : List (Parts × List ℕ)
  pub is : read ≡ Ok parts
  pub texts_are : texts parts ≡ certificates
