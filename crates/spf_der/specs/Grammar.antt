-- The grammar of certificates (RFC 5280 section 4.1) and of keys
-- (RFC 5958 section 2): which octets are a text, piece by piece.
use Rattle.std.specs.Prelude.{◌≡◌, ◌≢◌, ℕ, ◌≤◌, ◌⊎◌, List, [], ◌∷◌, ◌++◌, Some, Bool, true}
use Rattle.std.specs.Prelude.{false, ℤ}
use Rattle.spf_der.specs.Value.{Value, context_primitive, context_constructed}
use Rattle.spf_der.specs.Types.{is_bit_string}
use Rattle.spf_der.specs.Time.{unix_of}
use Rattle.spf_der.specs.Part.{Parts}
use Rattle.spf_der.specs.declared.certificate.ExtensionPart.{ExtensionPart}
use Rattle.spf_der.specs.declared.value.TheConstants.{BIT_STRING, BOOLEAN, INTEGER}
use Rattle.spf_der.specs.declared.value.TheConstants.{OBJECT_IDENTIFIER, OCTET_STRING, SEQUENCE}

-- the pieces, one after another
abbrev pub joined : List (List ℕ) → List ℕ
joined [] = []
joined (piece ∷ pieces) = piece ++ joined pieces

-- OBJECT IDENTIFIER (X.690 section 8.19), with at least one contents octet
pub record IdentifierText (b oid : List ℕ) : Type 0 where
  pub value : Value b OBJECT_IDENTIFIER oid
  pub some : oid ≢ []

-- INTEGER (X.690 section 8.3), with at least one contents octet
pub record IntegerText (b number : List ℕ) : Type 0 where
  pub value : Value b INTEGER number
  pub some : number ≢ []

-- an INTEGER of one contents octet, at most `max`
pub record SmallText (max : ℕ) (b : List ℕ) (number : ℕ) : Type 0 where
  pub value : Value b INTEGER (number ∷ [])
  pub within : number ≤ max

-- BIT STRING (X.690 section 8.6), also under another tag
pub record BitsText (tag : ℕ) (b : List ℕ) : Type 0 where
  pub bits : List ℕ
  pub value : Value b tag bits
  pub is_bits : is_bit_string bits ≡ true

-- one value of any tag
pub record AnyText (b : List ℕ) : Type 0 where
  pub tag : ℕ
  pub contents : List ℕ
  pub value : Value b tag contents

-- AlgorithmIdentifier (section 4.1.1.2): an identifier and at most one value of parameters
pub record AlgorithmText (b : List ℕ) : Type 0 where
  pub oid : List ℕ
  pub identifier : List ℕ
  pub parameters : List ℕ
  pub value : Value b SEQUENCE (joined (identifier ∷ parameters ∷ []))
  pub identifier_is : IdentifierText identifier oid
  pub parameters_are : (parameters ≡ []) ⊎ AnyText parameters

-- Version, which may be left out (section 4.1.2.1): an INTEGER from 0 to 2
pub record NumberedText (b : List ℕ) : Type 0 where
  pub inner : List ℕ
  pub number : ℕ
  pub value : Value b (context_constructed 0) inner
  pub number_is : SmallText 2 inner number

abbrev pub VersionText : List ℕ → Type 0
VersionText b = (b ≡ []) ⊎ NumberedText b

-- Time (section 4.1.2.5): its Unix second, by its tag and its contents octets
abbrev pub UnixOf : ℕ → List ℕ → ℤ → Type 0
UnixOf tag contents moment = unix_of tag contents ≡ Some moment

pub record TimeText (b : List ℕ) (moment : ℤ) : Type 0 where
  pub tag : ℕ
  pub contents : List ℕ
  pub value : Value b tag contents
  pub means : UnixOf tag contents moment

-- Validity (section 4.1.2.5): two times, of which the second is the expiry
pub record ValidityText (b : List ℕ) (expiry : ℤ) : Type 0 where
  pub moment : ℤ
  pub start : List ℕ
  pub end : List ℕ
  pub value : Value b SEQUENCE (joined (start ∷ end ∷ []))
  pub start_is : TimeText start moment
  pub end_is : TimeText end expiry

-- SubjectPublicKeyInfo (section 4.1.2.7)
pub record PublicKeyText (b : List ℕ) : Type 0 where
  pub algorithm : List ℕ
  pub key : List ℕ
  pub value : Value b SEQUENCE (joined (algorithm ∷ key ∷ []))
  pub algorithm_is : AlgorithmText algorithm
  pub key_is : BitsText BIT_STRING key

-- a unique identifier of that number, primitive or constructed (section 4.1.2.8)
pub record NamedText (number : ℕ) (b : List ℕ) : Type 0 where
  pub contents : List ℕ
  pub value : Value b (context_primitive number) contents
      ⊎ Value b (context_constructed number) contents

-- the same, which may be left out
abbrev pub UniqueIdText : ℕ → List ℕ → Type 0
UniqueIdText number b = (b ≡ []) ⊎ NamedText number b

-- a BOOLEAN (X.690 sections 8.2 and 11.1) that may be left out, which is false then
abbrev pub FlagText : List ℕ → Bool → Type 0
FlagText b true = Value b BOOLEAN (255 ∷ [])
FlagText b false = (b ≡ []) ⊎ Value b BOOLEAN (0 ∷ [])

-- Extension (section 4.2)
pub record ExtensionText (b : List ℕ) (extension : ExtensionPart) : Type 0 where
  pub identifier : List ℕ
  pub is_critical : Bool
  pub critical : List ℕ
  pub octets : List ℕ
  pub value : Value b SEQUENCE (joined (identifier ∷ critical ∷ octets ∷ []))
  pub identifier_is : IdentifierText identifier extension.oid
  pub critical_is : FlagText critical is_critical
  pub octets_are : Value octets OCTET_STRING extension.contents

-- a concatenation of extensions
abbrev pub ExtensionTexts : List ℕ → List ExtensionPart → Type 0
ExtensionTexts b [] = b ≡ []
ExtensionTexts b (extension ∷ extensions) =
    (text : List ℕ) × (others : List ℕ) × (b ≡ text ++ others) × ExtensionText text extension
    × ExtensionTexts others extensions

-- Extensions (section 4.1.2.9), whose list has these octets
pub record ListedText (b list : List ℕ) : Type 0 where
  pub inner : List ℕ
  pub value : Value b (context_constructed 3) inner
  pub list_is : Value inner SEQUENCE list

-- the same, which may be left out: then there are none
abbrev pub ExtensionsText : List ℕ → List ℕ → Type 0
ExtensionsText b list = ((b ≡ []) × (list ≡ [])) ⊎ ListedText b list

-- the contents of tbsCertificate (section 4.1.2): its
-- expiry, and the octets of its list of extensions
pub record TbsText (b : List ℕ) (expiry : ℤ) (list : List ℕ) : Type 0 where
  pub version : List ℕ
  pub number : List ℕ
  pub serial : List ℕ
  pub signature : List ℕ
  pub issuer_name : List ℕ
  pub issuer : List ℕ
  pub validity : List ℕ
  pub subject_name : List ℕ
  pub subject : List ℕ
  pub public_key : List ℕ
  pub issuer_id : List ℕ
  pub subject_id : List ℕ
  pub extensions : List ℕ
  pub order : b
      ≡ joined (version ∷ serial ∷ signature ∷ issuer ∷ validity ∷ subject ∷ public_key ∷ issuer_id
      ∷ subject_id ∷ extensions ∷ [])
  pub version_is : VersionText version
  pub serial_is : IntegerText serial number
  pub signature_is : AlgorithmText signature
  pub issuer_is : Value issuer SEQUENCE issuer_name
  pub validity_is : ValidityText validity expiry
  pub subject_is : Value subject SEQUENCE subject_name
  pub public_key_is : PublicKeyText public_key
  pub issuer_id_is : UniqueIdText 1 issuer_id
  pub subject_id_is : UniqueIdText 2 subject_id
  pub extensions_are : ExtensionsText extensions list

-- Certificate (section 4.1.1), with its expiry and the octets of its list of extensions
pub record SignedText (b : List ℕ) (expiry : ℤ) (list : List ℕ) : Type 0 where
  pub inner : List ℕ
  pub tbs : List ℕ
  pub algorithm : List ℕ
  pub signature : List ℕ
  pub value : Value b SEQUENCE (joined (tbs ∷ algorithm ∷ signature ∷ []))
  pub tbs_is : Value tbs SEQUENCE inner
  pub inner_is : TbsText inner expiry list
  pub algorithm_is : AlgorithmText algorithm
  pub signature_is : BitsText BIT_STRING signature

-- a certificate with its expiry and its extensions
pub record CertText (b : List ℕ) (parts : Parts) : Type 0 where
  pub list : List ℕ
  pub signed : SignedText b parts.expiry list
  pub extensions : ExtensionTexts list parts.extensions

-- the certificates whose concatenation the bytes are
abbrev pub CertsOf : List ℕ → List (List ℕ) → Type 0
CertsOf b [] = b ≡ []
CertsOf b (text ∷ texts) =
    (parts : Parts) × (others : List ℕ) × (b ≡ text ++ others) × CertText text parts
    × CertsOf others texts

-- what may stand for the attributes of a key, which are unread
pub record AttributesText (b : List ℕ) : Type 0 where
  pub contents : List ℕ
  pub value : Value b (context_constructed 0) contents

-- PrivateKeyInfo (RFC 5958 section 2): a public key ends it exactly where the version is 1
pub record KeyText (b : List ℕ) : Type 0 where
  pub version : ℕ
  pub key : List ℕ
  pub number : List ℕ
  pub algorithm : List ℕ
  pub octets : List ℕ
  pub attributes : List ℕ
  pub public_key : List ℕ
  pub value : Value b SEQUENCE (joined (number ∷ algorithm ∷ octets ∷ attributes ∷ public_key ∷ []))
  pub number_is : SmallText 1 number version
  pub algorithm_is : AlgorithmText algorithm
  pub octets_are : Value octets OCTET_STRING key
  pub attributes_are : (attributes ≡ []) ⊎ AttributesText attributes
  pub public_key_is : ((version ≡ 0) × (public_key ≡ []))
      ⊎ ((version ≡ 1) × BitsText (context_primitive 1) public_key)
