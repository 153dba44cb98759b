-- The grammar of the three extensions that are read (RFC 5280
-- section 4.2.1): which octets are a text, and what it means.
use Rattle.std.specs.Prelude.{◌≡◌, ℕ, List, [], ◌∷◌, ◌++◌, ◌⊎◌, drop, Option, Some, Bool, true}
use Rattle.spf_der.specs.Value.{Value}
use Rattle.spf_der.specs.Types.{is_bit_string}
use Rattle.spf_der.specs.Extensions.{usage_bits}
use Rattle.spf_der.specs.Names.{name_of, with_name}
use Rattle.spf_der.specs.Grammar.{joined, IntegerText, FlagText}
use Rattle.spf_der.specs.declared.extensions.KeyUsageBits.{KeyUsageBits}
use Rattle.spf_der.specs.declared.value.TheConstants.{BIT_STRING, SEQUENCE}

-- KeyUsage (section 4.2.1.3): exactly one BIT STRING
pub record UsageText (b : List ℕ) (usage : KeyUsageBits) : Type 0 where
  pub bits : List ℕ
  pub value : Value b BIT_STRING bits
  pub is_bits : is_bit_string bits ≡ true
  pub means : usage_bits (drop 1 bits) ≡ usage

-- an INTEGER
pub record NumberText (b : List ℕ) : Type 0 where
  pub number : List ℕ
  pub number_is : IntegerText b number

-- BasicConstraints (section 4.2.1.9): the CA flag, and a bound on the path that may be left out
pub record ConstraintsText (b : List ℕ) (ca : Bool) : Type 0 where
  pub flag : List ℕ
  pub path : List ℕ
  pub value : Value b SEQUENCE (joined (flag ∷ path ∷ []))
  pub flag_is : FlagText flag ca
  pub path_is : (path ≡ []) ⊎ NumberText path

-- GeneralName (section 4.2.1.6): its URI, if it is one
pub record NameText (b : List ℕ) (uri : Option (List ℕ)) : Type 0 where
  pub tag : ℕ
  pub contents : List ℕ
  pub value : Value b tag contents
  pub means : name_of tag contents ≡ Some uri

-- a concatenation of names, with the URIs among them
abbrev pub NameTexts : List ℕ → List (Option (List ℕ)) → Type 0
NameTexts b [] = b ≡ []
NameTexts b (name ∷ names) =
    (text : List ℕ) × (others : List ℕ) × (b ≡ text ++ others) × NameText text name
    × NameTexts others names

abbrev pub uris_among : List (Option (List ℕ)) → List (List ℕ)
uris_among [] = []
uris_among (name ∷ names) = with_name name (uris_among names)

-- SubjectAltName
pub record NamesText (b : List ℕ) (uris : List (List ℕ)) : Type 0 where
  pub inner : List ℕ
  pub names : List (Option (List ℕ))
  pub value : Value b SEQUENCE inner
  pub names_are : NameTexts inner names
  pub means : uris_among names ≡ uris
