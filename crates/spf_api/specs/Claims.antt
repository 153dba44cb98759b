-- The layout of the claims of a validation response, and their readers.
use Rattle.std.specs.Prelude.{ℕ, ℤ, zero, suc, FitsSigned, Bool, true, false, List, [], ◌∷◌, ◌++◌}
use Rattle.std.specs.Prelude.{length, Option, Some, None, ◌==◌, if◌then◌else◌}
use Rattle.std.specs.Option.{IfSome}
use Rattle.std.specs.Int.{w64, to_be_bytes, from_be_bytes, cast_unsigned, cast_signed}
use Rattle.spf_io.specs.Option.{◌>>=◌}
use Rattle.spf_api.specs.declared.response.Claim.{Claim}
use Rattle.spf_api.specs.declared.response.ClaimValue.{ClaimValue, ClaimValue-F, Unset, Null}
use Rattle.spf_api.specs.declared.response.ClaimValue.{Bool as Truth, Whole, OtherNumber, Words}
use Rattle.spf_api.specs.declared.response.ClaimValue.{Items, Fields, fold-ClaimValue}
use Rattle.spf_api.specs.declared.response.ClaimValue.{out-ClaimValue}
use Rattle.spf_api.specs.declared.response.ClaimValue.TheOpen.{Claim-F}
use Rattle.spf_api.specs.declared.payload_validation.TheConstants.{MAX_CLAIM_DEPTH}
use Rattle.spf_api.specs.declared.response.ValidationResponse.{ValidationResponse}
use Rattle.spf_api.specs.Layout.{field_text, list_text, IsText, IsListOf}
use Rattle.spf_api.specs.Reading.{text_field_at, list_at}

-- a truth value as an octet
abbrev pub truth_octet : Bool → ℕ
truth_octet false = 0
truth_octet true = 1

-- the text of a value: a kind octet and the contents, in which each member is its own text
abbrev pub layer_text : ClaimValue-F (List ℕ) (List ℕ) → List ℕ
layer_text ClaimValue-F.Unset = 0 ∷ []
layer_text ClaimValue-F.Null = 1 ∷ []
layer_text (ClaimValue-F.Bool truth) = 2 ∷ truth_octet truth ∷ []
layer_text (ClaimValue-F.Whole number) = 3 ∷ to_be_bytes w64 (cast_unsigned w64 number)
layer_text (ClaimValue-F.OtherNumber text) = 4 ∷ field_text text
layer_text (ClaimValue-F.Words text) = 5 ∷ field_text text
layer_text (ClaimValue-F.Items members) = 6 ∷ list_text (λ (text : List ℕ). text) members
layer_text (ClaimValue-F.Fields members) = 7 ∷ list_text (λ (text : List ℕ). text) members

-- the text of a claim: a name, and the text of its value
abbrev pub named_text : Claim-F (List ℕ) (List ℕ) → List ℕ
named_text c = field_text c.name ++ c.value

-- the text of a value
unfoldable pub claim_value_text : ClaimValue → List ℕ
claim_value_text = fold-ClaimValue (List ℕ) (List ℕ) layer_text named_text

unfoldable pub claim_text : Claim → List ℕ
claim_text c = field_text c.name ++ claim_value_text c.value

-- a claim that may be laid out, where its value may
pub record IsClaim (IsValue : ClaimValue → Type 0) (c : Claim) : Type 0 where
  pub name : IsText c.name
  pub value : IsValue c.value

-- a value that may be laid out, where the values in it may
abbrev pub IsLayer : (ClaimValue → Type 0) → ClaimValue-F ClaimValue Claim → Type 0
IsLayer IsValue (ClaimValue-F.Whole number) = FitsSigned w64 number
IsLayer IsValue (ClaimValue-F.OtherNumber text) = IsText text
IsLayer IsValue (ClaimValue-F.Words text) = IsText text
IsLayer IsValue (ClaimValue-F.Items members) = IsListOf IsValue members
IsLayer IsValue (ClaimValue-F.Fields members) = IsListOf (IsClaim IsValue) members
IsLayer IsValue _ = Unit {0}

-- a value that may be laid out, with values at most `depth` deep
abbrev pub IsClaimValue : ℕ → ClaimValue → Type 0
IsClaimValue zero value = ⊥
IsClaimValue (suc depth) value = IsLayer (IsClaimValue depth) (out-ClaimValue value)

-- a list of claims, or the mark of its absence
abbrev pub optional_claims_text : Option (List Claim) → List ℕ
optional_claims_text None = 0 ∷ []
optional_claims_text (Some claims) = 1 ∷ list_text claim_text claims

unfoldable pub validation_payload : ValidationResponse → List ℕ
validation_payload r = field_text r.spiffe_id ++ optional_claims_text r.claims

pub record IsValidation (r : ValidationResponse) : Type 0 where
  pub spiffe_id : IsText r.spiffe_id
  pub claims : IfSome r.claims (IsListOf (IsClaim (IsClaimValue MAX_CLAIM_DEPTH)))

-- what was read, as a value
abbrev pub as_value : {A : Type 0} → (A → ClaimValue) → Option (A × List ℕ)
    → Option (ClaimValue × List ℕ)
as_value value found = found >>= λ x. Some (value x.0, x.1)

-- one octet, 0 or 1
unfoldable pub truth_at : List ℕ → Option (Bool × List ℕ)
truth_at [] = None
truth_at (octet ∷ rest) =
    if octet == 0 then Some (false, rest) else (if octet == 1 then Some (true, rest) else None)

-- eight octets, in two's complement
unfoldable pub whole_at : List ℕ → Option (ℤ × List ℕ)
whole_at (a ∷ b ∷ c ∷ d ∷ e ∷ f ∷ g ∷ h ∷ rest) =
    Some (cast_signed w64 (from_be_bytes w64 (a ∷ b ∷ c ∷ d ∷ e ∷ f ∷ g ∷ h ∷ [])), rest)
whole_at _ = None

unfoldable pub claim_at : (List ℕ → Option (ClaimValue × List ℕ)) → List ℕ → Option (Claim × List ℕ)
claim_at value_at bytes = do
  n ← text_field_at bytes
  v ← value_at n.1
  Some (record { name = n.0; value = v.0 }, v.1)

-- the contents of a value of that kind
abbrev pub contents_at : (List ℕ → Option (ClaimValue × List ℕ)) → ℕ → List ℕ
    → Option (ClaimValue × List ℕ)
contents_at value_at kind rest =
    if kind == 0 then Some (Unset, rest)
    else (if kind == 1 then Some (Null, rest)
    else (if kind == 2 then as_value Truth (truth_at rest)
    else (if kind == 3 then as_value Whole (whole_at rest)
    else (if kind == 4 then as_value OtherNumber (text_field_at rest)
    else (if kind == 5 then as_value Words (text_field_at rest)
    else (if kind == 6 then as_value Items (list_at value_at rest)
    else (if kind == 7 then as_value Fields (list_at (claim_at value_at) rest)
    else None)))))))

-- a kind octet and its contents, with values at most `depth` deep
abbrev pub claim_value_at : ℕ → List ℕ → Option (ClaimValue × List ℕ)
claim_value_at zero bytes = None
claim_value_at (suc depth) [] = None
claim_value_at (suc depth) (kind ∷ rest) = contents_at (claim_value_at depth) kind rest

-- the claims, or the mark of their absence, after which nothing follows
abbrev pub optional_claims_at : List ℕ → Option (Option (List Claim))
optional_claims_at [] = None
optional_claims_at (flag ∷ rest) =
    if flag == 0 then (if length rest == 0 then Some None else None)
    else (if flag == 1
    then (list_at (claim_at (claim_value_at MAX_CLAIM_DEPTH)) rest >>= λ c. if length c.1 == 0
    then Some (Some c.0) else None)
    else None)

-- a validation response, after which nothing follows
unfoldable pub validation_at : List ℕ → Option ValidationResponse
validation_at bytes = do
  i ← text_field_at bytes
  c ← optional_claims_at i.1
  Some (record { spiffe_id = i.0; claims = c })
