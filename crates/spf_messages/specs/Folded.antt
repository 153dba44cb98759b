-- Messages that grow field by field.
use Rattle.std.specs.Prelude.{ℕ, List, [], ◌∷◌, ◌++◌, Option, Some, None, ◌==◌, if◌then◌else◌}
use Rattle.std.specs.Option.{option_map}
use Rattle.spf_io.specs.Option.{◌>>=◌}
use Rattle.spf_api.specs.declared.response.SvidEntry.{SvidEntry}
use Rattle.spf_api.specs.declared.response.BundleEntry.{BundleEntry}
use Rattle.spf_api.specs.declared.response.JwtSvidEntry.{JwtSvidEntry}
use Rattle.spf_api.specs.declared.response.ContextResponse.{ContextResponse}
use Rattle.spf_api.specs.declared.response.Claim.{Claim}
use Rattle.spf_api.specs.declared.response.ClaimValue.{ClaimValue}
use Rattle.spf_messages.specs.Wire.{WireField}
use Rattle.spf_messages.specs.Message.{fields_of, octets_of, has_number, is_delimited}
use Rattle.spf_messages.specs.Message.{is_svid_field, svid_message, is_entry_field, bundle_message}
use Rattle.spf_messages.specs.Message.{is_jwt_svid_field}
use Rattle.spf_messages.specs.Claims.{claims_of, last_said}

-- what the fields make of a message, one after another; none where one is not allowed
abbrev pub folded : {M : Type 0} → (M → WireField → Option M) → M → List WireField → Option M
folded step message [] = Some message
folded step message (f ∷ fs) = step message f >>= λ next. folded step next fs

-- a message, and the fields whose concatenation the bytes are
abbrev pub message_from : {M : Type 0} → (M → WireField → Option M) → M → List ℕ → Option M
message_from step message bytes = fields_of bytes >>= folded step message

-- the octets of a field of that number in place of what stood
abbrev pub replaced : ℕ → WireField → List ℕ → List ℕ
replaced n f octets = if has_number n f then octets_of f else octets

abbrev pub svid_and : SvidEntry → WireField → SvidEntry
svid_and e f = record {
  spiffe_id = replaced 1 f e.spiffe_id;
  x509_svid = replaced 2 f e.x509_svid;
  x509_svid_key = replaced 3 f e.x509_svid_key;
  bundle = replaced 4 f e.bundle;
  hint = replaced 5 f e.hint;
}

-- an SVID with one more field, where that is allowed
unfoldable pub svid_with : SvidEntry → WireField → Option SvidEntry
svid_with e f = if is_svid_field f then Some (svid_and e f) else None

abbrev pub bundle_and : BundleEntry → WireField → BundleEntry
bundle_and e f = record { name = replaced 1 f e.name; bundle = replaced 2 f e.bundle }

-- a bundle with one more field, where that is allowed
unfoldable pub bundle_with : BundleEntry → WireField → Option BundleEntry
bundle_with e f = if is_entry_field f then Some (bundle_and e f) else None

abbrev pub jwt_svid_and : JwtSvidEntry → WireField → JwtSvidEntry
jwt_svid_and e f = record {
  spiffe_id = replaced 1 f e.spiffe_id;
  svid = replaced 2 f e.svid;
  hint = replaced 3 f e.hint;
}

-- a JWT SVID with one more field, where that is allowed
unfoldable pub jwt_svid_with : JwtSvidEntry → WireField → Option JwtSvidEntry
jwt_svid_with e f = if is_jwt_svid_field f then Some (jwt_svid_and e f) else None

-- a response with one more member, where the field is of a number that is named
abbrev pub context_and : ContextResponse → WireField → Option ContextResponse
context_and r f =
    if f.number == 1
    then option_map
    (λ svid. record { svids = r.svids ++ svid ∷ []; federated = r.federated; crls = r.crls })
    (svid_message (octets_of f))
    else (if f.number == 2
    then Some (record {
      svids = r.svids;
      federated = r.federated;
      crls = r.crls ++ octets_of f ∷ [];
    })
    else (if f.number == 3
    then option_map
    (λ bundle. record { svids = r.svids; federated = r.federated ++ bundle ∷ []; crls = r.crls })
    (bundle_message (octets_of f))
    else Some r))

-- a response with one more field, where that is allowed
unfoldable pub context_with : ContextResponse → WireField → Option ContextResponse
context_with r f = if is_delimited 3 f then context_and r f else None

abbrev pub no_members : ContextResponse
no_members = record { svids = []; federated = []; crls = [] }

-- a list with one more entry, where the field is of the number n
abbrev pub entries_and : {A : Type 0} → (List ℕ → Option A) → ℕ → List A → WireField
    → Option (List A)
entries_and one n es f =
    if has_number n f then option_map (λ e. es ++ e ∷ []) (one (octets_of f)) else Some es

-- a list with one more field, where that is allowed
unfoldable pub entries_with : {A : Type 0} → (List ℕ → Option A) → ℕ → ℕ → List A → WireField
    → Option (List A)
entries_with one n max es f = if is_delimited max f then entries_and one n es f else None

-- what a field of the number 2 makes of what stood
abbrev pub put_second : {X : Type 0} → (X → List ℕ → Option X) → X → WireField → Option X
put_second one x f = if has_number 2 f then one x (octets_of f) else Some x

-- a text of the number 1 and what the fields of the number 2 made, with one more field, where that
-- is allowed
unfoldable pub keyed_with : {X : Type 0} → (X → List ℕ → Option X) → List ℕ × X → WireField
    → Option (List ℕ × X)
keyed_with one k f =
    if is_entry_field f
    then option_map (λ x. (replaced 1 f k.0, x)) (put_second one k.1 f)
    else None

-- a value in place of the one that stood
abbrev pub value_put : (List ℕ → Option ClaimValue) → ClaimValue → List ℕ → Option ClaimValue
value_put value before octets = value octets

-- what a field says in place of what stood
abbrev pub said_and : (WireField → Option (Option ClaimValue)) → ClaimValue → WireField
    → Option ClaimValue
said_and said v f = option_map (λ s. last_said v (s ∷ [])) (said f)

-- claims after those that stood, if any
abbrev pub claims_after : Option (List Claim) → List Claim → List Claim
claims_after None claims = claims
claims_after (Some before) claims = before ++ claims

-- the claims of a Struct after those that stood
abbrev pub claims_put : Option (List Claim) → List ℕ → Option (Option (List Claim))
claims_put before octets = option_map (λ claims. Some (claims_after before claims)) (claims_of octets)
