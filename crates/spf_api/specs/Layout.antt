-- The layout of responses: their octets, and which of them may be laid out.
use Rattle.std.specs.Prelude.{ℕ, ◌^◌, ◌<◌, List, [], ◌∷◌, ◌++◌, length}
use Rattle.std.specs.List.{flat_map, All}
use Rattle.std.specs.Int.{w32, to_be_bytes}
use Rattle.std.specs.Str.{IsUtf8}
use Rattle.spf_api.specs.declared.response.SvidEntry.{SvidEntry}
use Rattle.spf_api.specs.declared.response.BundleEntry.{BundleEntry}
use Rattle.spf_api.specs.declared.response.JwtSvidEntry.{JwtSvidEntry}
use Rattle.spf_api.specs.declared.response.ContextResponse.{ContextResponse}

-- a byte field or a text field: its length in four octets, big-endian, and its octets
unfoldable pub field_text : List ℕ → List ℕ
field_text octets = to_be_bytes w32 (length octets) ++ octets

-- a list: its count in four octets, big-endian, and its members
unfoldable pub list_text : {A : Type 0} → (A → List ℕ) → List A → List ℕ
list_text one members = to_be_bytes w32 (length members) ++ flat_map one members

-- its length is a number of four octets
abbrev pub HasLength32 : {A : Type 0} → List A → Type 0
HasLength32 members = length members < 2 ^ 32

pub record IsText (octets : List ℕ) : Type 0 where
  pub short : HasLength32 octets
  pub utf8 : IsUtf8 octets

pub record IsListOf {A : Type 0} (P : A → Type 0) (members : List A) : Type 0 where
  pub short : HasLength32 members
  pub each : All P members

unfoldable pub svid_entry_text : SvidEntry → List ℕ
svid_entry_text e =
    flat_map field_text (e.spiffe_id ∷ e.x509_svid ∷ e.x509_svid_key ∷ e.bundle ∷ e.hint ∷ [])

pub record IsSvidEntry (e : SvidEntry) : Type 0 where
  pub spiffe_id : IsText e.spiffe_id
  pub x509_svid : HasLength32 e.x509_svid
  pub x509_svid_key : HasLength32 e.x509_svid_key
  pub bundle : HasLength32 e.bundle
  pub hint : IsText e.hint

unfoldable pub bundle_entry_text : BundleEntry → List ℕ
bundle_entry_text e = flat_map field_text (e.name ∷ e.bundle ∷ [])

pub record IsBundleEntry (e : BundleEntry) : Type 0 where
  pub name : IsText e.name
  pub bundle : HasLength32 e.bundle

unfoldable pub jwt_svid_entry_text : JwtSvidEntry → List ℕ
jwt_svid_entry_text e = flat_map field_text (e.spiffe_id ∷ e.svid ∷ e.hint ∷ [])

pub record IsJwtSvidEntry (e : JwtSvidEntry) : Type 0 where
  pub spiffe_id : IsText e.spiffe_id
  pub svid : IsText e.svid
  pub hint : IsText e.hint

unfoldable pub context_payload : ContextResponse → List ℕ
context_payload r =
    list_text svid_entry_text r.svids
    ++ (list_text bundle_entry_text r.federated ++ list_text field_text r.crls)

pub record IsContext (r : ContextResponse) : Type 0 where
  pub svids : IsListOf IsSvidEntry r.svids
  pub federated : IsListOf IsBundleEntry r.federated
  pub crls : IsListOf HasLength32 r.crls
