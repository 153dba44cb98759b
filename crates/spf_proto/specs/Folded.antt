-- Messages that grow field by field.
use Rattle.std.specs.Prelude.{ℕ, List, [], ◌∷◌, ◌++◌, Option, Some, None, ◌==◌, if◌then◌else◌}
use Rattle.std.specs.Option.{option_map}
use Rattle.spf_io.specs.Option.{◌>>=◌}
use Rattle.spf_api.specs.declared.response.SvidEntry.{SvidEntry}
use Rattle.spf_api.specs.declared.response.BundleEntry.{BundleEntry}
use Rattle.spf_api.specs.declared.response.ContextResponse.{ContextResponse}
use Rattle.spf_proto.specs.Wire.{WireField}
use Rattle.spf_proto.specs.Message.{fields_of, octets_of, has_number, is_delimited, is_svid_field}
use Rattle.spf_proto.specs.Message.{svid_message, is_bundle_field, bundle_message}

-- what the fields make of a message, one after another; none where one is not allowed
abbrev pub folded : {M : Type 0} → (M → WireField → Option M) → M → List WireField → Option M
folded step message [] = Some message
folded step message (f ∷ fs) = step message f >>= λ next. folded step next fs

-- a message, and the fields whose concatenation the bytes are
abbrev pub message_from : {M : Type 0} → (M → WireField → Option M) → M → List ℕ → Option M
message_from step message bytes = fields_of bytes >>= folded step message

-- the octets of a field of that number in place of what stood
abbrev pub replaced : ℕ → WireField → List ℕ → List ℕ
replaced n f octets = if has_number n f then octets_of f else octets

abbrev pub svid_and : SvidEntry → WireField → SvidEntry
svid_and e f = record {
  spiffe_id = replaced 1 f e.spiffe_id;
  x509_svid = replaced 2 f e.x509_svid;
  x509_svid_key = replaced 3 f e.x509_svid_key;
  bundle = replaced 4 f e.bundle;
  hint = replaced 5 f e.hint;
}

-- an SVID with one more field, where that is allowed
unfoldable pub svid_with : SvidEntry → WireField → Option SvidEntry
svid_with e f = if is_svid_field f then Some (svid_and e f) else None

abbrev pub bundle_and : BundleEntry → WireField → BundleEntry
bundle_and e f = record { name = replaced 1 f e.name; bundle = replaced 2 f e.bundle }

-- a bundle with one more field, where that is allowed
unfoldable pub bundle_with : BundleEntry → WireField → Option BundleEntry
bundle_with e f = if is_bundle_field f then Some (bundle_and e f) else None

-- a response with one more member, where the field is of a number that is named
abbrev pub context_and : ContextResponse → WireField → Option ContextResponse
context_and r f =
    if f.number == 1
    then option_map
    (λ svid. record { svids = r.svids ++ svid ∷ []; federated = r.federated; crls = r.crls })
    (svid_message (octets_of f))
    else (if f.number == 2
    then Some (record {
      svids = r.svids;
      federated = r.federated;
      crls = r.crls ++ octets_of f ∷ [];
    })
    else (if f.number == 3
    then option_map
    (λ bundle. record { svids = r.svids; federated = r.federated ++ bundle ∷ []; crls = r.crls })
    (bundle_message (octets_of f))
    else Some r))

-- a response with one more field, where that is allowed
unfoldable pub context_with : ContextResponse → WireField → Option ContextResponse
context_with r f = if is_delimited 3 f then context_and r f else None

abbrev pub no_members : ContextResponse
no_members = record { svids = []; federated = []; crls = [] }
