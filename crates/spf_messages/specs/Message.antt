-- Messages as lists of fields, and those of the SPIFFE Workload API that hold texts and octets: an
-- X509SVID and a JWTSVID, an entry of a map of bundles, and lists of these.
use Rattle.std.specs.Prelude.{ℕ, zero, suc, List, [], ◌∷◌, length, Option, Some, None, Bool, not}
use Rattle.std.specs.Prelude.{is_some, nat_eq, nat_le, ◌==◌, ◌&&◌, ◌||◌, if◌then◌else◌}
use Rattle.std.specs.List.{list_all, list_any}
use Rattle.std.specs.Cmp.Lexicographic.{pointwise}
use Rattle.std.specs.Option.{option_map, option_map_or}
use Rattle.std.specs.Str.{is_utf8}
use Rattle.spf_io.specs.Option.{◌>>=◌}
use Rattle.spf_api.specs.declared.response.SvidEntry.{SvidEntry}
use Rattle.spf_api.specs.declared.response.BundleEntry.{BundleEntry}
use Rattle.spf_api.specs.declared.response.JwtSvidEntry.{JwtSvidEntry}
use Rattle.spf_api.specs.declared.response.ContextResponse.{ContextResponse}
use Rattle.spf_messages.specs.Wire.{WireField, delimited, field_at}

-- the fields, at most `max`, whose concatenation the bytes are
abbrev pub fields_within : ℕ → List ℕ → Option (List WireField)
fields_within max [] = Some []
fields_within zero (b ∷ bytes) = None
fields_within (suc max) (b ∷ bytes) = do
  f ← field_at (b ∷ bytes)
  fs ← fields_within max f.1
  Some (f.0 ∷ fs)

-- the fields whose concatenation the bytes are
abbrev pub fields_of : List ℕ → Option (List WireField)
fields_of bytes = fields_within (length bytes) bytes

-- the octets of a field, and none of a field of another type
abbrev pub octets_of : WireField → List ℕ
octets_of f = option_map_or (λ octets. octets) (delimited f.value) []

abbrev pub has_number : ℕ → WireField → Bool
has_number n f = f.number == n

-- the octets of each field of that number, in order
abbrev pub values_of : ℕ → List WireField → List (List ℕ)
values_of n [] = []
values_of n (f ∷ fs) = if has_number n f then octets_of f ∷ values_of n fs else values_of n fs

-- the last of these, and `first` where there are none
abbrev pub last_or : {A : Type 0} → A → List A → A
last_or first [] = first
last_or first (x ∷ others) = last_or x others

-- the octets of the last field of that number, and none where it is absent
abbrev pub last_of : ℕ → List WireField → List ℕ
last_of n fs = last_or [] (values_of n fs)

-- a field with a number up to `max` is length-delimited
abbrev pub is_delimited : ℕ → WireField → Bool
is_delimited max f = not (nat_le f.number max) || is_some (delimited f.value)

-- a field of that number is a text
abbrev pub is_text : ℕ → WireField → Bool
is_text n f = not (has_number n f) || is_utf8 (octets_of f)

-- ---- messages of texts and octets

-- X509SVID: spiffe_id 1, x509_svid 2, x509_svid_key 3, bundle 4, hint 5
abbrev pub is_svid_field : WireField → Bool
is_svid_field f = is_delimited 5 f && (is_text 1 f && is_text 5 f)

abbrev pub svid_entry_from : List WireField → SvidEntry
svid_entry_from fs = record {
  spiffe_id = last_of 1 fs;
  x509_svid = last_of 2 fs;
  x509_svid_key = last_of 3 fs;
  bundle = last_of 4 fs;
  hint = last_of 5 fs;
}

unfoldable pub svid_message : List ℕ → Option SvidEntry
svid_message bytes = do
  fs ← fields_of bytes
  if list_all is_svid_field fs then Some (svid_entry_from fs) else None

-- the fields 1 and 2 are length-delimited, and 1 is a text
abbrev pub is_entry_field : WireField → Bool
is_entry_field f = is_delimited 2 f && is_text 1 f

-- an entry of a map of bundles: key 1, value 2
abbrev pub bundle_entry_from : List WireField → BundleEntry
bundle_entry_from fs = record { name = last_of 1 fs; bundle = last_of 2 fs }

unfoldable pub bundle_message : List ℕ → Option BundleEntry
bundle_message bytes = do
  fs ← fields_of bytes
  if list_all is_entry_field fs then Some (bundle_entry_from fs) else None

-- JWTSVID: spiffe_id 1, svid 2, hint 3
abbrev pub is_jwt_svid_field : WireField → Bool
is_jwt_svid_field f = is_delimited 3 f && (is_text 1 f && (is_text 2 f && is_text 3 f))

abbrev pub jwt_svid_entry_from : List WireField → JwtSvidEntry
jwt_svid_entry_from fs = record {
  spiffe_id = last_of 1 fs;
  svid = last_of 2 fs;
  hint = last_of 3 fs;
}

unfoldable pub jwt_svid_message : List ℕ → Option JwtSvidEntry
jwt_svid_message bytes = do
  fs ← fields_of bytes
  if list_all is_jwt_svid_field fs then Some (jwt_svid_entry_from fs) else None

-- ---- lists of messages

-- what one of these makes of each, where it makes something of all
abbrev pub each : {A B : Type 0} → (A → Option B) → List A → Option (List B)
each one [] = Some []
each one (x ∷ xs) = do
  y ← one x
  ys ← each one xs
  Some (y ∷ ys)

-- the fields of a message with numbers up to `max` are length-delimited, and those of the number n
-- are messages that `one` reads: what it reads of each, in order
abbrev pub entries_in : {A : Type 0} → (List ℕ → Option A) → ℕ → ℕ → List ℕ → Option (List A)
entries_in one n max bytes = do
  fs ← fields_of bytes
  if list_all (is_delimited max) fs then each one (values_of n fs) else None

-- of entries with the same name the last, in its place
abbrev pub last_of_each : {A : Type 0} → (A → List ℕ) → List A → List A
last_of_each name [] = []
last_of_each name (e ∷ es) =
    if list_any (λ x. pointwise nat_eq (name x) (name e)) es
    then last_of_each name es
    else e ∷ last_of_each name es

abbrev pub bundle_name : BundleEntry → List ℕ
bundle_name e = e.name

-- ---- X509SVIDResponse: svids 1, crl 2, federated_bundles 3
abbrev pub members_of : List WireField → Option ContextResponse
members_of fs = do
  svids ← each svid_message (values_of 1 fs)
  federated ← each bundle_message (values_of 3 fs)
  Some (record { svids = svids; federated = federated; crls = values_of 2 fs })

-- a message before entries are dropped
unfoldable pub context_members : List ℕ → Option ContextResponse
context_members bytes = do
  fs ← fields_of bytes
  if list_all (is_delimited 3) fs then members_of fs else None

-- the response that a message says
unfoldable pub context_message : List ℕ → Option ContextResponse
context_message bytes = do
  r ← context_members bytes
  Some (record {
    svids = r.svids;
    federated = last_of_each bundle_name r.federated;
    crls = r.crls;
  })

-- ---- other responses

-- X509BundlesResponse: crl 1, bundles 2
unfoldable pub x509_bundles_message : List ℕ → Option (List BundleEntry)
x509_bundles_message bytes =
    option_map (last_of_each bundle_name) (entries_in bundle_message 2 2 bytes)

-- JWTBundlesResponse: bundles 1
unfoldable pub jwt_bundles_message : List ℕ → Option (List BundleEntry)
jwt_bundles_message bytes =
    option_map (last_of_each bundle_name) (entries_in bundle_message 1 1 bytes)

-- JWTSVIDResponse: svids 1
unfoldable pub jwt_svids_message : List ℕ → Option (List JwtSvidEntry)
jwt_svids_message bytes = entries_in jwt_svid_message 1 1 bytes
