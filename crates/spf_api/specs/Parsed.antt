-- The response rule: what a response means, or the first rule that it breaks.
use Rattle.std.specs.Prelude.{ℕ, List, [], ◌∷◌, ◌++◌, length, map, codes, Option, Some, None}
use Rattle.std.specs.Prelude.{Result, Ok, Err, ◌==◌, if◌then◌else◌}
use Rattle.std.specs.Str.{bytes_eq}
use Rattle.spf_io.specs.Rule.{◌>>=◌, broken_as, each}
use Rattle.spf_id.specs.Rule.{name_rule}
use Rattle.spf_x509.specs.Svid.{Svid}
use Rattle.spf_x509.specs.Bundle.{Bundle, with_bundles, with_entry}
use Rattle.spf_x509.specs.Context.{Context}
use Rattle.spf_x509.specs.Chain.{authorities_rule, svid_of}
use Rattle.spf_x509.specs.BundleRule.{bundle_of}
use Rattle.spf_api.specs.declared.response.SvidEntry.{SvidEntry}
use Rattle.spf_api.specs.declared.response.BundleEntry.{BundleEntry}
use Rattle.spf_api.specs.declared.response.ContextResponse.{ContextResponse}
use Rattle.spf_api.specs.declared.response.BundlesResponse.{BundlesResponse}
use Rattle.spf_api.specs.declared.error.WorkloadApiError.{WorkloadApiError}
use Rattle.spf_api.specs.declared.error.WorkloadApiError.TheVariants as api
use Rattle.spf_api.specs.Errors.{api_of_bundle, api_of_id, api_of_svid}

-- a field that is not empty
unfoldable pub required : List ℕ → List ℕ → Result (Unit {0}) WorkloadApiError
required octets field = if length octets == 0 then Err (api.MissingRequiredField field) else Ok tt

unfoldable pub bundle_required : SvidEntry → Result (Unit {0}) WorkloadApiError
bundle_required e = required e.bundle (codes "X509SVID.bundle")

unfoldable pub fields_required : SvidEntry → Result (Unit {0}) WorkloadApiError
fields_required e =
    required e.spiffe_id (codes "X509SVID.spiffe_id") >>= λ i.
    required e.x509_svid (codes "X509SVID.x509_svid") >>= λ c.
    required e.x509_svid_key (codes "X509SVID.x509_svid_key")

-- a rule for each member, in order: the first broken rule
abbrev pub kept_by_each : {A E : Type 0} → (A → Result (Unit {0}) E) → List A → Result (Unit {0}) E
kept_by_each rule members = each rule members >>= λ kept. Ok tt

-- there is an SVID, no bundle is empty, and then no other field that must be there
unfoldable pub entries_rule : List SvidEntry → Result (Unit {0}) WorkloadApiError
entries_rule entries =
    if length entries == 0 then Err (api.MissingRequiredField (codes "X509SVIDResponse.svids"))
    else (kept_by_each bundle_required entries >>= λ b. kept_by_each fields_required entries)

-- an empty hint is no hint
abbrev pub hint_rule : List ℕ → Option (List ℕ)
hint_rule hint = if length hint == 0 then None else Some hint

-- the SVID of an entry, by its chain and key
unfoldable pub svid_of_entry : SvidEntry → Result Svid WorkloadApiError
svid_of_entry e = broken_as api_of_svid (svid_of e.x509_svid e.x509_svid_key (hint_rule e.hint))

-- the bundle of a trust domain
unfoldable pub bundle_for : List ℕ → List ℕ → Result Bundle WorkloadApiError
bundle_for domain der = broken_as api_of_bundle (bundle_of domain (authorities_rule der))

-- the SVID of an entry, and then its bundle, under the trust domain of the SVID
unfoldable pub pair_of : SvidEntry → Result (Svid × Bundle) WorkloadApiError
pair_of e = do
  svid ← svid_of_entry e
  bundle ← bundle_for svid.id.domain e.bundle
  Ok (svid, bundle)

-- the name of an entry, and then its bundle
unfoldable pub named_bundle_of : BundleEntry → Result Bundle WorkloadApiError
named_bundle_of e = do
  domain ← broken_as api_of_id (name_rule e.name)
  bundle_for domain e.bundle

-- the SVIDs of entries with their bundles, in order
unfoldable pub pairs_of : List SvidEntry
    → Result (List (Svid × Bundle)) WorkloadApiError
pairs_of entries = do
  _ ← entries_rule entries
  each pair_of entries

-- the first, or else the second
abbrev pub or_else : {A : Type 0} → Option A → Option A → Option A
or_else (Some x) other = Some x
or_else None other = other

-- the same result, with f applied to its value
abbrev pub read_as : {A B E : Type 0} → (A → B) → Result A E → Result B E
read_as f (Ok x) = Ok (f x)
read_as f (Err e) = Err e

abbrev pub svids_in : List (Svid × Bundle) → List Svid
svids_in materials = map (λ (m : Svid × Bundle). m.0) materials

abbrev pub bundles_in : List (Svid × Bundle) → List Bundle
bundles_in materials = map (λ (m : Svid × Bundle). m.1) materials

-- the SVIDs that were brought, and the set with their bundles added
abbrev pub brought_to : List (List ℕ × Bundle) → List (Svid × Bundle)
    → List Svid × List (List ℕ × Bundle)
brought_to set materials = (svids_in materials, with_bundles set (bundles_in materials))

-- the set with one more bundle
abbrev pub with_bundle : List (List ℕ × Bundle) → Bundle → List (List ℕ × Bundle)
with_bundle set bundle = with_entry set bundle.domain bundle

-- an SVID that was brought, and the set with its bundle added
abbrev pub with_material : List (List ℕ × Bundle) → Svid × Bundle → Svid × List (List ℕ × Bundle)
with_material set material = (material.0, with_bundle set material.1)

-- the last of the bundles of that trust domain
abbrev pub last_for : List ℕ → List Bundle → Option Bundle
last_for domain [] = None
last_for domain (b ∷ bundles) =
    or_else (last_for domain bundles) (if bytes_eq domain b.domain then Some b else None)

-- Parsed: the context of a response, or the first broken rule (SPIFFE
-- Workload API section 5). Of the bundles of one trust domain the
-- last counts, and those of SVIDs come before the federated ones.
unfoldable pub parsed_of : ContextResponse → Result Context WorkloadApiError
parsed_of r = do
  materials ← pairs_of r.svids
  federated ← each named_bundle_of r.federated
  Ok (record {
    svids = svids_in materials;
    bundles = with_bundles [] (bundles_in materials ++ federated);
    crls = r.crls;
  })

-- the SVIDs of a response, whose federated entries are not looked at
unfoldable pub svids_of : ContextResponse → Result (List Svid) WorkloadApiError
svids_of r = read_as svids_in (pairs_of r.svids)

-- the first of a list of SVIDs, which must have one
abbrev pub first_of : List Svid → Result Svid WorkloadApiError
first_of [] = Err (api.MissingRequiredField (codes "X509SVIDResponse.svids"))
first_of (svid ∷ others) = Ok svid

-- the first of the SVIDs of a response
unfoldable pub first_svid_of : ContextResponse → Result Svid WorkloadApiError
first_svid_of r = do
  svids ← svids_of r
  first_of svids

-- the bundle set of a bundles response, or the first
-- broken rule: the last bundle of a trust domain counts
unfoldable pub bundle_set_of : BundlesResponse → Result (List (List ℕ × Bundle)) WorkloadApiError
bundle_set_of r =
    if length r.bundles == 0
    then Err (api.MissingRequiredField (codes "X509BundlesResponse.bundles"))
    else read_as (with_bundles []) (each named_bundle_of r.bundles)
