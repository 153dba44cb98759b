-- What responses of the Workload API mean (SPIFFE Workload API section 6).
use Rattle.std.specs.Prelude.{ℕ, List, [], length, map, codes, Result, Ok, Err, ◌==◌}
use Rattle.std.specs.Prelude.{if◌then◌else◌}
use Rattle.spf_io.specs.Rule.{◌>>=◌, broken_as, each}
use Rattle.spf_id.specs.Rule.{name_rule}
use Rattle.spf_x509.specs.Bundle.{with_entries}
use Rattle.spf_api.specs.declared.response.BundleEntry.{BundleEntry}
use Rattle.spf_api.specs.declared.response.BundlesResponse.{BundlesResponse}
use Rattle.spf_api.specs.declared.response.JwtSvidEntry.{JwtSvidEntry}
use Rattle.spf_api.specs.declared.response.JwtSvidsResponse.{JwtSvidsResponse}
use Rattle.spf_api.specs.declared.error.WorkloadApiError.{WorkloadApiError}
use Rattle.spf_api.specs.declared.error.WorkloadApiError.TheVariants as api
use Rattle.spf_api.specs.Errors.{api_of_id, api_of_jwt_bundle, api_of_jwt_svid}
use Rattle.spf_api.specs.Parsed.{hint_rule, kept_by_each, required}
use Rattle.spf_jwt.specs.Authority.{key_set_of}
use Rattle.spf_jwt.specs.Bundle.{Bundle, bundle_of}
use Rattle.spf_jwt.specs.Token.{Svid, token_rule}

-- the set with those bundles added in order: the last one of a trust domain stands
abbrev pub with_bundles : List (List ℕ × Bundle) → List Bundle → List (List ℕ × Bundle)
with_bundles set bundles = with_entries set (map (λ (b : Bundle). (b.domain, b)) bundles)

-- the name of an entry, and then its key set
unfoldable pub named_bundle_of : BundleEntry → Result Bundle WorkloadApiError
named_bundle_of e =
    broken_as api_of_id (name_rule e.name) >>= λ domain.
    broken_as api_of_jwt_bundle (bundle_of domain (key_set_of e.bundle))

-- the bundles of entries, each added in order, or the first broken rule
abbrev pub bundles_added : List BundleEntry → Result (List (List ℕ × Bundle)) WorkloadApiError
bundles_added entries = each named_bundle_of entries >>= λ bundles. Ok (with_bundles [] bundles)

-- the bundles of a response, or the first broken rule
unfoldable pub jwt_bundle_set_of : BundlesResponse
    → Result (List (List ℕ × Bundle)) WorkloadApiError
jwt_bundle_set_of r =
    if length r.bundles == 0
    then Err (api.MissingRequiredField (codes "JWTBundlesResponse.bundles"))
    else bundles_added r.bundles

-- the fields of an entry that must be there
unfoldable pub entry_required : JwtSvidEntry → Result (Unit {0}) WorkloadApiError
entry_required e =
    required e.spiffe_id (codes "JWTSVID.spiffe_id") >>= λ _.
    required e.svid (codes "JWTSVID.svid")

abbrev pub hinted : List ℕ → Svid → Svid
hinted hint svid = record svid { hint = hint_rule hint }

-- the SVID of an entry; an empty hint is no hint
unfoldable pub svid_of_entry : JwtSvidEntry → Result Svid WorkloadApiError
svid_of_entry e =
    broken_as api_of_jwt_svid (token_rule e.svid) >>= λ svid. Ok (hinted e.hint svid)

-- there is an entry, and no field that must be there is empty
unfoldable pub entries_required : JwtSvidsResponse → Result (Unit {0}) WorkloadApiError
entries_required r =
    if length r.svids == 0
    then Err (api.MissingRequiredField (codes "JWTSVIDResponse.svids"))
    else kept_by_each entry_required r.svids

-- the SVIDs of a response in order, or the first broken rule
unfoldable pub jwt_svids_of : JwtSvidsResponse → Result (List Svid) WorkloadApiError
jwt_svids_of r = entries_required r >>= λ _. each svid_of_entry r.svids
