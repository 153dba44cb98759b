-- No rule of a response of JWT identities is broken by an error that a link refuses with.
use Rattle.std.proofs.Common.{◌≡◌, ℕ, true, false, Bool, List, [], ◌∷◌, Option, Some, None}
use Rattle.std.proofs.Common.{refl, is_ok}
use Rattle.spf_io.specs.Rule.{broken_as}
use Rattle.spf_api.specs.Errors.{api_of_id, api_of_jwt_svid, api_of_jwt_bundle}
use Rattle.spf_api.specs.declared.jwt_error.JwtBundleError.{JwtBundleError}
use Rattle.spf_api.specs.declared.jwt_error.JwtBundleError.TheVariants as bundle
use Rattle.spf_api.specs.declared.jwt_error.JwtSvidError.{JwtSvidError}
use Rattle.spf_api.specs.declared.jwt_error.JwtSvidError.TheVariants as svid
use Rattle.spf_api.specs.declared.error.WorkloadApiError.TheVariants as api
use Rattle.spf_api.specs.declared.response.BundleEntry.{BundleEntry}
use Rattle.spf_api.specs.declared.response.BundlesResponse.{BundlesResponse}
use Rattle.spf_api.specs.declared.response.Claim.{Claim}
use Rattle.spf_api.specs.declared.response.ClaimValue.{ClaimValue, ClaimValue-F, out-ClaimValue}
use Rattle.spf_api.specs.declared.response.JwtSvidEntry.{JwtSvidEntry}
use Rattle.spf_api.specs.declared.response.JwtSvidsResponse.{JwtSvidsResponse}
use Rattle.spf_api.specs.declared.response.ValidationResponse.{ValidationResponse}
use Rattle.spf_id.specs.Rule.{id_rule, name_rule}
use Rattle.spf_client.specs.Causes.{is_refusal}
use Rattle.spf_client.proofs.Never.{Never, never_ok, never_err, never_then, never_if, never_each}
use Rattle.spf_client.proofs.Never.{never_as, of_id, required_never}
use Rattle.spf_jwt.specs.Authority.{key_set_of}
use Rattle.spf_jwt.specs.Bundle.{bundle_of}
use Rattle.spf_jwt.specs.Responses.{named_bundle_of, jwt_bundle_set_of, entry_required}
use Rattle.spf_jwt.specs.Responses.{entries_required, svid_of_entry, jwt_svids_of}
use Rattle.spf_jwt.specs.Selected.{first_of, first_jwt_svid_of, first_token_of, found_by}
use Rattle.spf_jwt.specs.Selected.{hinted_jwt_svid_of, validated_svid_of}
use Rattle.spf_jwt.specs.Token.{Svid}
use Rattle.spf_jwt.specs.Validation.{validation_rule, given_claims, claims_rule, state_rule}
use Rattle.spf_jwt.specs.Validation.{state_of, sub_layer, aud_layer, exp_layer, sub_state}
use Rattle.spf_jwt.specs.Validation.{aud_state, exp_state, are_words}

of_token : (e : JwtSvidError) → is_refusal (api_of_jwt_svid e) ≡ false
of_token svid.OutOfMemory = refl
of_token _ = refl

of_keys : (e : JwtBundleError) → is_refusal (api_of_jwt_bundle e) ≡ false
of_keys bundle.OutOfMemory = refl
of_keys _ = refl

entry_never : (e : JwtSvidEntry) → Never (entry_required e)
unfolding entry_required
entry_never e = never_then _ _ (required_never _ _) (λ i. required_never _ _)

entries_never : (r : JwtSvidsResponse) → Never (entries_required r)
unfolding entries_required
entries_never r = never_if _ _ _ (never_err (api.MissingRequiredField _) refl)
    (never_then _ _ (never_each entry_required entry_never r.svids) (λ kept. never_ok tt))

svid_never : (e : JwtSvidEntry) → Never (svid_of_entry e)
unfolding svid_of_entry
svid_never e = never_then _ _ (never_as api_of_jwt_svid of_token _) (λ s. never_ok _)

pub svids_never : (r : JwtSvidsResponse) → Never (jwt_svids_of r)
unfolding jwt_svids_of
svids_never r = never_then _ _ (entries_never r)
    (λ kept. never_each svid_of_entry svid_never r.svids)

one_never : {A : Type 0} (xs : List A) → Never (first_of xs)
one_never [] = never_err (api.MissingRequiredField _) refl
one_never (x ∷ xs) = never_ok x

pub first_never : (r : JwtSvidsResponse) → Never (first_jwt_svid_of r)
unfolding first_jwt_svid_of
first_never r = never_then _ _ (svids_never r) (λ svids. one_never svids)

pub token_never : (r : JwtSvidsResponse) → Never (first_token_of r)
unfolding first_token_of
token_never r = never_then _ _ (entries_never r)
    (λ kept. never_then _ _ (one_never r.svids) (λ (e : JwtSvidEntry). never_ok e.svid))

found_never : (hint : List ℕ) (found : Option Svid) → Never (found_by hint found)
found_never hint None = never_err (api.HintNotFound hint) refl
found_never hint (Some svid) = never_ok svid

pub hinted_never : (hint : List ℕ) (r : JwtSvidsResponse) → Never (hinted_jwt_svid_of hint r)
unfolding hinted_jwt_svid_of
hinted_never hint r = never_then _ _ (svids_never r) (λ svids. found_never hint _)

known_never : (field : List ℕ) (valid : Bool) → Never (state_rule field (state_of valid))
known_never field true = never_ok tt
known_never field false = never_err (api.InvalidResponseField field) refl

sub_never : (field : List ℕ) (layer : ClaimValue-F ClaimValue Claim)
    → Never (state_rule field (sub_layer layer))
sub_never field ClaimValue-F.Unset = never_err (api.MissingRequiredField field) refl
sub_never field (ClaimValue-F.Words text) = known_never field (is_ok (id_rule text))
sub_never field _ = never_err (api.InvalidResponseField field) refl

aud_never : (field : List ℕ) (layer : ClaimValue-F ClaimValue Claim)
    → Never (state_rule field (aud_layer layer))
aud_never field ClaimValue-F.Unset = never_err (api.MissingRequiredField field) refl
aud_never field (ClaimValue-F.Words text) = never_ok tt
aud_never field (ClaimValue-F.Items values) = known_never field (are_words values)
aud_never field _ = never_err (api.InvalidResponseField field) refl

exp_never : (field : List ℕ) (layer : ClaimValue-F ClaimValue Claim)
    → Never (state_rule field (exp_layer layer))
exp_never field ClaimValue-F.Unset = never_err (api.MissingRequiredField field) refl
exp_never field (ClaimValue-F.Whole number) = never_ok tt
exp_never field _ = never_err (api.InvalidResponseField field) refl

sub_is_never : (field : List ℕ) (value : Option ClaimValue)
    → Never (state_rule field (sub_state value))
sub_is_never field None = never_err (api.MissingRequiredField field) refl
sub_is_never field (Some v) = sub_never field (out-ClaimValue v)

aud_is_never : (field : List ℕ) (value : Option ClaimValue)
    → Never (state_rule field (aud_state value))
aud_is_never field None = never_err (api.MissingRequiredField field) refl
aud_is_never field (Some v) = aud_never field (out-ClaimValue v)

exp_is_never : (field : List ℕ) (value : Option ClaimValue)
    → Never (state_rule field (exp_state value))
exp_is_never field None = never_err (api.MissingRequiredField field) refl
exp_is_never field (Some v) = exp_never field (out-ClaimValue v)

claims_never : (claims : List Claim) → Never (claims_rule claims)
claims_never claims = never_then _ _ (sub_is_never _ _)
    (λ s. never_then _ _ (aud_is_never _ _) (λ a. exp_is_never _ _))

given_never : (claims : Option (List Claim)) → Never (given_claims claims)
given_never None = never_err (api.MissingRequiredField _) refl
given_never (Some claims) = claims_never claims

validation_never : (r : ValidationResponse) → Never (validation_rule r)
unfolding validation_rule
validation_never r = never_then _ _ (required_never _ _) (λ i. given_never r.claims)

pub validated_never : (token : List ℕ) (r : ValidationResponse) → Never (validated_svid_of token r)
unfolding validated_svid_of
validated_never token r = never_then _ _ (validation_never r)
    (λ v. never_as api_of_jwt_svid of_token _)

named_never : (e : BundleEntry) → Never (named_bundle_of e)
unfolding named_bundle_of
named_never e =
    never_then (broken_as api_of_id (name_rule e.name))
    (λ domain. broken_as api_of_jwt_bundle (bundle_of domain (key_set_of e.bundle)))
    (never_as api_of_id of_id (name_rule e.name))
    (λ domain. never_as api_of_jwt_bundle of_keys (bundle_of domain (key_set_of e.bundle)))

pub bundles_never : (r : BundlesResponse) → Never (jwt_bundle_set_of r)
unfolding jwt_bundle_set_of
bundles_never r = never_if _ _ _ (never_err (api.MissingRequiredField _) refl)
    (never_then _ _ (never_each named_bundle_of named_never r.bundles) (λ bundles. never_ok _))
