-- No rule of a response is broken by an error that a link refuses with.
use Rattle.std.proofs.Common.{◌≡◌, ℕ, Bool, true, false, cond, List, [], ◌∷◌}
use Rattle.std.proofs.Common.{Result, Ok, Err, refl, sym, ap, ◌∙◌}
use Rattle.spf_io.specs.Rule.{◌>>=◌, broken_as, each}
use Rattle.spf_id.specs.declared.error.SpiffeIdError.{SpiffeIdError}
use Rattle.spf_id.specs.declared.error.SpiffeIdError.TheVariants as id
use Rattle.spf_x509.specs.declared.svid_error.X509SvidError.{X509SvidError}
use Rattle.spf_x509.specs.declared.svid_error.X509SvidError.TheVariants as svid
use Rattle.spf_x509.specs.declared.error.X509BundleError.{X509BundleError}
use Rattle.spf_x509.specs.declared.error.X509BundleError.TheVariants as bundle
use Rattle.spf_x509.specs.Svid.{Svid}
use Rattle.spf_api.specs.Errors.{api_of_bundle, api_of_id, api_of_svid}
use Rattle.spf_api.specs.Parsed.{required, bundle_required, fields_required}
use Rattle.spf_api.specs.Parsed.{entries_rule, svid_of_entry, bundle_for, pair_of}
use Rattle.spf_api.specs.Parsed.{named_bundle_of, pairs_of, read_as, parsed_of}
use Rattle.spf_api.specs.Parsed.{svids_of, first_of, first_svid_of, bundle_set_of}
use Rattle.spf_api.specs.declared.error.WorkloadApiError.{WorkloadApiError}
use Rattle.spf_api.specs.declared.error.WorkloadApiError.TheVariants as api
use Rattle.spf_api.specs.declared.response.BundleEntry.{BundleEntry}
use Rattle.spf_api.specs.declared.response.BundlesResponse.{BundlesResponse}
use Rattle.spf_api.specs.declared.response.ContextResponse.{ContextResponse}
use Rattle.spf_api.specs.declared.response.SvidEntry.{SvidEntry}
use Rattle.spf_client.specs.Causes.{is_refusal}

abbrev pub Never : {A : Type 0} → Result A WorkloadApiError → Type 0
Never rule = (e : WorkloadApiError) → rule ≡ Err e → is_refusal e ≡ false

pub never_ok : {A : Type 0} (x : A) → Never (Ok x)
never_ok x e is = absurd cc

pub never_err : {A : Type 0} (f : WorkloadApiError) → is_refusal f ≡ false → Never {A = A} (Err f)
never_err f no_refusal e is = let same : f ≡ e = cc in sym (ap is_refusal same) ∙ no_refusal

pub never_then : {A B : Type 0} (m : Result A WorkloadApiError) (f : A → Result B WorkloadApiError)
    → Never m → ((x : A) → Never (f x)) → Never (m >>= f)
never_then (Ok x) f first after = after x
never_then (Err d) f first after = never_err d (first d refl)

pub never_if : {A : Type 0} (b : Bool) (x y : Result A WorkloadApiError) → Never x → Never y
    → Never (cond b x y)
never_if true x y first second = first
never_if false x y first second = second

pub never_each : {A B : Type 0} (f : A → Result B WorkloadApiError) → ((x : A) → Never (f x))
    → (xs : List A) → Never (each f xs)
never_each f one [] = never_ok []
never_each f one (x ∷ xs) = never_then (f x) _ (one x)
    (λ y. never_then (each f xs) _ (never_each f one xs) (λ ys. never_ok (y ∷ ys)))

pub never_as : {A E : Type 0} (f : E → WorkloadApiError) → ((d : E) → is_refusal (f d) ≡ false)
    → (rule : Result A E) → Never (broken_as f rule)
never_as f none (Ok x) = never_ok x
never_as f none (Err d) = never_err (f d) (none d)

pub never_read : {A B : Type 0} (f : A → B) (rule : Result A WorkloadApiError) → Never rule
    → Never (read_as f rule)
never_read f (Ok x) never = never_ok (f x)
never_read f (Err d) never = never_err d (never d refl)

of_svid : (e : X509SvidError) → is_refusal (api_of_svid e) ≡ false
of_svid svid.OutOfMemory = refl
of_svid _ = refl

of_bundle : (e : X509BundleError) → is_refusal (api_of_bundle e) ≡ false
of_bundle bundle.OutOfMemory = refl
of_bundle _ = refl

pub of_id : (e : SpiffeIdError) → is_refusal (api_of_id e) ≡ false
of_id id.OutOfMemory = refl
of_id _ = refl

pub required_never : (octets field : List ℕ) → Never (required octets field)
unfolding required
required_never octets field = never_if _ _ _ (never_err (api.MissingRequiredField field) refl)
    (never_ok tt)

bundle_never : (e : SvidEntry) → Never (bundle_required e)
unfolding bundle_required
bundle_never e = required_never _ _

fields_never : (e : SvidEntry) → Never (fields_required e)
unfolding fields_required
fields_never e = never_then _ _ (required_never _ _)
    (λ i. never_then _ _ (required_never _ _) (λ c. required_never _ _))

entries_never : (entries : List SvidEntry) → Never (entries_rule entries)
unfolding entries_rule
entries_never entries =
    never_if _ _ _ (never_err (api.MissingRequiredField _) refl)
    (never_then _ _ (never_then _ _ (never_each bundle_required bundle_never entries)
    (λ kept. never_ok tt))
    (λ b. never_then _ _ (never_each fields_required fields_never entries) (λ kept. never_ok tt)))

svid_never : (e : SvidEntry) → Never (svid_of_entry e)
unfolding svid_of_entry
svid_never e = never_as api_of_svid of_svid _

bundle_for_never : (domain der : List ℕ) → Never (bundle_for domain der)
unfolding bundle_for
bundle_for_never domain der = never_as api_of_bundle of_bundle _

both_never : (e : SvidEntry) → Never (pair_of e)
unfolding pair_of
both_never e = never_then _ _ (svid_never e)
    (λ s. never_then _ _ (bundle_for_never _ _) (λ b. never_ok (s, b)))

named_never : (e : BundleEntry) → Never (named_bundle_of e)
unfolding named_bundle_of
named_never e = never_then _ _ (never_as api_of_id of_id _) (λ domain. bundle_for_never domain _)

materials_never : (entries : List SvidEntry) → Never (pairs_of entries)
unfolding pairs_of
materials_never entries = never_then _ _ (entries_never entries)
    (λ kept. never_each pair_of both_never entries)

pub context_never : (r : ContextResponse) → Never (parsed_of r)
unfolding parsed_of
context_never r = never_then _ _ (materials_never r.svids)
    (λ m. never_then _ _ (never_each named_bundle_of named_never r.federated) (λ f. never_ok _))

pub svids_never : (r : ContextResponse) → Never (svids_of r)
unfolding svids_of
svids_never r = never_read _ _ (materials_never r.svids)

first_never : (svids : List Svid) → Never (first_of svids)
first_never [] = never_err (api.MissingRequiredField _) refl
first_never (s ∷ others) = never_ok s

pub first_svid_never : (r : ContextResponse) → Never (first_svid_of r)
unfolding first_svid_of
first_svid_never r = never_then _ _ (svids_never r) first_never

pub bundle_set_never : (r : BundlesResponse) → Never (bundle_set_of r)
unfolding bundle_set_of
bundle_set_never r = never_if _ _ _ (never_err (api.MissingRequiredField _) refl)
    (never_read _ _ (never_each named_bundle_of named_never r.bundles))
