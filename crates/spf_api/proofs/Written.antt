-- What is appended for a response lays it out.
use Rattle.std.proofs.Common.{◌≡◌, ℕ, List, [], ◌++◌, Result, Ok, Err, refl, sym, subst}
use Rattle.std.specs.Result.{OnOk}
use Rattle.spf_api.specs.declared.response.ContextResponse.{ContextResponse}
use Rattle.spf_api.specs.declared.response.BundlesResponse.{BundlesResponse}
use Rattle.spf_api.specs.declared.response.JwtSvidsResponse.{JwtSvidsResponse}
use Rattle.spf_api.specs.declared.response.ValidationResponse.{ValidationResponse}
use Rattle.spf_api.specs.declared.response.Response.{Response}
use Rattle.spf_api.specs.declared.response.Response.TheVariants as response
use Rattle.spf_api.specs.Layout.{list_text, bundle_entry_text, jwt_svid_entry_text, context_payload}
use Rattle.spf_api.specs.Layout.{IsContext}
use Rattle.spf_api.specs.Claims.{validation_payload, IsValidation}
use Rattle.spf_api.specs.Payload.{bundles_payload, IsBundles, jwt_svids_payload, IsJwtSvids}
use Rattle.spf_api.specs.Payload.{kind_of, Payload, Appends}

-- what was written, where memory was enough
abbrev pub Puts : {E : Type 0} → Result (Unit {0}) E → Response → List ℕ → List ℕ → Type 0
Puts answer r old new = OnOk answer (Appends r old new)

pub context_put : {E : Type 0} (answer : Result (Unit {0}) E) (r : ContextResponse)
    (old new : List ℕ)
    → OnOk answer (IsContext r) → OnOk answer (new ≡ old ++ context_payload r)
    → Puts answer (response.Context r) old new
unfolding Payload
context_put (Ok x) r old new fits octets = record {
  text = context_payload r;
  lays = record { fits = fits; octets = refl };
  appended = octets;
}
context_put (Err e) r old new fits octets = tt

pub bundles_put : {E : Type 0} (answer : Result (Unit {0}) E) (r : BundlesResponse)
    (old new : List ℕ)
    → OnOk answer (IsBundles r) → OnOk answer (new ≡ old ++ list_text bundle_entry_text r.bundles)
    → Puts answer (response.Bundles r) old new
unfolding Payload bundles_payload
bundles_put (Ok x) r old new fits octets = record {
  text = bundles_payload r;
  lays = record { fits = fits; octets = refl };
  appended = octets;
}
bundles_put (Err e) r old new fits octets = tt

pub jwt_svids_put : {E : Type 0} (answer : Result (Unit {0}) E) (r : JwtSvidsResponse)
    (old new : List ℕ)
    → OnOk answer (IsJwtSvids r) → OnOk answer (new ≡ old ++ list_text jwt_svid_entry_text r.svids)
    → Puts answer (response.JwtSvids r) old new
unfolding Payload jwt_svids_payload
jwt_svids_put (Ok x) r old new fits octets = record {
  text = jwt_svids_payload r;
  lays = record { fits = fits; octets = refl };
  appended = octets;
}
jwt_svids_put (Err e) r old new fits octets = tt

pub jwt_bundles_put : {E : Type 0} (answer : Result (Unit {0}) E) (r : BundlesResponse)
    (old new : List ℕ)
    → OnOk answer (IsBundles r) → OnOk answer (new ≡ old ++ list_text bundle_entry_text r.bundles)
    → Puts answer (response.JwtBundles r) old new
unfolding Payload bundles_payload
jwt_bundles_put (Ok x) r old new fits octets = record {
  text = bundles_payload r;
  lays = record { fits = fits; octets = refl };
  appended = octets;
}
jwt_bundles_put (Err e) r old new fits octets = tt

pub validation_put : {E : Type 0} (answer : Result (Unit {0}) E) (r : ValidationResponse)
    (old new : List ℕ)
    → OnOk answer (IsValidation r) → OnOk answer (new ≡ old ++ validation_payload r)
    → Puts answer (response.Validation r) old new
unfolding Payload
validation_put (Ok x) r old new fits octets = record {
  text = validation_payload r;
  lays = record { fits = fits; octets = refl };
  appended = octets;
}
validation_put (Err e) r old new fits octets = tt

-- after nothing there is the payload alone
pub alone : (r : Response) (new : List ℕ) → Appends r [] new → Payload (kind_of r) new r
alone r new appended =
    subst (λ (l : List ℕ). Payload (kind_of r) l r) (sym appended.appended) appended.lays
