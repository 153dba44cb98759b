-- The fields of an entry that must be there.
use Rattle.std.proofs.Common.{◌≡◌, ℕ, true, false, List, length, Ok, Err, refl}
use Rattle.std.specs.Prelude.{◌==◌, codes}
use Rattle.spf_api.specs.declared.response.JwtSvidEntry.{JwtSvidEntry}
use Rattle.spf_api.specs.declared.error.WorkloadApiError.{WorkloadApiError}
use Rattle.spf_api.specs.declared.error.WorkloadApiError.TheVariants.{MissingRequiredField}
use Rattle.spf_api.specs.Parsed.{required}
use Rattle.spf_jwt.specs.Responses.{entry_required}

pub is_empty : (text field : List ℕ) → (length text == 0) ≡ true
    → required text field ≡ Err (MissingRequiredField field)
unfolding required
is_empty text field empty = rw empty refl

pub is_there : (text field : List ℕ) → (length text == 0) ≡ false → required text field ≡ Ok tt
unfolding required
is_there text field some = rw some refl

pub first_breaks : (e : JwtSvidEntry) (error : WorkloadApiError)
    → required e.spiffe_id (codes "JWTSVID.spiffe_id") ≡ Err error
    → entry_required e ≡ Err error
unfolding entry_required
first_breaks e error is = rw is refl

pub second_decides : (e : JwtSvidEntry)
    → required e.spiffe_id (codes "JWTSVID.spiffe_id") ≡ Ok tt
    → entry_required e ≡ required e.svid (codes "JWTSVID.svid")
unfolding entry_required
second_decides e is = rw is refl
