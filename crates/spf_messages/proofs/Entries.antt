-- Messages whose fields replace one another: the last of each number stands.
use Rattle.std.proofs.Common.{◌≡◌, ◌∙◌, ℕ, List, [], ◌∷◌, Option, Some, None, Bool, true, false}
use Rattle.std.proofs.Common.{cond, refl, ap}
use Rattle.std.specs.Prelude.{◌&&◌}
use Rattle.std.specs.List.{list_all}
use Rattle.spf_io.specs.Option.{◌>>=◌}
use Rattle.spf_api.specs.declared.response.SvidEntry.{SvidEntry}
use Rattle.spf_api.specs.declared.response.BundleEntry.{BundleEntry}
use Rattle.spf_api.specs.declared.response.JwtSvidEntry.{JwtSvidEntry}
use Rattle.spf_messages.specs.Wire.{WireField}
use Rattle.spf_messages.specs.Message.{fields_of, octets_of, has_number, values_of, last_or}
use Rattle.spf_messages.specs.Message.{is_svid_field, svid_message, is_entry_field, bundle_message}
use Rattle.spf_messages.specs.Folded.{folded, message_from, replaced, svid_and, svid_with, bundle_and}
use Rattle.spf_messages.specs.Folded.{bundle_with, jwt_svid_and, jwt_svid_with}
use Rattle.spf_messages.specs.Message.{is_jwt_svid_field, jwt_svid_message}

first_of : (b : Bool) (octets first : List ℕ) (others : List (List ℕ))
    → last_or (cond b octets first) others ≡ last_or first (cond b (octets ∷ others) others)
first_of true octets first others = refl
first_of false octets first others = refl

-- what replaces the octets before is the first of the octets
pub replaced_first : (n : ℕ) (f : WireField) (fs : List WireField) (first : List ℕ)
    → last_or (replaced n f first) (values_of n fs) ≡ last_or first (values_of n (f ∷ fs))
replaced_first n f fs first = first_of (has_number n f) (octets_of f) first (values_of n fs)

-- ---- an SVID

abbrev svid_onto : SvidEntry → List WireField → SvidEntry
svid_onto e fs = record {
  spiffe_id = last_or e.spiffe_id (values_of 1 fs);
  x509_svid = last_or e.x509_svid (values_of 2 fs);
  x509_svid_key = last_or e.x509_svid_key (values_of 3 fs);
  bundle = last_or e.bundle (values_of 4 fs);
  hint = last_or e.hint (values_of 5 fs);
}

svid_more : (e : SvidEntry) (f : WireField) (fs : List WireField)
    → svid_onto (svid_and e f) fs ≡ svid_onto e (f ∷ fs)
svid_more e f fs = λ i. record {
  spiffe_id = replaced_first 1 f fs e.spiffe_id i;
  x509_svid = replaced_first 2 f fs e.x509_svid i;
  x509_svid_key = replaced_first 3 f fs e.x509_svid_key i;
  bundle = replaced_first 4 f fs e.bundle i;
  hint = replaced_first 5 f fs e.hint i;
}

svid_step : (b : Bool) (e : SvidEntry) (f : WireField) (fs : List WireField)
    → folded svid_with (svid_and e f) fs
    ≡ cond (list_all is_svid_field fs) (Some (svid_onto (svid_and e f) fs)) None
    → (cond b (Some (svid_and e f)) None >>= λ next. folded svid_with next fs)
    ≡ cond (b && list_all is_svid_field fs) (Some (svid_onto e (f ∷ fs))) None
svid_step false e f fs others = refl
svid_step true e f fs others =
    others ∙ ap (λ (x : SvidEntry). cond (list_all is_svid_field fs) (Some x) None)
    (svid_more e f fs)

svid_folded : (e : SvidEntry) (fs : List WireField)
    → folded svid_with e fs ≡ cond (list_all is_svid_field fs) (Some (svid_onto e fs)) None
unfolding svid_with
svid_folded e [] = refl
svid_folded e (f ∷ fs) = svid_step (is_svid_field f) e f fs (svid_folded (svid_and e f) fs)

pub after_fields : {M : Type 0} (fs : Option (List WireField))
    (one other : List WireField → Option M)
    → ((x : List WireField) → one x ≡ other x) → (fs >>= one) ≡ (fs >>= other)
after_fields None one other each = refl
after_fields (Some fs) one other each = each fs

pub svid_is_read : (bytes : List ℕ)
    → message_from svid_with
    (record { spiffe_id = []; x509_svid = []; x509_svid_key = []; bundle = []; hint = [] }) bytes
    ≡ svid_message bytes
unfolding svid_message
svid_is_read bytes =
    after_fields (fields_of bytes) _ _
    (svid_folded
    (record { spiffe_id = []; x509_svid = []; x509_svid_key = []; bundle = []; hint = [] }))

-- ---- a bundle

abbrev bundle_onto : BundleEntry → List WireField → BundleEntry
bundle_onto e fs = record {
  name = last_or e.name (values_of 1 fs);
  bundle = last_or e.bundle (values_of 2 fs);
}

bundle_more : (e : BundleEntry) (f : WireField) (fs : List WireField)
    → bundle_onto (bundle_and e f) fs ≡ bundle_onto e (f ∷ fs)
bundle_more e f fs = λ i. record {
  name = replaced_first 1 f fs e.name i;
  bundle = replaced_first 2 f fs e.bundle i;
}

bundle_step : (b : Bool) (e : BundleEntry) (f : WireField) (fs : List WireField)
    → folded bundle_with (bundle_and e f) fs
    ≡ cond (list_all is_entry_field fs) (Some (bundle_onto (bundle_and e f) fs)) None
    → (cond b (Some (bundle_and e f)) None >>= λ next. folded bundle_with next fs)
    ≡ cond (b && list_all is_entry_field fs) (Some (bundle_onto e (f ∷ fs))) None
bundle_step false e f fs others = refl
bundle_step true e f fs others =
    others ∙ ap (λ (x : BundleEntry). cond (list_all is_entry_field fs) (Some x) None)
    (bundle_more e f fs)

bundle_folded : (e : BundleEntry) (fs : List WireField)
    → folded bundle_with e fs ≡ cond (list_all is_entry_field fs) (Some (bundle_onto e fs)) None
unfolding bundle_with
bundle_folded e [] = refl
bundle_folded e (f ∷ fs) =
    bundle_step (is_entry_field f) e f fs (bundle_folded (bundle_and e f) fs)

pub bundle_is_read : (bytes : List ℕ)
    → message_from bundle_with (record { name = []; bundle = [] }) bytes ≡ bundle_message bytes
unfolding bundle_message
bundle_is_read bytes =
    after_fields (fields_of bytes) _ _ (bundle_folded (record { name = []; bundle = [] }))

-- ---- a JWT SVID

abbrev jwt_svid_onto : JwtSvidEntry → List WireField → JwtSvidEntry
jwt_svid_onto e fs = record {
  spiffe_id = last_or e.spiffe_id (values_of 1 fs);
  svid = last_or e.svid (values_of 2 fs);
  hint = last_or e.hint (values_of 3 fs);
}

jwt_svid_more : (e : JwtSvidEntry) (f : WireField) (fs : List WireField)
    → jwt_svid_onto (jwt_svid_and e f) fs ≡ jwt_svid_onto e (f ∷ fs)
jwt_svid_more e f fs = λ i. record {
  spiffe_id = replaced_first 1 f fs e.spiffe_id i;
  svid = replaced_first 2 f fs e.svid i;
  hint = replaced_first 3 f fs e.hint i;
}

jwt_svid_step : (b : Bool) (e : JwtSvidEntry) (f : WireField) (fs : List WireField)
    → folded jwt_svid_with (jwt_svid_and e f) fs
    ≡ cond (list_all is_jwt_svid_field fs) (Some (jwt_svid_onto (jwt_svid_and e f) fs)) None
    → (cond b (Some (jwt_svid_and e f)) None >>= λ next. folded jwt_svid_with next fs)
    ≡ cond (b && list_all is_jwt_svid_field fs) (Some (jwt_svid_onto e (f ∷ fs))) None
jwt_svid_step false e f fs others = refl
jwt_svid_step true e f fs others =
    others ∙ ap (λ (x : JwtSvidEntry). cond (list_all is_jwt_svid_field fs) (Some x) None)
    (jwt_svid_more e f fs)

jwt_svid_folded : (e : JwtSvidEntry) (fs : List WireField)
    → folded jwt_svid_with e fs
    ≡ cond (list_all is_jwt_svid_field fs) (Some (jwt_svid_onto e fs)) None
unfolding jwt_svid_with
jwt_svid_folded e [] = refl
jwt_svid_folded e (f ∷ fs) =
    jwt_svid_step (is_jwt_svid_field f) e f fs (jwt_svid_folded (jwt_svid_and e f) fs)

pub jwt_svid_is_read : (bytes : List ℕ)
    → message_from jwt_svid_with (record { spiffe_id = []; svid = []; hint = [] }) bytes
    ≡ jwt_svid_message bytes
unfolding jwt_svid_message
jwt_svid_is_read bytes =
    after_fields (fields_of bytes) _ _
    (jwt_svid_folded (record { spiffe_id = []; svid = []; hint = [] }))
