-- What is laid out is read, and what is read was laid out: whole responses.
use Rattle.std.proofs.Common.{◌≡◌, ℕ, cond, List, [], ◌++◌, length, Option, Some, None, Result, Ok}
use Rattle.std.proofs.Common.{Err, eqb, refl, sym, ap, ◌∙◌, subst, unwrap_or, ⊎_elim, IfSome, ◌∷◌}
use Rattle.std.proofs.Common.{suc}
use Rattle.std.proofs.lemmas.Bool.{eqb-true}
use Rattle.std.proofs.lemmas.List.{append-nil, nil_from_length}
use Rattle.std.specs.Option.{option_map}
use Rattle.std.specs.Result.{IfOk}
use Rattle.spf_api.specs.declared.response.SvidEntry.{SvidEntry}
use Rattle.spf_api.specs.declared.response.BundleEntry.{BundleEntry}
use Rattle.spf_api.specs.declared.response.JwtSvidEntry.{JwtSvidEntry}
use Rattle.spf_api.specs.declared.response.ContextResponse.{ContextResponse}
use Rattle.spf_api.specs.declared.response.BundlesResponse.{BundlesResponse}
use Rattle.spf_api.specs.declared.response.JwtSvidsResponse.{JwtSvidsResponse}
use Rattle.spf_api.specs.declared.response.ContextView.{ContextView}
use Rattle.spf_api.specs.declared.response.Response.{Response}
use Rattle.spf_api.specs.declared.response.Response.TheVariants as response
use Rattle.spf_api.specs.declared.response.ResponseKind.{ResponseKind}
use Rattle.spf_api.specs.declared.response.ResponseKind.TheVariants as kind
use Rattle.spf_api.specs.Layout.{field_text, list_text, HasLength32, IsListOf, svid_entry_text}
use Rattle.spf_api.specs.Layout.{IsSvidEntry, bundle_entry_text, IsBundleEntry, jwt_svid_entry_text}
use Rattle.spf_api.specs.Layout.{context_payload, IsContext}
use Rattle.spf_api.specs.Payload.{LaysOut, bundles_payload, IsBundles, jwt_svids_payload}
use Rattle.spf_api.specs.Payload.{IsJwtSvids, Payload, Finds, IsRead}
use Rattle.spf_api.specs.Reading.{text_field_at, byte_field_at, list_at, svid_entry_at}
use Rattle.spf_api.specs.Reading.{bundle_entry_at, jwt_svid_entry_at, context_at, bundles_at}
use Rattle.spf_api.specs.Reading.{jwt_svids_at}
use Rattle.spf_api.specs.Claims.{claim_text, claim_at, claim_value_at, IsClaim, IsClaimValue}
use Rattle.spf_api.specs.Claims.{optional_claims_text, optional_claims_at, validation_payload}
use Rattle.spf_api.specs.Claims.{IsValidation, validation_at}
use Rattle.spf_api.specs.declared.payload_validation.TheConstants.{MAX_CLAIM_DEPTH}
use Rattle.spf_api.specs.declared.response.Claim.{Claim}
use Rattle.spf_api.specs.declared.response.ValidationResponse.{ValidationResponse}
use Rattle.spf_api.specs.Views.{context_of}
use Rattle.spf_api.proofs.Spelled.{IsBytes, Reads, chosen, byte_fields, text_fields}
use Rattle.spf_api.proofs.ClaimLemmas.{claims, claim_values, went}
use Rattle.spf_api.proofs.Lists.{Front, front, bind_then, lists, svid_entries, bundle_entries}
use Rattle.spf_api.proofs.Lists.{jwt_svid_entries}

-- what was found is the same
some_is : {A : Type 0} (x y : A) → Some x ≡ Some y → x ≡ y
some_is {A} x y e = ap (λ (o : Option A). unwrap_or o x) e

-- nothing follows
ended : {A : Type 0} (rest : List ℕ) (x y : A) → cond (eqb (length rest) 0) (Some x) None ≡ Some y
    → (rest ≡ []) × (x ≡ y)
ended rest x y e = ⊎_elim
    (λ p. (nil_from_length rest (eqb-true _ _ p.0), some_is x y p.1))
    (λ p. cc (p.1))
    (chosen (eqb (length rest) 0) (Some x) None (Some y) e)

-- a list after which nothing follows
list_again : {A : Type 0} {one : List ℕ → Option (A × List ℕ)} {text : A → List ℕ} {P : A → Type 0}
    (reads : Reads one text P)
    → (xs : List A) → IsListOf P xs → list_at one (list_text text xs) ≡ Some (xs, [])
list_again {A} {one} {text} {P} reads xs fits =
    ap (list_at one) (sym (append-nil (list_text text xs))) ∙ (lists reads).again xs [] fits

context_again : (r : ContextResponse) → IsContext r → context_at (context_payload r) ≡ Some r
unfolding context_at context_payload
context_again r fits =
    let s = list_text svid_entry_text r.svids in
    let f = list_text bundle_entry_text r.federated in
    let c = list_text field_text r.crls in
    rw (
      (lists svid_entries).again r.svids (f ++ c) fits.svids,
      (lists bundle_entries).again r.federated c fits.federated,
      list_again byte_fields r.crls fits.crls,
    ) refl

context_laid : (s : List SvidEntry) (f : List BundleEntry) (c : List (List ℕ))
    (first second bytes : List ℕ)
    → IsListOf IsSvidEntry s × Front bytes (list_text svid_entry_text s) first
    → IsListOf IsBundleEntry f × Front first (list_text bundle_entry_text f) second
    → IsListOf HasLength32 c × (second ≡ list_text field_text c)
    → LaysOut IsContext context_payload bytes (record { svids = s; federated = f; crls = c })
unfolding context_payload
context_laid s f c first second bytes fs ff fc = record {
  fits = record { svids = fs.0; federated = ff.0; crls = fc.0 };
  octets = fs.1.0
      ∙ ap (λ (l : List ℕ). list_text svid_entry_text s ++ l)
      (ff.1.0 ∙ ap (λ (l : List ℕ). list_text bundle_entry_text f ++ l) fc.1);
}

context_takes : (bytes : List ℕ) (r : ContextResponse) → IsBytes bytes → context_at bytes ≡ Some r
    → LaysOut IsContext context_payload bytes r
unfolding context_at
context_takes bytes r octets found =
    bind_then (list_at svid_entry_at bytes) _ r found (λ s s_is then_s.
    bind_then (list_at bundle_entry_at s.1) _ r then_s (λ f f_is then_f.
    bind_then (list_at byte_field_at f.1) _ r then_f (λ c c_is made.
    let done = ended c.1 (record { svids = s.0; federated = f.0; crls = c.0 }) r made in
    let fs = front (lists svid_entries) bytes s.0 s.1 octets s_is in
    let ff = front (lists bundle_entries) s.1 f.0 f.1 fs.1.1 f_is in
    let fc = front (lists byte_fields) f.1 c.0 c.1 ff.1.1 c_is in
    subst (LaysOut IsContext context_payload bytes) done.1
    (context_laid s.0 f.0 c.0 s.1 f.1 bytes fs ff (
      fc.0,
      fc.1.0 ∙ ap (λ (l : List ℕ). list_text field_text c.0 ++ l) done.0
          ∙ append-nil (list_text field_text c.0),
    )))))

bundles_again : (r : BundlesResponse) → IsBundles r
    → bundles_at (bundles_payload r) ≡ Some r.bundles
unfolding bundles_at bundles_payload
bundles_again r fits = rw (list_again bundle_entries r.bundles fits) refl

bundles_takes : (bytes : List ℕ) (bs : List BundleEntry) → IsBytes bytes
    → bundles_at bytes ≡ Some bs → LaysOut IsBundles bundles_payload bytes (record { bundles = bs })
unfolding bundles_at bundles_payload
bundles_takes bytes bs octets found =
    bind_then (list_at bundle_entry_at bytes) _ bs found (λ b b_is made.
    let done = ended b.1 b.0 bs made in
    let fb = front (lists bundle_entries) bytes b.0 b.1 octets b_is in
    let text = list_text bundle_entry_text b.0 in
    subst (λ (l : List BundleEntry).
    LaysOut IsBundles bundles_payload bytes (record { bundles = l })) done.1
    (record {
      fits = fb.0;
      octets = fb.1.0 ∙ ap (λ (l : List ℕ). text ++ l) done.0 ∙ append-nil text;
    }))

jwt_svids_again : (r : JwtSvidsResponse) → IsJwtSvids r
    → jwt_svids_at (jwt_svids_payload r) ≡ Some r.svids
unfolding jwt_svids_at jwt_svids_payload
jwt_svids_again r fits = rw (list_again jwt_svid_entries r.svids fits) refl

jwt_svids_takes : (bytes : List ℕ) (ts : List JwtSvidEntry) → IsBytes bytes
    → jwt_svids_at bytes ≡ Some ts
    → LaysOut IsJwtSvids jwt_svids_payload bytes (record { svids = ts })
unfolding jwt_svids_at jwt_svids_payload
jwt_svids_takes bytes ts octets found =
    bind_then (list_at jwt_svid_entry_at bytes) _ ts found (λ t t_is made.
    let done = ended t.1 t.0 ts made in
    let ft = front (lists jwt_svid_entries) bytes t.0 t.1 octets t_is in
    let text = list_text jwt_svid_entry_text t.0 in
    subst (λ (l : List JwtSvidEntry).
    LaysOut IsJwtSvids jwt_svids_payload bytes (record { svids = l })) done.1
    (record {
      fits = ft.0;
      octets = ft.1.0 ∙ ap (λ (l : List ℕ). text ++ l) done.0 ∙ append-nil text;
    }))

-- a list of claims of a validation
abbrev claim_lists : Reads (claim_at (claim_value_at MAX_CLAIM_DEPTH)) claim_text
    (IsClaim (IsClaimValue MAX_CLAIM_DEPTH))
claim_lists = claims (claim_values MAX_CLAIM_DEPTH)

abbrev MayBe : Option (List Claim) → Type 0
MayBe o = IfSome o (IsListOf (IsClaim (IsClaimValue MAX_CLAIM_DEPTH)))

optional_again : (o : Option (List Claim)) → MayBe o
    → optional_claims_at (optional_claims_text o) ≡ Some o
optional_again None fits = refl
optional_again (Some cs) fits = rw (list_again claim_lists cs fits) refl

optional_takes : (bytes : List ℕ) (o : Option (List Claim)) → IsBytes bytes
    → optional_claims_at bytes ≡ Some o → MayBe o × (bytes ≡ optional_claims_text o)
optional_takes [] o octets e = absurd cc
optional_takes (flag ∷ rest) o octets e =
    went (eqb flag 0) _ _ _ e
    (λ is found.
    let done = ended rest None o found in
    subst (λ (p : Option (List Claim)). MayBe p × (flag ∷ rest ≡ optional_claims_text p)) done.1
    (tt, λ i. eqb-true flag 0 is i ∷ done.0 i))
    (λ _ other. went (eqb flag 1) _ _ _ other
    (λ is found.
    bind_then (list_at (claim_at (claim_value_at MAX_CLAIM_DEPTH)) rest) _ o found (λ c c_is made.
    let done = ended c.1 (Some c.0) o made in
    let fc = front (lists claim_lists) rest c.0 c.1 (λ i. octets (suc i)) c_is in
    let text = list_text claim_text c.0 in
    subst (λ (p : Option (List Claim)). MayBe p × (flag ∷ rest ≡ optional_claims_text p)) done.1 (
      fc.0,
      λ i.
          eqb-true flag 1 is i
          ∷ (fc.1.0 ∙ ap (λ (l : List ℕ). text ++ l) done.0 ∙ append-nil text) i,
    )))
    (λ _ none. absurd cc))

validation_again : (r : ValidationResponse) → IsValidation r
    → validation_at (validation_payload r) ≡ Some r
unfolding validation_at validation_payload
validation_again r fits =
    rw (
      text_fields.again r.spiffe_id (optional_claims_text r.claims) fits.spiffe_id,
      optional_again r.claims fits.claims,
    ) refl

validation_takes : (bytes : List ℕ) (r : ValidationResponse) → IsBytes bytes
    → validation_at bytes ≡ Some r → LaysOut IsValidation validation_payload bytes r
unfolding validation_at validation_payload
validation_takes bytes r octets found =
    bind_then (text_field_at bytes) _ r found (λ i i_is then_i.
    bind_then (optional_claims_at i.1) _ r then_i (λ c c_is made.
    let fi = front text_fields bytes i.0 i.1 octets i_is in
    let fc = optional_takes i.1 c fi.1.1 c_is in
    subst (LaysOut IsValidation validation_payload bytes) (some_is _ r made)
    (record {
      fits = record { spiffe_id = fi.0; claims = fc.0 };
      octets = fi.1.0 ∙ ap (λ (l : List ℕ). field_text i.0 ++ l) fc.1;
    })))

-- what is laid out is read
pub laid_is_read : (k : ResponseKind) (bytes : List ℕ) (r : Response) → Payload k bytes r
    → IsRead k bytes (Some r)
unfolding Payload IsRead
laid_is_read kind.Context bytes (response.Context r) laid =
    sym (ap (λ b. option_map response.Context (context_at b)) laid.octets
    ∙ ap (option_map response.Context) (context_again r laid.fits))
laid_is_read kind.Bundles bytes (response.Bundles r) laid =
    sym (ap (λ b. option_map (λ l. response.Bundles (record { bundles = l })) (bundles_at b))
    laid.octets
    ∙ ap (option_map (λ l. response.Bundles (record { bundles = l }))) (bundles_again r laid.fits))
laid_is_read kind.JwtSvids bytes (response.JwtSvids r) laid =
    sym (ap (λ b. option_map (λ l. response.JwtSvids (record { svids = l })) (jwt_svids_at b))
    laid.octets
    ∙ ap (option_map (λ l. response.JwtSvids (record { svids = l }))) (jwt_svids_again r laid.fits))
laid_is_read kind.JwtBundles bytes (response.JwtBundles r) laid =
    sym (ap (λ b. option_map (λ l. response.JwtBundles (record { bundles = l })) (bundles_at b))
    laid.octets
    ∙ ap (option_map (λ l. response.JwtBundles (record { bundles = l })))
    (bundles_again r laid.fits))
laid_is_read kind.Validation bytes (response.Validation r) laid =
    sym (ap (λ b. option_map response.Validation (validation_at b)) laid.octets
    ∙ ap (option_map response.Validation) (validation_again r laid.fits))
laid_is_read _ bytes _ laid = absurd laid

-- where nothing is read, nothing is laid out
pub none_laid : (k : ResponseKind) (bytes : List ℕ) → IsRead k bytes None → (r : Response)
    → ¬ (Payload k bytes r)
unfolding IsRead
none_laid kind.Context bytes read r laid = let some = laid_is_read kind.Context bytes r laid in cc
none_laid kind.Bundles bytes read r laid = let some = laid_is_read kind.Bundles bytes r laid in cc
none_laid kind.JwtSvids bytes read r laid = let some = laid_is_read kind.JwtSvids bytes r laid in cc
none_laid kind.JwtBundles bytes read r laid = let some =
    laid_is_read kind.JwtBundles bytes r laid in cc
none_laid kind.Validation bytes read r laid = let some =
    laid_is_read kind.Validation bytes r laid in cc

context_finds : (bytes : List ℕ) (found : Option ContextResponse) → IsBytes bytes
    → context_at bytes ≡ found → Finds kind.Context bytes (option_map response.Context found)
unfolding Payload IsRead
context_finds bytes (Some r) octets e = context_takes bytes r octets e
context_finds bytes None octets e =
    none_laid kind.Context bytes (sym (ap (option_map response.Context) e))

bundles_find : (bytes : List ℕ) (found : Option (List BundleEntry)) → IsBytes bytes
    → bundles_at bytes ≡ found
    → Finds kind.Bundles bytes (option_map (λ l. response.Bundles (record { bundles = l })) found)
unfolding Payload IsRead
bundles_find bytes (Some bs) octets e = bundles_takes bytes bs octets e
bundles_find bytes None octets e =
    none_laid kind.Bundles bytes
    (sym (ap (option_map (λ l. response.Bundles (record { bundles = l }))) e))

jwt_svids_find : (bytes : List ℕ) (found : Option (List JwtSvidEntry)) → IsBytes bytes
    → jwt_svids_at bytes ≡ found
    → Finds kind.JwtSvids bytes (option_map (λ l. response.JwtSvids (record { svids = l })) found)
unfolding Payload IsRead
jwt_svids_find bytes (Some ts) octets e = jwt_svids_takes bytes ts octets e
jwt_svids_find bytes None octets e =
    none_laid kind.JwtSvids bytes
    (sym (ap (option_map (λ l. response.JwtSvids (record { svids = l }))) e))

jwt_bundles_find : (bytes : List ℕ) (found : Option (List BundleEntry)) → IsBytes bytes
    → bundles_at bytes ≡ found
    → Finds kind.JwtBundles bytes
    (option_map (λ l. response.JwtBundles (record { bundles = l })) found)
unfolding Payload IsRead
jwt_bundles_find bytes (Some bs) octets e = bundles_takes bytes bs octets e
jwt_bundles_find bytes None octets e =
    none_laid kind.JwtBundles bytes
    (sym (ap (option_map (λ l. response.JwtBundles (record { bundles = l }))) e))

validation_finds : (bytes : List ℕ) (found : Option ValidationResponse) → IsBytes bytes
    → validation_at bytes ≡ found
    → Finds kind.Validation bytes (option_map response.Validation found)
unfolding Payload IsRead
validation_finds bytes (Some r) octets e = validation_takes bytes r octets e
validation_finds bytes None octets e =
    none_laid kind.Validation bytes (sym (ap (option_map response.Validation) e))

-- what is read was laid out; where nothing is read, nothing is laid out
pub finds : (k : ResponseKind) (bytes : List ℕ) (o : Option Response) → IsBytes bytes
    → IsRead k bytes o → Finds k bytes o
unfolding IsRead
finds kind.Context bytes o octets read =
    subst (Finds kind.Context bytes) (sym read) (context_finds bytes (context_at bytes) octets refl)
finds kind.Bundles bytes o octets read =
    subst (Finds kind.Bundles bytes) (sym read) (bundles_find bytes (bundles_at bytes) octets refl)
finds kind.JwtSvids bytes o octets read =
    subst (Finds kind.JwtSvids bytes) (sym read)
    (jwt_svids_find bytes (jwt_svids_at bytes) octets refl)
finds kind.JwtBundles bytes o octets read =
    subst (Finds kind.JwtBundles bytes) (sym read)
    (jwt_bundles_find bytes (bundles_at bytes) octets refl)
finds kind.Validation bytes o octets read =
    subst (Finds kind.Validation bytes) (sym read)
    (validation_finds bytes (validation_at bytes) octets refl)

-- there is one reading of the octets
pub one_reading : (k : ResponseKind) (bytes : List ℕ) (r s : Response) → Payload k bytes r
    → Payload k bytes s → r ≡ s
unfolding Payload IsRead
one_reading kind.Context bytes r s first second =
    some_is r s
    (laid_is_read kind.Context bytes r first ∙ sym (laid_is_read kind.Context bytes s second))
one_reading kind.Bundles bytes r s first second =
    some_is r s
    (laid_is_read kind.Bundles bytes r first ∙ sym (laid_is_read kind.Bundles bytes s second))
one_reading kind.JwtSvids bytes r s first second =
    some_is r s
    (laid_is_read kind.JwtSvids bytes r first ∙ sym (laid_is_read kind.JwtSvids bytes s second))
one_reading kind.JwtBundles bytes r s first second =
    some_is r s
    (laid_is_read kind.JwtBundles bytes r first ∙ sym (laid_is_read kind.JwtBundles bytes s second))
one_reading kind.Validation bytes r s first second =
    some_is r s
    (laid_is_read kind.Validation bytes r first ∙ sym (laid_is_read kind.Validation bytes s second))

-- the same where memory did not run out
pub finds_ok : {E : Type 0} (k : ResponseKind) (bytes : List ℕ)
    (answer : Result (Option Response) E) → IsBytes bytes → IfOk answer (λ o. IsRead k bytes o)
    → IfOk answer (λ o. Finds k bytes o)
finds_ok k bytes (Ok o) octets read = finds k bytes o octets read
finds_ok k bytes (Err e) octets read = tt

pub context_finds_ok : {E : Type 0} (bytes : List ℕ) (answer : Result (Option ContextView) E)
    → IsBytes bytes → IfOk answer (λ o. option_map context_of o ≡ context_at bytes)
    → IfOk answer
    (λ o. Finds kind.Context bytes (option_map response.Context (option_map context_of o)))
context_finds_ok bytes (Ok o) octets exact =
    context_finds bytes (option_map context_of o) octets (sym exact)
context_finds_ok bytes (Err e) octets exact = tt

-- a response has one payload
pub one_writing : (k : ResponseKind) (a b : List ℕ) (r : Response) → Payload k a r → Payload k b r
    → a ≡ b
unfolding Payload
one_writing kind.Context a b (response.Context r) first second = first.octets ∙ sym second.octets
one_writing kind.Bundles a b (response.Bundles r) first second = first.octets ∙ sym second.octets
one_writing kind.JwtSvids a b (response.JwtSvids r) first second = first.octets ∙ sym second.octets
one_writing kind.JwtBundles a b (response.JwtBundles r) first second =
    first.octets ∙ sym second.octets
one_writing kind.Validation a b (response.Validation r) first second =
    first.octets ∙ sym second.octets
one_writing _ a b _ first second = absurd first

-- what was laid out is found
pub written_is_found : (k : ResponseKind) (bytes : List ℕ) (r : Response) (found : Option Response)
    → Payload k bytes r → IsRead k bytes found → found ≡ Some r
unfolding Payload IsRead
written_is_found kind.Context bytes r found laid read =
    read ∙ sym (laid_is_read kind.Context bytes r laid)
written_is_found kind.Bundles bytes r found laid read =
    read ∙ sym (laid_is_read kind.Bundles bytes r laid)
written_is_found kind.JwtSvids bytes r found laid read =
    read ∙ sym (laid_is_read kind.JwtSvids bytes r laid)
written_is_found kind.JwtBundles bytes r found laid read =
    read ∙ sym (laid_is_read kind.JwtBundles bytes r laid)
written_is_found kind.Validation bytes r found laid read =
    read ∙ sym (laid_is_read kind.Validation bytes r laid)
