use Rattle.std.proofs.Common.{ℤ, rules, [], ◌∷◌, ◌∙◌, List, ◌++◌, length, of_z, ap, sym, arith}
use Rattle.std.proofs.lemmas.List.{append-nil}
use Rattle.std.proofs.lemmas.Int.{to_z-of_z}
use Rattle.std.specs.Int.{w32, w64, to_be_bytes}
use Rattle.spf_api.specs.declared.response.Claim.{Claim}
use Rattle.spf_api.specs.declared.response.ClaimValue.{ClaimValue, Unset, Null, Bool as Truth}
use Rattle.spf_api.specs.declared.response.ClaimValue.{Whole, OtherNumber, Words, Items, Fields}
use Rattle.spf_api.specs.Layout.{field_text, list_text}
use Rattle.spf_api.specs.Claims.{truth_octet, claim_value_text, claim_text, IsClaim, IsClaimValue}
use Rattle.spf_api.proofs.Laid.{laid_more, laid_list, laid_octets}
use Rattle.spf_api.proofs.ClaimLemmas.{value_put, unset_text, null_text, truth_text, whole_text}
use Rattle.spf_api.proofs.ClaimLemmas.{other_number_text, words_text, items_text, fields_text}
use Rattle.spf_api.proofs.payload_validation.+put_claims.Goals as goal

pub put_claim_value-returns-in_ok-put_octet-in-Unset-clause-octets
    : goal.put_claim_value-returns-in_ok-put_octet-in-Unset-clause-octets
put_claim_value-returns-in_ok-put_octet-in-Unset-clause-octets t c =
    value_put 0 [] c.args.value.now Unset c.args.out.now.items c.put_octet.new.out.items
    c.put_octet.new.out.items c.in-Unset.is unset_text c.in_ok-put_octet-in-Unset.ensures
    (sym (append-nil c.put_octet.new.out.items))

pub put_claim_value-returns-in_ok-put_octet-in-Null-clause-octets
    : goal.put_claim_value-returns-in_ok-put_octet-in-Null-clause-octets
put_claim_value-returns-in_ok-put_octet-in-Null-clause-octets t c =
    value_put 1 [] c.args.value.now Null c.args.out.now.items c.put_octet-in-Null.new.out.items
    c.put_octet-in-Null.new.out.items c.in-Null.is null_text c.in_ok-put_octet-in-Null.ensures
    (sym (append-nil c.put_octet-in-Null.new.out.items))

pub put_claim_value-returns-in_ok-put_truth-in-Bool-clause-octets
    : goal.put_claim_value-returns-in_ok-put_truth-in-Bool-clause-octets
put_claim_value-returns-in_ok-put_truth-in-Bool-clause-octets t c =
    value_put 2 (truth_octet c.in-Bool.truth ∷ []) c.args.value.now (Truth c.in-Bool.truth)
    c.args.out.now.items c.put_octet-in-Bool.new.out.items c.put_truth.new.out.items
    c.in-Bool.is (truth_text c.in-Bool.truth) c.in_ok-put_octet-in-Bool.ensures
    c.in_ok-put_truth-in-Bool.ensures

pub put_claim_value-returns-in_ok-put_whole-in-Whole-clause-octets
    : goal.put_claim_value-returns-in_ok-put_whole-in-Whole-clause-octets
put_claim_value-returns-in_ok-put_whole-in-Whole-clause-octets t c =
    value_put 3 (to_be_bytes w64 (of_z w64 c.in-Whole.number)) c.args.value.now
    (Whole c.in-Whole.number) c.args.out.now.items c.put_octet-in-Whole.new.out.items
    c.put_whole.new.out.items
    c.in-Whole.is (whole_text c.in-Whole.number) c.in_ok-put_octet-in-Whole.ensures
    (c.in_ok-put_whole-in-Whole.ensures
    ∙ ap (λ (z : ℤ). c.put_octet-in-Whole.new.out.items ++ to_be_bytes w64 (of_z w64 z))
    (to_z-of_z w64 c.in-Whole.number (search rules)))

pub put_claim_value-returns-in_ok-put_text-in-OtherNumber-clause-octets
    : goal.put_claim_value-returns-in_ok-put_text-in-OtherNumber-clause-octets
put_claim_value-returns-in_ok-put_text-in-OtherNumber-clause-octets t c =
    value_put 4 (field_text c.in-OtherNumber.text) c.args.value.now
    (OtherNumber c.in-OtherNumber.text) c.args.out.now.items
    c.put_octet-in-OtherNumber.new.out.items c.put_text.new.out.items
    c.in-OtherNumber.is (other_number_text c.in-OtherNumber.text)
    c.in_ok-put_octet-in-OtherNumber.ensures c.in_ok-put_text-in-OtherNumber.ensures.octets

pub put_claim_value-returns-in_ok-put_text-in-Words-clause-octets
    : goal.put_claim_value-returns-in_ok-put_text-in-Words-clause-octets
put_claim_value-returns-in_ok-put_text-in-Words-clause-octets t c =
    value_put 5 (field_text c.in-Words.text) c.args.value.now (Words c.in-Words.text)
    c.args.out.now.items c.put_octet-in-Words.new.out.items c.put_text-in-Words.new.out.items
    c.in-Words.is (words_text c.in-Words.text) c.in_ok-put_octet-in-Words.ensures
    c.in_ok-put_text-in-Words.ensures.octets

pub put_claim_value-returns-in_ok-put_claim_values-in-Items-clause-octets
    : goal.put_claim_value-returns-in_ok-put_claim_values-in-Items-clause-octets
put_claim_value-returns-in_ok-put_claim_values-in-Items-clause-octets t c =
    value_put 6 (list_text claim_value_text c.in-Items.values) c.args.value.now
    (Items c.in-Items.values) c.args.out.now.items c.put_octet-in-Items.new.out.items
    c.put_claim_values.new.out.items
    c.in-Items.is (items_text c.in-Items.values) c.in_ok-put_octet-in-Items.ensures
    (c.in_ok-put_claim_values-in-Items.ensures.octets
    ∙ ap (λ (vs : List ClaimValue). c.put_octet-in-Items.new.out.items
    ++ list_text claim_value_text vs) c.as_slice.ensures)

pub put_claim_value-returns-in_ok-put_claims-in-Fields-clause-octets
    : goal.put_claim_value-returns-in_ok-put_claims-in-Fields-clause-octets
put_claim_value-returns-in_ok-put_claims-in-Fields-clause-octets t c =
    value_put 7 (list_text claim_text c.in-Fields.claims) c.args.value.now
    (Fields c.in-Fields.claims) c.args.out.now.items c.put_octet-in-Fields.new.out.items
    c.put_claims.new.out.items
    c.in-Fields.is (fields_text c.in-Fields.claims) c.in_ok-put_octet-in-Fields.ensures
    (c.in_ok-put_claims-in-Fields.ensures.octets
    ∙ ap (λ (cs : List Claim). c.put_octet-in-Fields.new.out.items ++ list_text claim_text cs)
    c.as_slice-in-Fields.ensures)

pub put_claim_values-loop-value-preserved : goal.put_claim_values-loop-value-preserved
put_claim_values-loop-value-preserved t c =
    laid_more claim_value_text (IsClaimValue c.args.depth) c.put_number.new.out.items
    c.loop-value.out.items c.put_claim_value.new.out.items c.args.values.now
    c.loop-value.value-index c.value-item.result
    c.loop-value.invariant c.loop-value-test.true c.value-item.is
    c.in_ok-put_claim_value.ensures.octets c.in_ok-put_claim_value.ensures.fits

pub put_claim_values-returns-clause-fits : goal.put_claim_values-returns-clause-fits
put_claim_values-returns-clause-fits t c =
    laid_list claim_value_text (IsClaimValue c.args.depth) c.put_number.new.out.items
    c.loop-value.out.items c.args.values.now c.loop-value.value-index c.loop-value.invariant
    (omega arith) c.in_ok-put_number.ensures.short

pub put_claim_values-returns-clause-octets : goal.put_claim_values-returns-clause-octets
unfolding list_text
put_claim_values-returns-clause-octets t c =
    laid_octets claim_value_text (IsClaimValue c.args.depth) c.args.out.now.items
    (to_be_bytes w32 (length c.args.values.now)) c.put_number.new.out.items c.loop-value.out.items
    c.args.values.now
    c.loop-value.value-index c.loop-value.invariant (omega arith) c.in_ok-put_number.ensures.octets

pub put_claims-loop-claim-preserved : goal.put_claims-loop-claim-preserved
put_claims-loop-claim-preserved t c =
    laid_more claim_text (IsClaim (IsClaimValue c.args.depth)) c.put_number.new.out.items
    c.loop-claim.out.items c.put_claim.new.out.items c.args.claims.now c.loop-claim.claim-index
    c.claim-item.result
    c.loop-claim.invariant c.loop-claim-test.true c.claim-item.is c.in_ok-put_claim.ensures.octets
    c.in_ok-put_claim.ensures.fits

pub put_claims-returns-clause-fits : goal.put_claims-returns-clause-fits
put_claims-returns-clause-fits t c =
    laid_list claim_text (IsClaim (IsClaimValue c.args.depth)) c.put_number.new.out.items
    c.loop-claim.out.items c.args.claims.now c.loop-claim.claim-index c.loop-claim.invariant
    (omega arith) c.in_ok-put_number.ensures.short

pub put_claims-returns-clause-octets : goal.put_claims-returns-clause-octets
unfolding list_text
put_claims-returns-clause-octets t c =
    laid_octets claim_text (IsClaim (IsClaimValue c.args.depth)) c.args.out.now.items
    (to_be_bytes w32 (length c.args.claims.now)) c.put_number.new.out.items c.loop-claim.out.items
    c.args.claims.now
    c.loop-claim.claim-index c.loop-claim.invariant (omega arith) c.in_ok-put_number.ensures.octets
