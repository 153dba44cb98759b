use Rattle.std.proofs.Common.{◌≡◌, ℕ, List, ap, ◌∙◌, Ok, refl, subst}
use Rattle.std.proofs.lemmas.Result.{err_from_is_err_and}
use Rattle.std.specs.Arc.{arc_value}
use Rattle.spf_io.proofs.Each.{unless}
use Rattle.spf_id.specs.Id.{Id}
use Rattle.spf_x509.specs.Svid.{Svid}
use Rattle.spf_api.specs.Errors.{is_memory_api}
use Rattle.spf_api.specs.Parsed.{bundle_for, pair_of, with_bundle}
use Rattle.spf_api.proofs.Added.{read_err, read_ok}
use Rattle.spf_api.proofs.response_rule.shared_material.Goals as goal

pub returns-in_err-svid : goal.returns-in_err-svid
unfolding pair_of
returns-in_err-svid c =
    let p = err_from_is_err_and c.from_residual.result c.from_residual.ensures.1 in
    rw (p.1, p.2)
    (unless (is_memory_api c.in_err-svid.field-0.0) (λ broken. rw broken refl)
    c.in_err-svid.ensures)

pub returns-in_err-add_bundle : goal.returns-in_err-add_bundle
unfolding pair_of
returns-in_err-add_bundle c =
    let p = err_from_is_err_and c.from_residual-in_err-add_bundle.result
    c.from_residual-in_err-add_bundle.ensures.1 in
    let e = c.in_err-add_bundle.field-0.0 in
    let domain : c.trust_domain-trust_domain.result.now
    ≡ (arc_value c.in_ok-svid.svid).id.domain =
    c.trust_domain-trust_domain.ensures ∙ ap (λ (i : Id). i.domain) c.spiffe_id.ensures
    ∙ ap (λ (s : Svid). s.id.domain) c.deref.ensures in
    rw (p.1, p.2)
    (unless (is_memory_api e)
    (λ broken. rw (
      c.in_ok-svid.ensures,
      rw domain at (read_err (with_bundle c.args.bundles.now)
          (bundle_for c.trust_domain-trust_domain.result.now c.args.entry.now.bundle.now) e broken),
    ) refl)
    c.in_err-add_bundle.ensures)

pub returns : goal.returns
unfolding pair_of
returns c =
    let domain : c.trust_domain-trust_domain.result.now
    ≡ (arc_value c.in_ok-svid.svid).id.domain =
    c.trust_domain-trust_domain.ensures ∙ ap (λ (i : Id). i.domain) c.spiffe_id.ensures
    ∙ ap (λ (s : Svid). s.id.domain) c.deref.ensures in
    let b = read_ok (with_bundle c.args.bundles.now)
    (bundle_for c.trust_domain-trust_domain.result.now c.args.entry.now.bundle.now) _
    c.in_ok-add_bundle.ensures in
    let bundle = subst
    (λ (d : List ℕ). bundle_for d c.args.entry.now.bundle.now ≡ Ok b.0) domain b.1 in
    rw (c.in_ok-svid.ensures, bundle) (λ i. Ok (arc_value c.in_ok-svid.svid, b.2 i))
