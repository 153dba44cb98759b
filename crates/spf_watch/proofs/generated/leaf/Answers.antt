use Rattle.std.proofs.Common.{◌≡◌, ◌∙◌, sym, ap, subst, IfOk, length, [], ◌∷◌, ◌++◌, Some, false}
use Rattle.spf_der.specs.declared.writer.CertSpec.{CertSpec}
use Rattle.spf_watch.specs.MadeSession.{expiry_of, identity, leaf_spec, signs_data}
use Rattle.spf_watch.specs.Template.{IsTemplate, before}
use Rattle.spf_watch.proofs.GeneratedLemmas.{leaf_offset}
use Rattle.spf_watch.proofs.generated.leaf.Goals as goal

pub returns : goal.returns
returns c = λ index serial text.
    let uris : c.push.new.self.items ≡ identity index ∷ [] =
    c.in_ok-push.ensures.items
    ∙ (λ i. c.new-uris.ensures.items i ++ (c.in_ok-copy_of.ensures ∙ text) i ∷ []) in
    let same : c.spec-spec.result ≡ leaf_spec index 0 =
    c.spec-spec.ensures
    ∙ (λ i. record {
      serial = serial i;
      expiry = expiry_of 0;
      key_usage = Some signs_data;
      ca = Some false;
      uris = uris i;
    }) in
    let at = leaf_offset index ∙ ap (λ (s : CertSpec). length (before s)) (sym same) in
    subst (λ (s : CertSpec). IfOk c.new.result (IsTemplate s)) same
    (c.new.ensures (ap (λ (s : CertSpec). s.expiry) same) at)
