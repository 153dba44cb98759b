use Rattle.std.proofs.Common.{◌≡◌, ◌∙◌, sym, ap, subst, IfOk, length}
use Rattle.spf_der.specs.declared.writer.CertSpec.{CertSpec}
use Rattle.spf_watch.specs.MadeSession.{root_spec}
use Rattle.spf_watch.specs.Template.{IsTemplate, before}
use Rattle.spf_watch.proofs.GeneratedLemmas.{root_offset}
use Rattle.spf_watch.proofs.generated.root.Goals as goal

pub returns : goal.returns
returns c =
    let same : c.spec.result ≡ root_spec c.args.serial 0 =
    rw (← c.new.ensures.items) c.spec.ensures in
    let at = root_offset c.args.serial ∙ ap (λ (s : CertSpec). length (before s)) (sym same) in
    subst (λ (s : CertSpec). IfOk c.new-2.result (IsTemplate s)) same
    (c.new-2.ensures (ap (λ (s : CertSpec). s.expiry) same) at)
