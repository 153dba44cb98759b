use Rattle.std.proofs.Common.{ap, codes, ◌++◌, ◌∙◌}
use Rattle.spf_export.specs.Pem.{block}
use Rattle.spf_export.proofs.Lines.{one_more}
use Rattle.spf_export.proofs.pem_texts.chain_text.Goals as goal

pub loop-certificate-preserved : goal.loop-certificate-preserved
loop-certificate-preserved c =
    one_more c.args.chain.now c.loop-certificate.certificate-index c.certificate-item.result
    c.loop-certificate.out.items _ _ c.loop-certificate-test.true c.certificate-item.is
    (c.in_ok-put_block.ensures
    ∙ ap (λ d. c.loop-certificate.out.items ++ block (codes "CERTIFICATE") d)
    c.as_bytes.ensures.value) c.loop-certificate.invariant
