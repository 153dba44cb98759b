use Rattle.std.proofs.Common.{ap, codes, ◌++◌, ◌∙◌}
use Rattle.spf_export.specs.Pem.{block}
use Rattle.spf_export.proofs.Lines.{one_more}
use Rattle.spf_export.proofs.pem_texts.put_authorities.Goals as goal

pub loop-authority-preserved : goal.loop-authority-preserved
loop-authority-preserved c =
    one_more c.args.authorities.now c.loop-authority.authority-index c.authority-item.result
    c.loop-authority.out.items _ _ c.loop-authority-test.true c.authority-item.is
    (c.in_ok-put_block.ensures
    ∙ ap (λ d. c.loop-authority.out.items ++ block (codes "CERTIFICATE") d) c.as_slice.ensures)
    c.loop-authority.invariant
