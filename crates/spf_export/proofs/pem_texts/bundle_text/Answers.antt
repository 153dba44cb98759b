use Rattle.spf_export.proofs.Lines.{one_more_list}
use Rattle.spf_export.proofs.pem_texts.bundle_text.Goals as goal

pub loop-list-preserved : goal.loop-list-preserved
loop-list-preserved c =
    one_more_list c.args.trust_domain.now c.args.lists.now c.loop-list.list-index
    c.list-item.result c.loop-list.out.items _ _ c.loop-list-test.true c.list-item.is
    c.in_ok-put_list.ensures c.loop-list.invariant
