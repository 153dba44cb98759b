use Rattle.std.proofs.Common.{◌∙◌}
use Rattle.spf_id.proofs.Exact.{order_of_text, one_id}
use Rattle.spf_id.proofs.laws.id_order.Goals as goal

pub returns : goal.returns
returns c =
    c.cmp.ensures
    ∙ order_of_text c.args.a.now c.args.b.now
    (one_id c.args.a.now c.args.b.now c.as_str-a.result.now c.as_str-b.result.now
    c.as_str-a.ensures.text c.as_str-a.ensures.rule c.as_str-b.ensures.text c.as_str-b.ensures.rule)
