use Rattle.std.proofs.Common.{ap, ◌++◌, ◌∙◌}
use Rattle.spf_export.specs.Pem.{block, lines_of}
use Rattle.spf_export.proofs.Lines.{parts_put}
use Rattle.spf_export.proofs.pem.put_block.Goals as goal

pub returns : goal.returns
unfolding block
returns c =
    parts_put c.args.out.now.items _ _ _ _ _ _ c.in_ok-put_boundary.ensures
    (c.in_ok-put_lines.ensures ∙ ap (λ t. c.put_boundary.new.out.items ++ lines_of t)
    (c.as_bytes.ensures.value ∙ c.in_ok-text.ensures.text))
    c.in_ok-put_boundary-2.ensures
