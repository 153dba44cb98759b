use Rattle.std.proofs.Common.{rules, [], ◌∷◌, ◌++◌, ap, arith, ◌∙◌}
use Rattle.std.proofs.lemmas.Bool.Decides.{nat_tests}
use Rattle.spf_export.proofs.Lines.{line_put, lines_done}
use Rattle.spf_export.proofs.pem.put_lines.Goals as goal

pub loop-rest-preserved : goal.loop-rest-preserved
loop-rest-preserved c =
    line_put c.loop-rest.out.items _ c.loop-rest.rest.now _ _
    (grind (arith, nat_tests, c.is_empty.ensures, c.loop-rest-test.true))
    (search rules) (search rules)
    (c.in_ok-extend_from_slice-2.ensures.items
    ∙ ap (λ l. l ++ 10 ∷ []) c.in_ok-extend_from_slice.ensures.items)
    ∙ c.loop-rest.invariant

pub returns : goal.returns
returns c =
    lines_done c.loop-rest.out.items _ c.loop-rest.rest.now
    (grind (arith, nat_tests, c.is_empty.ensures, c.loop-rest-test.false)) c.loop-rest.invariant
