use Rattle.std.proofs.Common.{◌^◌, ◌-◌, ◌∙◌}
use Rattle.spf_watch.proofs.NumberTexts.{no_text}
use Rattle.spf_watch.proofs.tally.number_in.Goals as goal

pub returns-in_err-ok : goal.returns-in_err-ok
returns-in_err-ok c =
    c.from_residual.ensures
    ∙ no_text _ _ (2 ^ 64 - 1) c.args.word.now c.from_utf8.result c.from_utf8.ensures.cases
    c.in_err-ok.ensures.variant
