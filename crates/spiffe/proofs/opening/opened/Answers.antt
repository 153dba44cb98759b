use Rattle.std.proofs.Common.{sym, ap, ◌∙◌}
use Rattle.spf_board.specs.Lists.{steps_of as board_steps}
use Rattle.spiffe.proofs.opening.opened.Goals as goal

pub returns-clause-kept : goal.returns-clause-kept
unfolding board_steps
returns-clause-kept g c =
    c.in_ok-prepared.ensures.kept ∙ sym (ap board_steps c.in_ok-desk.ensures.step)

pub returns-clause-step : goal.returns-clause-step
unfolding board_steps
returns-clause-step g c =
    ap board_steps c.in_ok-desk.ensures.step ∙ sym c.in_ok-prepared.ensures.step
