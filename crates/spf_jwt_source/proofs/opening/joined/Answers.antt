use Rattle.std.proofs.Common.{sym, ap, ◌∙◌}
use Rattle.spf_board.specs.Lists.{steps_of as board_steps}
use Rattle.spf_jwt_source.specs.Governed.{kind_of}
use Rattle.spf_feeder.proofs.Joining.{paces_as, steps_as, synced_as}
use Rattle.spf_jwt_source.proofs.opening.joined.Goals as goal

pub new-job-requires-clause-synced : goal.new-job-requires-clause-synced
new-job-requires-clause-synced g c =
    let on = c.in-Ok.ensures in
    synced_as kind_of _ _ _ _ on.rules on.run c.requires.synced

pub new-job-requires-clause-paces : goal.new-job-requires-clause-paces
new-job-requires-clause-paces g c =
    let on = c.in-Ok.ensures in
    paces_as kind_of _ _ _ _ c.args.pace on.rules on.run c.requires.paces

pub returns-in-Ok-source_of-clause-built : goal.returns-in-Ok-source_of-clause-built
returns-in-Ok-source_of-clause-built g c =
    let on = c.in-Ok.ensures in
    let job = c.new-job.ensures in
    let made = c.in-Ok-source_of.ensures in record {
      pass_board = made.pass.0 ∙ on.board.1 ∙ sym made.source.0;
      board = ap (λ j. j.board) job ∙ on.board.0 ∙ sym made.source.0;
      cell = ap (λ j. j.cell) job ∙ sym (made.source.1 ∙ c.requires.one.0);
      closing_cell = c.requires.one.1 ∙ sym (made.source.1 ∙ c.requires.one.0);
      seen = steps_as kind_of _ _ _ _ _ (ap (λ j. j.rules) job ∙ on.rules)
          (ap (λ j. j.run) job ∙ on.run) (ap board_steps made.pass.1 ∙ on.seen);
    }
