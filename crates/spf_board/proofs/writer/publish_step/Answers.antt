use Rattle.spf_board.proofs.Prefixes.{step_may}
use Rattle.spf_board.proofs.writer.publish_step.Goals as goal

pub publish-requires-clause-follows : goal.publish-requires-clause-follows
publish-requires-clause-follows g c =
    step_may g.K.Kind.legal _ c.args.step c.new.result.first c.new.ensures c.requires.legal
    c.requires.unended
