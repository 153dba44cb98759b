use Rattle.spf_board.proofs.Prefixes.{end_may}
use Rattle.spf_board.proofs.writer.publish_end.Goals as goal

pub publish-requires-clause-follows : goal.publish-requires-clause-follows
publish-requires-clause-follows g c =
    end_may g.K.Kind.legal _ c.requires.rested.board c.requires.unended
