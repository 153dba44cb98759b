use Rattle.spf_proto.proofs.TranslatorLemmas.{gives_left, gives_none}
use Rattle.spf_proto.proofs.translator.TranslatorSource.read.Goals as goal

pub returns-clause-bytes : goal.returns-clause-bytes
returns-clause-bytes g c = (
  gives_left g.T.LentSource.left g.N.Origin.begin.rules g.N.Origin.begin.start c.args.self.now
      c.prepare.new.self c.give.new.self _ _ c.prepare.ensures.left c.give.ensures.given,
  gives_none g.T.LentSource.left g.N.Origin.begin.rules g.N.Origin.begin.start
      c.prepare.new.self c.give.new.self c.give.result c.give.new.buf c.give.ensures.given
      c.give.ensures.room c.in_ok-prepare.ensures.at_end,
)
