use Rattle.std.proofs.Common.{◌≡◌, [], drop, true, refl, rules}
use Rattle.std.specs.Io.KnownBytes.{IsAtEnd}
use Rattle.spf_proto.specs.Translating.{standing}
use Rattle.spf_proto.specs.Translator.{Translating}
use Rattle.spf_proto.proofs.TranslatorLemmas.{at_end_left, came_translating}
use Rattle.spf_proto.proofs.translator.Translator.advance.Goals as goal

pub invariant_of-self-in-Ok-Whole : goal.invariant_of-self-in-Ok-Whole
invariant_of-self-in-Ok-Whole g c =
    let i = c.self.invariant in
    let taken = c.take_message-taken.ensures in (
      i.0,
      i.1,
      i.2,
      i.3,
      came_translating g.T.LentSource.loan g.T.LentSource.left g.T.LentSource.failures
          g.N.Origin.begin _ c.args.self.now c.take_message-taken.new.source
          c.take_message-taken.new.got c.self.view_is i.4 c.requires.going
          c.requires.unended taken.came taken.loan taken.cause.later taken.sized,
      i.5,
      i.6,
    )

pub invariant_of-self-in-Err : goal.invariant_of-self-in-Err
invariant_of-self-in-Err g c =
    let i = c.self.invariant in
    let taken = c.take_message-taken.ensures in (
      i.0,
      i.1,
      i.2,
      i.3,
      came_translating g.T.LentSource.loan g.T.LentSource.left g.T.LentSource.failures
          g.N.Origin.begin _ c.args.self.now c.take_message-taken.new.source
          c.take_message-taken.new.got c.self.view_is i.4 c.requires.going
          c.requires.unended taken.came taken.loan taken.cause.later taken.sized,
      i.5,
      i.6,
    )

pub returns-in-Ok-End-clause-at_end : goal.returns-in-Ok-End-clause-at_end
returns-in-Ok-End-clause-at_end g c =
    let ended : (c.take_message-taken.new.got ≡ [])
    × IsAtEnd (g.T.LentSource.left c.take_message-taken.new.source) = search rules in
    let t : Translating g.row.T.Denot = record {
      source = c.take_message-taken.new.source;
      ready = drop c.self.inside.at c.self.inside.latest.frames.items;
      got = c.take_message-taken.new.got;
      allowed = c.self.inside.allowed;
      standing = standing c.self.inside.position;
      ended = true;
      stop = c.self.inside.stop;
      failures = c.self.inside.failed;
    } in
    λ ready. at_end_left g.T.LentSource.left g.N.Origin.begin.rules g.N.Origin.begin.start t t refl
    ready ended.0 ended.1
