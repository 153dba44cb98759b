use Rattle.std.proofs.Common.{refl, arith}
use Rattle.spf_proto.proofs.TranslatorLemmas.{after_translating, left_translating}
use Rattle.spf_proto.proofs.TranslatorLemmas.{ready_translating}
use Rattle.spf_proto.proofs.translator.Translator.translate.Goals as goal

pub invariant_of-self : goal.invariant_of-self
invariant_of-self g c =
    let made = rw c.in-Ok.is at c.translate-made.ensures.made in
    let i = c.self.invariant in (
      omega arith,
      i.1,
      i.2,
      i.3,
      after_translating g.T.LentSource.loan g.T.LentSource.left g.T.LentSource.failures
          g.N.Origin.begin _ c.args.self.now _ _ _ _ _ c.translate-made.new.latest.frames.items
          c.clear.new.self c.self.view_is i.4 c.requires.going c.requires.whole
          c.requires.allowed
          refl
          made c.clear.ensures,
      c.translate-made.ensures.latest,
      c.translate-made.ensures.known,
    )

pub returns-in-Ok-clause-left : goal.returns-in-Ok-clause-left
returns-in-Ok-clause-left g c =
    let made = rw c.in-Ok.is at c.translate-made.ensures.made in
    let i = c.self.invariant in
    left_translating g.T.LentSource.left g.N.Origin.begin _ c.args.self.now _ _ _ _ _
    c.translate-made.new.latest.frames.items c.clear.new.self c.self.view_is refl i.2 i.3
    c.requires.ready c.requires.whole c.requires.allowed
    refl
    made c.clear.ensures

pub returns-in-Ok-clause-ready : goal.returns-in-Ok-clause-ready
returns-in-Ok-clause-ready g c =
    let made = rw c.in-Ok.is at c.translate-made.ensures.made in
    ready_translating _ _ _ _ _ c.translate-made.new.latest.frames.items made
