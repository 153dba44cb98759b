use Rattle.std.proofs.Common.{◌≡◌, false}
use Rattle.spf_feeder.specs.Orderly.{IsOpening}
use Rattle.spf_feeder.specs.Pacing.{KeepsPaceOf}
use Rattle.spf_feeder.specs.Times.{GivesMoments}
use Rattle.spf_feeder.proofs.synchronisation.synchronise.Given as goal

abbrev pub invariant-asks : goal.invariant-asks
invariant-asks g l = record {
  next : (goal.iterator-asks g).can_next l.iterator';
  finite : (goal.iterator-asks g).is_finite l.iterator';
  given : g.S.Session.given l.feeder.core ≡ g.S.Session.given l.initial.feeder.core;
  first : l.feeder.first ≡ l.initial.feeder.first;
  bounds : l.pace.bounds ≡ l.initial.pace.bounds;
  going : (g.S.Session.progress l.feeder.core).stuck ≡ false;
  keeps : KeepsPaceOf (g.S.Rules.Governs.kind (g.S.Session.given l.initial.feeder.core).rules)
      (g.S.Session.progress l.feeder.core).run l.pace;
  timed : IsOpening (g.S.Rules.Governs.kind (g.S.Session.given l.initial.feeder.core).rules)
      (g.S.Session.progress l.feeder.core).run;
  clock : GivesMoments (g.T.Clock.moments l.initial.clock) (g.T.Clock.moments l.clock)
      (g.S.Session.progress l.initial.feeder.core).run (g.S.Session.progress l.feeder.core).run;
}
