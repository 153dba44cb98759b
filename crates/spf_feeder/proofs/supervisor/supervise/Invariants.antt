use Rattle.std.proofs.Common.{◌≡◌, false}
use Rattle.spf_feeder.specs.Orderly.{GoesOn}
use Rattle.spf_feeder.specs.Pacing.{KeepsPaceOf}
use Rattle.spf_feeder.proofs.supervisor.supervise.Given as goal

abbrev pub invariant-turns : goal.invariant-turns
invariant-turns g l = record {
  next : (goal.iterator-turns g).can_next l.iterator';
  finite : (goal.iterator-turns g).is_finite l.iterator';
  given : g.S.Session.given l.feeder.core ≡ g.S.Session.given l.initial.feeder.core;
  first : l.feeder.first ≡ l.initial.feeder.first;
  goes_on : GoesOn (g.S.Session.progress l.initial.feeder.core).run
      (g.S.Session.progress l.feeder.core).run;
  bounds : l.pace.bounds ≡ l.initial.pace.bounds;
  going : (g.S.Session.progress l.feeder.core).stuck ≡ false;
  keeps : KeepsPaceOf (g.S.Rules.Governs.kind (g.S.Session.given l.initial.feeder.core).rules)
      (g.S.Session.progress l.feeder.core).run l.pace;
}
