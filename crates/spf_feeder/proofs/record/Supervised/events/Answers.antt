use Rattle.std.proofs.Common.{subst}
use Rattle.spf_feeder.specs.Records.{IsRecordBy}
use Rattle.spf_feeder.proofs.record.Supervised.events.Goals as goal

pub returns-clause-kept : goal.returns-clause-kept
returns-clause-kept g c =
    subst (IsRecordBy g.G.Governs.plain g.G.Governs.kind) c.self.view_is c.self.invariant
