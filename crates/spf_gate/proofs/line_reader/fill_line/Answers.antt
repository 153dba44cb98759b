use Rattle.std.proofs.Common.{subst}
use Rattle.spf_gate.specs.Reading.{HasNoFeed}
use Rattle.spf_gate.proofs.Taking.{stopped}
use Rattle.spf_gate.proofs.line_reader.fill_line.Goals as goal

pub returns-in-Err-clause-fills : goal.returns-in-Err-clause-fills
returns-in-Err-clause-fills g c =
    stopped _ _ _ _ _ _ _ _ c.in-Err.e c.loop-octets.invariant.0
    (subst HasNoFeed c.as_slice-in-loop-octets.ensures.value c.in_default.ensures)
    c.in-Err.ensures.fills
