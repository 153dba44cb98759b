use Rattle.std.proofs.Common.{ap, arith, Err}
use Rattle.std.specs.Io.KnownBytes.{prepend_known}
use Rattle.spf_gate.specs.declared.gate_error.GateError.{GateError}
use Rattle.spf_gate.proofs.CutLemmas.{cut_after, cut_at_first}
use Rattle.spf_gate.proofs.ServeLemmas.{refused_policy, retyped, served}
use Rattle.spf_gate.proofs.serve.gate_serve.Goals as goal

pub returns-in-Err-clause-serves : goal.returns-in-Err-clause-serves
returns-in-Err-clause-serves g c = λ uncut.
    refused_policy _ _ _ c.read_policy.new.lines.number _ c.read_policy.new.lines.octets.items _
    (g.S.Source.left c.read_policy.new.source) _ _ c.in-Err.e c.new-lines.ensures.octets
    c.new-lines.ensures.number c.new-lines.ensures.max uncut c.in-Err.ensures.reads
    (λ is. c.in-Err.ensures.begun (ap (λ (e : GateError). Err e) is))

pub returns-in-Err-clause-cut : goal.returns-in-Err-clause-cut
returns-in-Err-clause-cut g c = λ is.
    cut_at_first _ _ _ _ c.in-Err.e

pub returns-in-Err-clause-cause : goal.returns-in-Err-clause-cause
returns-in-Err-clause-cause g c = record {
  reads_later = c.in-Err.ensures.cause.later;
  writes_later = omega arith;
  read = λ is. c.in-Err.ensures.cause.failed (retyped c.in-Err.e _ is);
  write = λ is. absurd (c.in-Err.ensures.cause.unwritten (retyped c.in-Err.e _ is));
}

pub returns-clause-serves : goal.returns-clause-serves
returns-clause-serves g c = λ uncut.
    served _ _ _ _ c.read_policy.new.lines.number _ c.answer_asks.new.lines.octets.items _
    (prepend_known c.read_policy.new.lines.octets.items (g.S.Source.left c.read_policy.new.source))
    (g.S.Source.left c.answer_asks.new.input) c.in-Ok.rules c.as_slice.result.now _ _ _ _ _
    c.new-lines.ensures.octets c.new-lines.ensures.number c.new-lines.ensures.max
    c.in-Ok.ensures.max c.as_slice.ensures uncut c.in-Ok.ensures.reads
    (c.answer_asks.ensures.serves uncut) c.answer_asks.ensures.begun

pub returns-clause-cut : goal.returns-clause-cut
returns-clause-cut g c =
    cut_after _ _ _ c.new-lines.result.number _ _ _
    (prepend_known c.read_policy.new.lines.octets.items (g.S.Source.left c.read_policy.new.source))
    c.in-Ok.rules c.as_slice.result.now _ _ _ _ c.answer_asks.result c.new-lines.ensures.octets
    c.new-lines.ensures.number c.new-lines.ensures.max c.in-Ok.ensures.max c.as_slice.ensures
    c.in-Ok.ensures.reads c.answer_asks.ensures.cut
