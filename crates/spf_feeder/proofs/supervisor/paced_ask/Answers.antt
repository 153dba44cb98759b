use Rattle.std.proofs.Common.{◌≡◌, false, reverse, sym, ap, ◌∙◌}
use Rattle.spf_feeder.specs.Pacing.{KeepsPaceOf, opens_by}
use Rattle.spf_feeder.proofs.PaceLemmas.{paces_ended, paces_opened, paces_passed, shut_after}
use Rattle.spf_feeder.proofs.PaceLemmas.{unopened}
use Rattle.spf_feeder.proofs.supervisor.paced_ask.Goals.{else-not-was_synced-via-then-not-was_synced+else-is_synced}
use Rattle.spf_feeder.proofs.supervisor.paced_ask.Goals.{else-not-was_synced-via-else-not-was_synced}
use Rattle.spf_io.specs.declared.memory.OutOfMemory.{OutOfMemory}
use Rattle.spf_feeder.proofs.OrderLemmas.{once_answers}
use Rattle.spf_feeder.proofs.supervisor.paced_ask.Goals as goal

pub returns-then-is_synced-clause-paces : goal.returns-then-is_synced-clause-paces
unfolding KeepsPaceOf
returns-then-is_synced-clause-paces g c =
    let old = c.args.feeder.now.core in
    let k = g.S.Rules.Governs.kind (g.S.Session.given old).rules in
    let turn = c.in_ok-end.ensures.turn in
    paces_opened k.subject _ k.ask (g.S.Session.progress old).run _ turn.event _ _ _
    c.args.pace.now c.synchronised.new.self
    (ap (λ about. (g.S.Rules.Governs.kind about.rules).subject) c.ask_once.ensures.given)
    turn.advanced.run_is turn.advanced.end_is c.in-None.is c.is_synced-was_synced.ensures.synced
    c.if-not-was_synced.true c.is_synced.ensures.synced c.if-is_synced.true
    c.synchronised.ensures.paces

pub returns-in_ok-delay-in-Some-clause-paces : goal.returns-in_ok-delay-in-Some-clause-paces
unfolding KeepsPaceOf
returns-in_ok-delay-in-Some-clause-paces g c =
    let old = c.args.feeder.now.core in
    let k = g.S.Rules.Governs.kind (g.S.Session.given old).rules in
    let turn = c.in_ok-end.ensures.turn in
    paces_ended k.subject k.ask (g.S.Session.progress old).run _ turn.event _ c.in-Some.end
    c.args.pace.now c.after.new.self
    turn.advanced.run_is turn.advanced.end_is c.in-Some.is
    c.in_ok-delay-in-Some.ensures.paces

pub returns-else-not-was_synced-clause-paces : goal.returns-else-not-was_synced-clause-paces
unfolding KeepsPaceOf
returns-else-not-was_synced-clause-paces g c =
    let old = c.args.feeder.now.core in
    let k = g.S.Rules.Governs.kind (g.S.Session.given old).rules in
    let run = (g.S.Session.progress old).run in
    let turn = c.in_ok-end.ensures.turn in
    let same = ap (λ about. (g.S.Rules.Governs.kind about.rules).subject) c.ask_once.ensures.given
    in
    let shut : opens_by k.subject (reverse run) turn.event ≡ false =
    elim c.else-not-was_synced.branch [
      | else-not-was_synced-via-then-not-was_synced+else-is_synced w ↦ shut_after k.subject _ run _
          turn.event _ same turn.advanced.run_is w.is_synced.ensures.synced w.if-is_synced.false
      | else-not-was_synced-via-else-not-was_synced w ↦ unopened k.subject run turn.event
          (sym c.is_synced-was_synced.ensures.synced ∙ w.if-not-was_synced.false)
    ] in
    paces_passed k.subject k.ask run _ turn.event _ c.args.pace.now turn.advanced.run_is
    turn.advanced.end_is c.in-None.is shut

pub returns-else-not-was_synced-clause-adds : goal.returns-else-not-was_synced-clause-adds
returns-else-not-was_synced-clause-adds g c =
    let turn = c.in_ok-end.ensures.turn in
    record {
      event = turn.event;
      answers = once_answers OutOfMemory
          (g.S.Rules.Governs.kind (g.S.Session.given c.args.feeder.now.core).rules).wanted
          g.C.Connector
          g.C.Link.Link _ _ _ turn.event turn.asked;
      run_is = turn.advanced.run_is;
    }
