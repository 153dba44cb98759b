use Rattle.std.proofs.Common.{subst}
use Rattle.spf_feeder.proofs.RunLemmas.{leaves_by}
use Rattle.spf_jwt_feed.specs.Items.{Rules}
use Rattle.spf_jwt_feed.specs.Received.{received_ask}
use Rattle.spf_jwt_source.specs.Governed.{rules_of}
use Rattle.spf_jwt_source.proofs.RunLemmas.{TurnOf}
use Rattle.spf_jwt_source.proofs.session.foresee.Goals as goal

pub returns-clause-foresees : goal.returns-clause-foresees
returns-clause-foresees c =
    let rule : Rules = rules_of c.args.rules in
    let received = c.in_ok-received.ensures in record {
      turn = subst (λ e. TurnOf rule c.args.synced e c.turn_of-turn.result) received
          c.turn_of-turn.ensures.turn;
      leaves = leaves_by c.args.event.now c.in_ok-received.received _
          (received_ask c.args.place.phase c.args.synced) _ _ _ _ _ c.in-Ok.end _ received
          c.phase_after-phase.ensures c.is_accepted-is_accepted.ensures c.gave_after.ensures
          c.in-Ok.ensures c.unless_accepted.ensures;
    }
