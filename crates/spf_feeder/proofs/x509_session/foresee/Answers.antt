use Rattle.std.proofs.Common.{rules, ap, ◌∙◌}
use Rattle.std.specs.Option.{option_or}
use Rattle.spf_feed.specs.Items.{Rules, rules_with}
use Rattle.spf_feed.specs.Received.{received_ask, received_moment}
use Rattle.spf_feeder.specs.Governed.{rules_by}
use Rattle.spf_feeder.proofs.RunLemmas.{leaves_by, lent_picker, turn_as}
use Rattle.spf_feeder.proofs.x509_session.foresee.Goals as goal

pub returns-clause-foresees : goal.returns-clause-foresees
returns-clause-foresees g c =
    let set = c.args.rules.now.settings in
    let rule : Rules = rules_by g.K.SvidPicker.picks c.args.rules.now in
    let received = c.in_ok-received.ensures in
    let lent = ap (rules_with set.limits set.deadline set.ready)
    (lent_picker g.K.SvidPicker.picks c.as_ref.result c.args.rules.now.picker (search rules)) in
    record {
      turn = turn_as rule _ c.args.synced c.args.place.moment c.args.event.now
          c.in_ok-received.received _ lent received c.turn_of-turn.ensures.turn;
      moment = c.moment_after-moment.ensures
          ∙ ap (λ r. option_or (received_moment r) c.args.place.moment) received;
      leaves = leaves_by c.args.event.now c.in_ok-received.received _
          (received_ask c.args.place.phase c.args.synced) _ _ _ _ _ c.in-Ok.end _ received
          c.phase_after-phase.ensures c.is_accepted-is_accepted.ensures c.gave_after.ensures
          c.in-Ok.ensures c.unless_accepted.ensures;
    }
