use Rattle.std.proofs.Common.{rules, sym, refl, ◌∙◌}
use Rattle.std.proofs.lemmas.Result.{err_from_is_err_and}
use Rattle.spf_jwt_feed.specs.Items.{Rules}
use Rattle.spf_feed.proofs.FailureLemmas.{no_failure}
use Rattle.spf_jwt_feed.proofs.Loop.{loop_begins, next_of, exit_end, exit_unread, went_through}
use Rattle.spf_jwt_feed.proofs.Loop.{exit_turn, lined, exit_no_line, exit_unput, exit_close}
use Rattle.spf_jwt_feed.proofs.Loop.{loop_on}
use Rattle.spf_jwt_feed.proofs.following.follow_events.Goals as goal

pub returns-in-Ok-None-clause-cause : goal.returns-in-Ok-None-clause-cause
returns-in-Ok-None-clause-cause g c =
    no_failure _ _ c.at_end.result c.at_end.ensures.calm (search rules) (search rules)

pub events-init : goal.events-init
events-init g c = record {
  bound = search rules;
  synced = search rules;
  reads = search rules;
  writes = search rules;
  session = rw c.requires.snapshot (loop_begins _ _ _ _ c.requires.line);
}

pub returns-in-Ok-None-clause-followed : goal.returns-in-Ok-None-clause-followed
returns-in-Ok-None-clause-followed g c =
    let session : Rules = record { limits = c.args.limits; deadline = c.args.deadline } in
    let at = c.events.invariant.session in
    let bytes = c.in-Ok-None.ensures.bytes session at.past at.asks in
    let read = rw c.in-Ok-None.field-0-is at bytes in
    exit_end _ _ _ _ _ _ _ _ _ _ at (record { held = refl; steps = refl; records = refl }) read.0
    read.1 c.at_end.ensures.answer

pub returns-in-Err-clause-followed : goal.returns-in-Err-clause-followed
returns-in-Err-clause-followed g c =
    let session : Rules = record { limits = c.args.limits; deadline = c.args.deadline } in
    let at = c.events.invariant.session in
    rw c.error_at.ensures
    (exit_unread _ _ _ _ _ _ _ _ _ _ at (record { held = refl; steps = refl; records = refl })
    (c.in-Err.ensures.bytes session at.past at.asks))

pub returns-in_err-is_changed-clause-followed : goal.returns-in_err-is_changed-clause-followed
returns-in_err-is_changed-clause-followed g c =
    let session : Rules = record { limits = c.args.limits; deadline = c.args.deadline } in
    let at = c.events.invariant.session in
    let bytes = c.in-Ok-Some.ensures.bytes session at.past at.asks in
    let read = rw c.in-Ok-Some.field-0-is at bytes in
    let next = next_of _ _ _ _ _ _ _ _ _ _ at read in
    let p = err_from_is_err_and c.from_residual.result
    c.from_residual.ensures.1 in
    rw (p.1, p.2)
    (exit_turn session _ _ _ _ _ _ _ _ _ _ _ _ _ _ at read next c.is_some-synced.ensures
    c.turn_of-turn.ensures.turn refl c.in_err-is_changed.ensures.turn)

pub returns-in_err-show-clause-followed : goal.returns-in_err-show-clause-followed
returns-in_err-show-clause-followed g c =
    let session : Rules = record { limits = c.args.limits; deadline = c.args.deadline } in
    let at = c.events.invariant.session in
    let bytes = c.in-Ok-Some.ensures.bytes session at.past at.asks in
    let read = rw c.in-Ok-Some.field-0-is at bytes in
    let next = next_of _ _ _ _ _ _ _ _ _ _ at read in
    let through =
    went_through session _ _ _ _ _ _ _ _ _ _ _ _ _ _ at read c.is_some-synced.ensures
    c.turn_of-turn.ensures.turn c.in_ok-is_changed.ensures.turn in
    let p = err_from_is_err_and c.from_residual-in_err-show.result
    c.from_residual-in_err-show.ensures.1 in
    rw (p.1, p.2) (exit_no_line session _ _ _ _ _ _ _ _ _ _ _ at next refl through)

pub returns-in-Err-put-clause-followed : goal.returns-in-Err-put-clause-followed
returns-in-Err-put-clause-followed g c =
    let session : Rules = record { limits = c.args.limits; deadline = c.args.deadline } in
    let at = c.events.invariant.session in
    let bytes = c.in-Ok-Some.ensures.bytes session at.past at.asks in
    let read = rw c.in-Ok-Some.field-0-is at bytes in
    let next = next_of _ _ _ _ _ _ _ _ _ _ at read in
    let through =
    went_through session _ _ _ _ _ _ _ _ _ _ _ _ _ _ at read c.is_some-synced.ensures
    c.turn_of-turn.ensures.turn c.in_ok-is_changed.ensures.turn in
    let line = lined session _ _ _ _ _ _ _ _ _ _ _ at through c.in_ok-show.ensures in
    exit_unput session _ _ _ _ _ _ _ _ _ _ _ _ c.in-Err-put.ensures.bytes.0 at next through line
    c.in-Err-put.ensures.bytes.1

pub returns-then-is_close-clause-followed : goal.returns-then-is_close-clause-followed
returns-then-is_close-clause-followed g c =
    let session : Rules = record { limits = c.args.limits; deadline = c.args.deadline } in
    let at = c.events.invariant.session in
    let bytes = c.in-Ok-Some.ensures.bytes session at.past at.asks in
    let read = rw c.in-Ok-Some.field-0-is at bytes in
    let through =
    went_through session _ _ _ _ _ _ _ _ _ _ _ _ _ _ at read c.is_some-synced.ensures
    c.turn_of-turn.ensures.turn c.in_ok-is_changed.ensures.turn in
    let line = lined session _ _ _ _ _ _ _ _ _ _ _ at through c.in_ok-show.ensures in
    exit_close session _ _ _ _ _ _ _ _ _ _ _ _ at read through line c.in-Ok.ensures.bytes
    (sym c.is_close-is_close.ensures ∙ c.if-is_close.true)

pub events-preserved : goal.events-preserved
events-preserved g c =
    let session : Rules = record { limits = c.args.limits; deadline = c.args.deadline } in
    let at = c.events.invariant.session in
    let bytes = c.in-Ok-Some.ensures.bytes session at.past at.asks in
    let read = rw c.in-Ok-Some.field-0-is at bytes in
    let through =
    went_through session _ _ _ _ _ _ _ _ _ _ _ _ _ _ at read c.is_some-synced.ensures
    c.turn_of-turn.ensures.turn c.in_ok-is_changed.ensures.turn in
    let line = lined session _ _ _ _ _ _ _ _ _ _ _ at through c.in_ok-show.ensures in
    record {
      bound = search rules;
      synced = c.in_ok-is_changed.ensures.synced;
      reads = search rules;
      writes = search rules;
      session = loop_on session _ _ _ _ _ _ _ _ _ _ _ _ _ _ _ at read through line
          c.in-Ok.ensures.bytes (sym c.is_close-is_close.ensures ∙ c.if-is_close.false)
          c.is_some-synced.ensures c.phase_after-phase.ensures c.in-Ok.ensures.text;
    }
