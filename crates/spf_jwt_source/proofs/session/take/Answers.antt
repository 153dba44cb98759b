use Rattle.std.proofs.lemmas.Result.{err_from_is_err_and}
use Rattle.spf_jwt_feed.specs.Items.{Rules}
use Rattle.spf_jwt.specs.Bundle.{set_eq}
use Rattle.spf_jwt_feed.specs.declared.record.JwtMetricsRecord.TheVariants as jwt_records
use Rattle.spf_jwt_feed.specs.Turns.{listed}
use Rattle.spf_jwt_source.specs.Governed.{rules_of}
use Rattle.spf_feeder.proofs.RunLemmas.{unpublished}
use Rattle.spf_jwt_source.proofs.RunLemmas.{advanced_by, refused_by}
use Rattle.spf_jwt_source.proofs.session.take.Goals as goal

pub returns-clause-takes : goal.returns-clause-takes
returns-clause-takes g c = λ run published going.
    let rule : Rules = rules_of c.args.rules in
    advanced_by rule run c.args.event.now c.is_some.result c.args.place.now _ c.args.snapshot.now
    c.publish_turn.new.snapshot _ _ c.in_ok-records.records c.is_some.ensures
    c.in_ok-turn.ensures.foresees c.in_ok-records.ensures.published c.in_ok-records.ensures.synced
    published going

pub returns-in_err-turn-clause-takes : goal.returns-in_err-turn-clause-takes
returns-in_err-turn-clause-takes g c = λ run published going.
    let p = err_from_is_err_and c.from_residual.result c.from_residual.ensures.1 in
    rw (p.1, p.2) tt

pub returns-in_err-records-clause-takes : goal.returns-in_err-records-clause-takes
returns-in_err-records-clause-takes g c = λ run published going.
    let rule : Rules = rules_of c.args.rules in
    let p = err_from_is_err_and c.from_residual-in_err-records.result
    c.from_residual-in_err-records.ensures.1 in
    rw (p.1, p.2)
    (refused_by rule run c.args.event.now c.is_some.result c.args.place.now _
    c.args.snapshot.now c.publish_turn.new.snapshot _ _ _ c.is_some.ensures
    c.in_ok-turn.ensures.foresees c.in_err-records.ensures.published going)

pub returns-in_err-records-clause-refused : goal.returns-in_err-records-clause-refused
returns-in_err-records-clause-refused g c =
    let p = err_from_is_err_and c.from_residual-in_err-records.result
    c.from_residual-in_err-records.ensures.1 in
    rw p.1
    (unpublished set_eq jwt_records.Update listed c.args.rules.limits _ c.args.snapshot.now
    c.publish_turn.new.snapshot _ _ _ c.in_err-records.ensures.published)
