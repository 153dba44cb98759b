use Rattle.std.proofs.Common.{◌∙◌, ap, refl, sym}
use Rattle.spf_feeder.specs.Opened.{meeting}
use Rattle.spf_live.proofs.EndLemmas.{does_by, does_early}
use Rattle.spf_io.proofs.Counts.{Rose-after}
use Rattle.spf_live.proofs.Failing.{ends_fail, prepare_fails_so, runs_fail}
use Rattle.spf_live.proofs.Following.{followed, runs_yielded}
use Rattle.spf_live.proofs.live.live.Goals as goal

pub returns-in-Err : goal.returns-in-Err
returns-in-Err g c = record {
  does = does_early _ _ _ _ _ _ _ c.in-Some.options _ _ _ _ _
      (sym c.in-Some.is ∙ c.live_options.ensures.setting) refl tt;
}

pub returns-in-Err-start : goal.returns-in-Err-start
returns-in-Err-start g c = record {
  does = does_early _ _ _ _ _ _ _ c.in-Some.options _ _ _ _ _
      (sym c.in-Some.is ∙ c.live_options.ensures.setting) refl c.in-Err-start.ensures.1;
}

pub returns-in-Err-prepare : goal.returns-in-Err-prepare
returns-in-Err-prepare g c = record {
  does = does_early _ _ _ _ _ _ _ c.in-Some.options _ _ _ _ c.error_of.result
      (sym c.in-Some.is ∙ c.live_options.ensures.setting) refl
      (prepare_fails_so _ c.in-Some.options c.in-Ok.builder.settings _ _ _ _ _ _ _
      c.in-Err-prepare.e c.error_of.result (ap (λ made.
      meeting (g.C.Connector.validates made) (g.C.Connector.members made)
      (g.T.Clock.moments c.args.clock.now) (g.T.Clock.moments c.prepare.new.clock))
      c.in-Ok.ensures.connector)
      c.error_of.ensures c.in-Ok.ensures.settings (λ refused. refused)
      c.in-Err-prepare.ensures.failed);
}

pub returns-in-Ok-start : goal.returns-in-Ok-start
returns-in-Ok-start g c = record {
  does = does_by _ _ _ _ _ _ _ c.in-Some.options _ _ _ _ c.end_of.result
      (sym c.in-Some.is ∙ c.live_options.ensures.setting)
      (runs_yielded _ _ c.in-Some.options c.in-Ok.builder.settings c.args.connector
      c.in-Ok.builder.connector _ _ _ _ _ c.in-Ok-prepare.job c.started.result.job
      c.end_of.result c.options.inside.lines c.in-Ok.ensures.connector
      c.in-Ok.ensures.settings c.in-Ok-prepare.ensures.assigned
      (c.started.ensures.0 ∙ c.in-Ok-start.ensures.1)
      (ap (λ o. o.lines) c.options.view_is)
      (followed _ _ c.started.result.job c.options.inside.lines _ _ _ _
      c.print_source-pass.result.1 c.print_source-pass.result.0.seen
      c.into_record-record.new.pass.seen c.into_record-record.result c.is_ok-is_recorded.result
      c.end_of.result c.close_and_join-done.result c.print_source-pass.ensures.prints
      c.into_record-record.ensures.seen c.close_and_join-done.ensures
      c.into_record-record.ensures.record c.into_record-record.ensures.kept
      c.into_record-record.ensures.settled c.is_ok-is_recorded.ensures.value c.end_of.ensures))
      (runs_fail _ c.in-Some.options _ _ _ _ _ c.end_of.result
      (Rose-after _ _ _ c.in-Ok-prepare.ensures.places)
      (ends_fail _ _ c.print_source-pass.result.1 c.is_ok-is_recorded.result c.end_of.result
      c.end_of.ensures c.print_source-pass.ensures.cause));
}
