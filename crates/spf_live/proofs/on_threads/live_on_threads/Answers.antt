use Rattle.std.proofs.Common.{◌∙◌, ap, refl, sym}
use Rattle.spf_live.proofs.EndLemmas.{does_by, does_early}
use Rattle.spf_live.proofs.Failing.{prepare_fails_by, runs_fail}
use Rattle.spf_live.proofs.Following.{runs_unyielded}
use Rattle.spf_live.proofs.on_threads.live_on_threads.Goals as goal

pub returns-in-Err : goal.returns-in-Err
returns-in-Err g c = record {
  does = does_early _ _ _ _ _ _ _ c.in-Some.options _ _ _ _ _
      (sym c.in-Some.is ∙ c.live_options.ensures.setting) refl tt;
}

pub returns-in-Ok-start_on_thread : goal.returns-in-Ok-start_on_thread
returns-in-Ok-start_on_thread g c = record {
  does = does_by _ _ _ _ _ _ _ c.in-Some.options _ _ _ _ c.follow.result
      (sym c.in-Some.is ∙ c.live_options.ensures.setting)
      (runs_unyielded _ _ c.in-Some.options c.in-Ok.builder.settings c.in-Ok.builder.connector _ _ _
      (g.K.Sink.held c.args.out.now) (g.K.Sink.held c.follow.new.out)
      c.in-Ok-prepare.job c.started.result.job c.follow.result c.options.inside.lines
      c.in-Ok.ensures.settings c.in-Ok-prepare.ensures.assigned
      (c.started.ensures.0 ∙ c.in-Ok-start_on_thread.ensures) (ap (λ o. o.lines) c.options.view_is)
      c.follow.ensures.follows)
      (runs_fail _ c.in-Some.options _ _ _ _ _ c.follow.result (λ place. place)
      c.follow.ensures.cause);
}

pub returns-in-Err-start_on_thread : goal.returns-in-Err-start_on_thread
returns-in-Err-start_on_thread g c = record {
  does = does_early _ _ _ _ _ _ _ c.in-Some.options _ _ _ _ _
      (sym c.in-Some.is ∙ c.live_options.ensures.setting) refl tt;
}

pub returns-in-Err-prepare : goal.returns-in-Err-prepare
returns-in-Err-prepare g c = record {
  does = does_early _ _ _ _ _ _ _ c.in-Some.options _ _ _ _ c.error_of.result
      (sym c.in-Some.is ∙ c.live_options.ensures.setting) refl
      (prepare_fails_by _ c.in-Some.options c.in-Ok.builder.settings _ _ _ _ c.in-Err-prepare.e
      c.error_of.result c.error_of.ensures c.in-Ok.ensures.settings
      c.in-Err-prepare.ensures.failed);
}
