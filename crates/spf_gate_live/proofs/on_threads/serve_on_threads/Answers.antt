use Rattle.std.proofs.Common.{◌∙◌, refl, Err, Ok, None}
use Rattle.spf_feed.specs.contracts.picker.HintPickerSvidPicker.TheImpl as picks
use Rattle.spf_feed.specs.declared.picker.HintPicker.{HintPicker}
use Rattle.spf_gate_live.specs.declared.live_error.LiveGateError.TheVariants as errors
use Rattle.spf_gate_live.proofs.Causes.{prepare_fails, served_fails, unbuilt}
use Rattle.spf_gate_live.proofs.Defaults.{default_with}
use Rattle.spf_gate_live.proofs.EndLemmas.{nine_of_end, nine_of_error, nine_of_refusal, no_refusal}
use Rattle.spf_gate_live.proofs.Served.{answered, unyielded}
use Rattle.spf_gate_live.proofs.on_threads.serve_on_threads.Goals as goal

pub returns-in-Ok-start_on_thread : goal.returns-in-Ok-start_on_thread
returns-in-Ok-start_on_thread g c =
    let set = c.optional_picker-builder.result.settings in
    let others = c.optional_picker-builder.ensures.others in
    let default = default_with c.new-2.result.settings set c.new-2.ensures.settings
    c.optional_picker-builder.ensures.picker others.2 others.3 others.4 others.5 others.6 in
    record {
      runs = unyielded _ _ _ _ _ _ c.end_of.result
          (answered _ _ set c.optional_picker-builder.result.connector
          c.optional_picker-builder.result.connector _ _ c.in-Ok.job
          c.started.result.job _ _ _ _ c.in-Ok.pass c.gate_serve-served.new.pass
          c.into_record-record.new.pass.seen c.gate_serve-served.result
          c.close_and_join-done.result c.into_record-record.result
          c.is_ok-is_recorded.result c.end_of.result
          refl default c.in-Ok.ensures.assigned
          (c.started.ensures.0 ∙ c.in-Ok-start_on_thread.ensures)
          c.gate_serve-served.ensures.serves c.gate_serve-served.ensures.cut
          c.into_record-record.ensures.seen c.close_and_join-done.ensures
          c.into_record-record.ensures.record c.into_record-record.ensures.kept
          c.into_record-record.ensures.settled c.is_ok-is_recorded.ensures.value c.end_of.ensures);
      cause = served_fails _ _ _ _ _ _ _ _ _ c.gate_serve-served.result c.is_ok-is_recorded.result
          c.end_of.result c.end_of.ensures c.gate_serve-served.ensures.cause;
      arguments = no_refusal c.end_of.result (nine_of_end _ c.gate_serve-served.result
          c.is_ok-is_recorded.result c.end_of.result c.end_of.ensures refl);
    }

pub returns-in-Err-start_on_thread : goal.returns-in-Err-start_on_thread
returns-in-Err-start_on_thread g c = record {
  runs = (refl, refl);
  cause = tt;
  arguments = no_refusal (Err errors.NoSupervisor) (nine_of_refusal _ refl);
}

pub returns-in-Err : goal.returns-in-Err
returns-in-Err g c =
    let set = c.optional_picker-builder.result.settings in
    let others = c.optional_picker-builder.ensures.others in
    let default = default_with c.new-2.result.settings set c.new-2.ensures.settings
    c.optional_picker-builder.ensures.picker others.2 others.3 others.4 others.5 others.6 in
    record {
      runs = unbuilt {K = HintPicker} None (picks.picks-value).it
          (g.I.Source.left c.args.input.now) _ (g.K.Sink.held c.args.out.now) _ c.in-Err.error
          c.error_of.result c.error_of.ensures refl refl;
      cause = prepare_fails None _ set (Ok tt) _ _ _ _ _ _ _ c.in-Err.error c.error_of.result refl
          refl c.error_of.ensures default (λ refused. tt) c.in-Err.ensures.failed;
      arguments = no_refusal (Err c.error_of.result) (nine_of_error _ c.in-Err.error
          c.error_of.result c.error_of.ensures refl);
    }
