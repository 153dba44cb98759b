use Rattle.std.proofs.Common.{◌≡◌, ◌∙◌, refl, ap, Err, rules}
use Rattle.std.proofs.Common.{length}
use Rattle.spf_feed.specs.contracts.picker.NoPickerSvidPicker.TheImpl as picks
use Rattle.spf_feed.specs.declared.picker.NoPicker.{NoPicker}
use Rattle.spf_gate_live.specs.declared.live_error.LiveGateError.TheVariants as errors
use Rattle.spf_gate_live.proofs.Causes.{prepare_fails, served_fails, unbuilt}
use Rattle.spf_gate_live.proofs.EndLemmas.{nine_of_end, nine_of_error, nine_of_refusal, not_nine}
use Rattle.spf_gate_live.proofs.Served.{answered}
use Rattle.spf_gate_live.proofs.live.gate_live.Goals as goal

pub returns-in-Ok-start : goal.returns-in-Ok-start
returns-in-Ok-start g c =
    let set = c.new-builder.result.settings in
    let default = c.new-builder.ensures.settings in
    let none : length c.args.arguments.now ≡ 0 = search rules in
    let end = c.report-in-Ok-start.ensures in
    record {
      arguments = not_nine _ _ (nine_of_end _ c.gate_serve-served.result c.is_ok-is_recorded.result
          c.end_of.result c.end_of.ensures end.status) none;
      untouched = λ some. absurd (some none);
      ended = record {
        end = c.end_of.result;
        runs = answered _ _ set c.args.connector c.new-builder.result.connector _ _ c.in-Ok.job
            c.started.result.job _ _ _ _ c.in-Ok.pass c.gate_serve-served.new.pass
            c.into_record-record.new.pass.seen c.gate_serve-served.result
            c.close_and_join-done.result c.into_record-record.result
            c.is_ok-is_recorded.result c.end_of.result
            c.new-builder.ensures.connector default c.in-Ok.ensures.assigned
            (c.started.ensures.0 ∙ c.in-Ok-start.ensures.1) c.gate_serve-served.ensures.serves
            c.gate_serve-served.ensures.cut c.into_record-record.ensures.seen
            c.close_and_join-done.ensures c.into_record-record.ensures.record
            c.into_record-record.ensures.kept c.into_record-record.ensures.settled
            c.is_ok-is_recorded.ensures.value c.end_of.ensures;
        cause = served_fails _ _ _ _ _ _ _ _ _ c.gate_serve-served.result c.is_ok-is_recorded.result
            c.end_of.result c.end_of.ensures c.gate_serve-served.ensures.cause;
        status_is = end.status;
        reported = end.line;
      };
    }

pub returns-in-Err-start : goal.returns-in-Err-start
returns-in-Err-start g c =
    let none : length c.args.arguments.now ≡ 0 = search rules in
    let end = c.report-in-Err-start.ensures in
    record {
      arguments = not_nine _ _ (nine_of_refusal _ end.status) none;
      untouched = λ some. absurd (some none);
      ended = record {
        end = Err errors.NoSupervisor;
        runs = (refl, refl);
        cause = c.in-Err-start.ensures.1;
        status_is = end.status;
        reported = end.line;
      };
    }

pub returns-in-Err : goal.returns-in-Err
returns-in-Err g c =
    let set = c.new-builder.result.settings in
    let default = c.new-builder.ensures.settings in
    let none : length c.args.arguments.now ≡ 0 = search rules in
    let end = c.report-in-Err.ensures in
    record {
      arguments = not_nine _ _ (nine_of_error _ c.in-Err.error c.error_of.result c.error_of.ensures
          end.status) none;
      untouched = λ some. absurd (some none);
      ended = record {
        end = Err c.error_of.result;
        runs = unbuilt {K = NoPicker} (g.C.Connector.members c.args.connector)
            (picks.picks-value).it (g.I.Source.left c.args.input.now) _
            (g.K.Sink.held c.args.out.now) _ c.in-Err.error c.error_of.result c.error_of.ensures
            refl refl;
        cause = prepare_fails _ _ set _ _ _ _ _ _ _ _ c.in-Err.error c.error_of.result
            (ap g.C.Connector.members c.new-builder.ensures.connector)
            (ap g.C.Connector.validates c.new-builder.ensures.connector) c.error_of.ensures default
            (λ refused. refused) c.in-Err.ensures.failed;
        status_is = end.status;
        reported = end.line;
      };
    }
