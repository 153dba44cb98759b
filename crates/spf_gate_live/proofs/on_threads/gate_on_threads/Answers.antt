use Rattle.std.proofs.Common.{◌≡◌, length, rules}
use Rattle.spf_gate_live.proofs.EndLemmas.{nine_of_other, not_nine}
use Rattle.spf_gate_live.proofs.on_threads.gate_on_threads.Goals as goal

pub returns : goal.returns
returns g c =
    let none : length c.args.arguments.now ≡ 0 = search rules in
    let served = c.serve_on_threads-end.ensures in
    let end = c.report-2.ensures in
    record {
      arguments = not_nine _ _ (nine_of_other _ c.serve_on_threads-end.result served.arguments
          end.status) none;
      untouched = λ some. absurd (some none);
      ended = record {
        end = c.serve_on_threads-end.result;
        runs = served.runs;
        cause = served.cause;
        status_is = end.status;
        reported = end.line;
      };
    }
