use Rattle.std.proofs.Common.{Ok, sym, ap, ◌∙◌}
use Rattle.spf_client.specs.Connecting.{with_endpoint}
use Rattle.spf_client.proofs.connect.WorkloadApiClient+L+NoInterceptor.connect_keeping.Goals as goal

pub returns-in-Ok : goal.returns-in-Ok
returns-in-Ok g c = record {
  over = c.connect_over.result;
  connects = c.connect_over.ensures;
  kept = ap Ok c.with_endpoint.ensures ∙ sym (ap (with_endpoint c.args.endpoint) c.in-Ok.is);
}

pub returns-in-Err : goal.returns-in-Err
returns-in-Err g c = record {
  over = c.connect_over.result;
  connects = c.connect_over.ensures;
  kept = sym (ap (with_endpoint c.args.endpoint) c.in-Err.is);
}
