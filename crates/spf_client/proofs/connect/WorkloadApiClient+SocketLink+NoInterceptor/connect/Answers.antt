use Rattle.std.proofs.Common.{inr}
use Rattle.spf_client.proofs.connect.WorkloadApiClient+SocketLink+NoInterceptor.connect.Goals as goal

pub returns : goal.returns
returns g c = inr (record {
  made = c.to-connector.result;
  valid = c.to-connector.ensures.validates;
  left = c.connect_keeping.new.connector;
  connects = c.connect_keeping.ensures;
})
