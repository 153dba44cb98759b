use Rattle.std.proofs.Common.{◌≤◌, ◌-◌}
use Rattle.std.specs.Prelude.{IsTrue, is_some}
use Rattle.spf_jwt_feed.specs.Steps.{HasStep}
use Rattle.spf_jwt_feed.proofs.Loop.{LoopAt}
use Rattle.spf_jwt_feed.proofs.following.follow_events.Given as goal

abbrev pub invariant-events : goal.invariant-events
invariant-events g l = record {
  bound : l.count ≤ l.max_frames;
  synced : IsTrue (is_some l.snapshot) → HasStep (g.P.JwtPublisher.steps l.publisher);
  reads : g.S.Source.failures l.initial.source ≤ g.S.Source.failures l.source;
  writes : g.K.Sink.failures l.initial.sink ≤ g.K.Sink.failures l.sink;
  session : LoopAt
      (record { limits = l.fn.limits; deadline = l.fn.deadline }) l.max_frames
      (record {
        left = g.S.Source.left l.initial.source;
        held = g.K.Sink.held l.initial.sink;
        steps = g.P.JwtPublisher.steps l.initial.publisher;
        records = g.M.JwtMetricsRecorder.records l.initial.recorder;
      })
      (record {
        left = g.S.Source.left l.source;
        held = g.K.Sink.held l.sink;
        steps = g.P.JwtPublisher.steps l.publisher;
        records = g.M.JwtMetricsRecorder.records l.recorder;
      })
      l.count l.snapshot l.phase l.line;
}

abbrev pub decreases-events : goal.decreases-events
decreases-events g l = l.max_frames - l.count
