use Rattle.std.proofs.Common.{◌≤◌, ◌-◌}
use Rattle.std.specs.Prelude.{IsTrue, is_some}
use Rattle.std.specs.Option.{option_map}
use Rattle.spf_feed.specs.Items.{rules_with}
use Rattle.spf_feed.specs.Steps.{HasStep}
use Rattle.spf_feed.proofs.Loop.{LoopAt}
use Rattle.spf_feed.proofs.following.follow_events.Given as goal

abbrev pub invariant-events : goal.invariant-events
invariant-events g l = record {
  bound : l.count ≤ l.max_frames;
  synced : IsTrue (is_some l.snapshot) → HasStep (g.P.Publisher.steps l.publisher);
  reads : g.S.Source.failures l.initial.source ≤ g.S.Source.failures l.source;
  writes : g.K.Sink.failures l.initial.sink ≤ g.K.Sink.failures l.sink;
  session : LoopAt
      (rules_with l.fn.rules.limits l.fn.rules.deadline l.fn.rules.ready
      (option_map (λ p. g.C.SvidPicker.picks p.now) l.fn.picker)) l.max_frames
      (record {
        left = g.S.Source.left l.initial.source;
        held = g.K.Sink.held l.initial.sink;
        steps = g.P.Publisher.steps l.initial.publisher;
        records = g.M.MetricsRecorder.records l.initial.recorder;
      })
      (record {
        left = g.S.Source.left l.source;
        held = g.K.Sink.held l.sink;
        steps = g.P.Publisher.steps l.publisher;
        records = g.M.MetricsRecorder.records l.recorder;
      })
      l.count l.snapshot l.now l.phase l.line;
}

abbrev pub decreases-events : goal.decreases-events
decreases-events g l = l.max_frames - l.count
