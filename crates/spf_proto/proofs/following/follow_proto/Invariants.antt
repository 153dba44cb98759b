use Rattle.std.proofs.Common.{None}
use Rattle.std.specs.Option.{option_map}
use Rattle.spf_feed.specs.Items.{rules_with}
use Rattle.spf_proto.proofs.following.follow_proto.Given as goal

abbrev pub ghosts-follow_lent : goal.ghosts-follow_lent
ghosts-follow_lent g a = record {
  begin = record {
    loan = a.source.ghost_name;
    left = g.S.Source.left a.source.now;
    failures = g.S.Source.failures a.source.now;
    rules = rules_with a.acceptance.limits None a.acceptance.ready
        (option_map (λ p. g.C.SvidPicker.picks p.now) a.picker);
    start = a.acceptance.start;
    max = a.max_messages;
  };
}
