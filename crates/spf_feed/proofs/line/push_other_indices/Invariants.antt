use Rattle.std.proofs.Common.{◌≡◌, ◌≤◌, ◌++◌, take, length}
use Rattle.std.specs.List.{flat_map}
use Rattle.spf_feed.specs.Lines.{after_comma, shown_at}
use Rattle.spf_feed.proofs.line.push_other_indices.Given as goal

abbrev pub invariant-loop-index : goal.invariant-loop-index
invariant-loop-index g l = record {
  text : l.line
      ≡ l.initial.line
      ++ flat_map (λ p. after_comma (shown_at g.T.Octets.shown l.items p))
      (take l.index-index l.indices);
  grows : length l.initial.line ≤ length l.line;
}
