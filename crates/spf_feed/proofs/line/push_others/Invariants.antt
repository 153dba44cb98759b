use Rattle.std.proofs.Common.{◌≡◌, ◌≤◌, ◌++◌, take, length}
use Rattle.std.specs.List.{flat_map}
use Rattle.spf_feed.specs.Lines.{after_comma}
use Rattle.spf_feed.proofs.line.push_others.Given as goal

abbrev pub invariant-loop-item : goal.invariant-loop-item
invariant-loop-item g l = record {
  text : l.line
      ≡ l.initial.line
      ++ flat_map (λ x. after_comma (g.T.Octets.shown x)) (take l.item-index l.items);
  grows : length l.initial.line ≤ length l.line;
}
