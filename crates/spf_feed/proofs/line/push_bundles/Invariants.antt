use Rattle.std.proofs.Common.{◌≡◌, ◌≤◌, ◌++◌, length}
use Rattle.std.specs.List.{flat_map}
use Rattle.spf_feed.specs.Shown.{entry_text}
use Rattle.spf_feed.specs.Sorted.{AreIndexed}
use Rattle.spf_feed.proofs.line.push_bundles.Given as goal

-- what is still to follow the line is what was to follow it at first
abbrev pub invariant-loop-domain : goal.invariant-loop-domain
invariant-loop-domain l = record {
  text : l.initial.line ++ flat_map entry_text l.set
      ≡ l.line ++ flat_map entry_text l.domain-iterator;
  indexed : AreIndexed l.domain-iterator l.left;
  grows : length l.initial.line ≤ length l.line;
}
