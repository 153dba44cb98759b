use Rattle.std.proofs.Common.{◌≡◌, ◌≤◌, ◌++◌, vec_len}
use Rattle.std.specs.List.{flat_map}
use Rattle.spf_jwt_feed.specs.Shown.{entry_text}
use Rattle.spf_jwt_feed.proofs.line.push_bundles.Given as goal

-- what is still to follow the line is what was to follow it at first
abbrev pub invariant-loop-domain : goal.invariant-loop-domain
invariant-loop-domain l = record {
  text : l.initial.line.items ++ flat_map entry_text l.set
      ≡ l.line.items ++ flat_map entry_text l.domain-iterator;
  grows : vec_len l.initial.line ≤ vec_len l.line;
}
