use Rattle.std.proofs.Common.{◌≡◌, ◌≤◌, ◌++◌, vec_len}
use Rattle.std.specs.List.{flat_map}
use Rattle.spf_jwt_feed.specs.Shown.{after_comma}
use Rattle.spf_jwt_feed.proofs.line.push_others.Given as goal

-- what is still to follow the line is what was to follow it at first
abbrev pub invariant-loop-key : goal.invariant-loop-key
invariant-loop-key l = record {
  text : l.initial.line.items ++ flat_map after_comma l.fn.keys
      ≡ l.line.items ++ flat_map after_comma l.key-iterator;
  grows : vec_len l.initial.line ≤ vec_len l.line;
}
