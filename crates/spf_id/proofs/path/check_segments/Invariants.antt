use Rattle.std.proofs.Common.{◌≡◌, length}
use Rattle.std.specs.List.{slice_split}
use Rattle.spf_id.specs.Rule.{is_slash, segments_rule}
use Rattle.spf_id.proofs.path.check_segments.Given as goal

abbrev pub invariant-loop-after : goal.invariant-loop-after
invariant-loop-after l =
    segments_rule (slice_split is_slash l.rest) ≡ segments_rule (slice_split is_slash l.segments)

abbrev pub decreases-loop-after : goal.decreases-loop-after
decreases-loop-after l = length l.rest
