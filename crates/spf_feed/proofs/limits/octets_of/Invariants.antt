use Rattle.std.proofs.Common.{◌≡◌, take}
use Rattle.spf_feed.specs.Limits.{octets_in}
use Rattle.spf_feed.proofs.limits.octets_of.Given as goal

abbrev pub invariant-loop-field : goal.invariant-loop-field
invariant-loop-field l = l.total ≡ octets_in (take l.field-index l.fields)
