use Rattle.std.proofs.Common.{◌≡◌}
use Rattle.spf_feed.specs.Limits.{within_bundles}
use Rattle.spf_feed.proofs.limits.within_bundles.Given as goal

abbrev pub invariant-loop-bundle : goal.invariant-loop-bundle
invariant-loop-bundle l = within_bundles l.limit l.set ≡ within_bundles l.limit l.bundle-iterator
