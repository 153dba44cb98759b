use Rattle.std.proofs.Common.{◌≡◌}
use Rattle.spf_jwt.specs.Limits.{within_bundles}
use Rattle.spf_jwt.proofs.limits.within_bundles.Given as goal

abbrev pub invariant-loop-bundle : goal.invariant-loop-bundle
invariant-loop-bundle l = within_bundles l.limit l.set ≡ within_bundles l.limit l.bundle-iterator
