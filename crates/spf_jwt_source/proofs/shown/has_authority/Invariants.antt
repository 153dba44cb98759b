use Rattle.std.proofs.Common.{◌≡◌}
use Rattle.spf_jwt_feed.specs.States.{has_authority}
use Rattle.spf_jwt_source.proofs.shown.has_authority.Given as goal

abbrev pub invariant-loop-bundle : goal.invariant-loop-bundle
invariant-loop-bundle l = has_authority l.set ≡ has_authority l.bundle-iterator
