use Rattle.std.proofs.Common.{◌≡◌, ◌++◌}
use Rattle.spf_jwt.specs.Responses.{with_bundles}
use Rattle.spf_jwt.proofs.bundle_set.JwtBundleSet.extend.Given as goal

abbrev pub invariant-loop-bundle : goal.invariant-loop-bundle
invariant-loop-bundle l = record {
  added : l.self ≡ with_bundles l.fn.self l.yielded;
  left : l.yielded ++ l.bundle-iterator.rest.items ≡ l.fn.bundles.items;
}
