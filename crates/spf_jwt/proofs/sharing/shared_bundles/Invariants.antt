use Rattle.std.proofs.Common.{◌≡◌, ◌++◌}
use Rattle.spf_jwt.proofs.Shared.{Added}
use Rattle.spf_jwt.proofs.sharing.shared_bundles.Given as goal

abbrev pub invariant-loop-entry : goal.invariant-loop-entry
invariant-loop-entry l = record {
  so_far : Added l.yielded l.set;
  left : l.yielded ++ l.entry-iterator.rest.items ≡ l.fn.entries.items;
}
