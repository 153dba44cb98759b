use Rattle.std.proofs.Common.{refl}
use Rattle.spf_watch.proofs.generated.make_parts.Goals as goal

pub returns : goal.returns
returns c = record {
  first = c.in_ok-make_workload.ensures 0 refl refl;
  second = c.in_ok-make_workload-2.ensures 1 refl refl;
  third = c.in_ok-make_workload-3.ensures 2 refl refl;
  intermediate = c.in_ok-intermediate.ensures;
  root_a = c.in_ok-root.ensures;
  root_b = c.in_ok-root-2.ensures;
  foreign_root = c.in_ok-root-3.ensures;
}
