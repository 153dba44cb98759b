use Rattle.std.proofs.Common.{List, ℕ, subst}
use Rattle.std.specs.Ordering.{nat_cmp}
use Rattle.std.specs.Cmp.Lexicographic.{slice_cmp}
use Rattle.std.specs.List.Sorted.{IsStrictlySortedBy}
use Rattle.spf_jwt.proofs.Entries.{plain_keys}
use Rattle.spf_jwt.proofs.bundle_set.JwtBundleSet.iter.Goals as goal

pub returns-clause-order : goal.returns-clause-order
returns-clause-order c =
    let P : List (List ℕ) → Type 0 = λ ks. IsStrictlySortedBy (slice_cmp nat_cmp) ks in
    rw (← c.self.view_is)
    (subst P (plain_keys c.self.inside.bundles.entries) c.iter.ensures.ordered)
