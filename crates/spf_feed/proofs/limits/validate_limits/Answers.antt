use Rattle.std.proofs.lemmas.List.{length-map}
use Rattle.std.proofs.lemmas.Result.{err_from_is_err_and}
use Rattle.spf_feed.specs.Limits.{within}
use Rattle.spf_feed.proofs.limits.validate_limits.Goals as goal

pub returns-in_err-within : goal.returns-in_err-within
unfolding within
returns-in_err-within c =
    let p = err_from_is_err_and c.from_residual.result c.from_residual.ensures.1 in
    rw (p.1, p.2, ← c.svids.ensures, length-map, ← c.in_err-within.ensures)

pub returns-in_err-within-2 : goal.returns-in_err-within-2
unfolding within
returns-in_err-within-2 c =
    let r = c.from_residual-in_err-within-2 in
    let p = err_from_is_err_and r.result r.ensures.1 in
    rw (
      p.1,
      p.2,
      ← c.svids.ensures,
      length-map,
      ← c.in_ok-within.ensures,
      ← c.bundle_set-bundles.ensures,
      ← c.deref.ensures,
      ← c.len.ensures,
      ← c.in_err-within-2.ensures,
    )

pub returns-in_err-within_bundles : goal.returns-in_err-within_bundles
unfolding within
returns-in_err-within_bundles c =
    let r = c.from_residual-in_err-within_bundles in
    let p = err_from_is_err_and r.result r.ensures.1 in
    let second = rw (c.len.ensures, c.deref.ensures) at c.in_ok-within-2.ensures in
    let third = rw c.deref-2.ensures at c.in_err-within_bundles.ensures in
    rw (
      p.1,
      p.2,
      ← c.svids.ensures,
      length-map,
      ← c.in_ok-within.ensures,
      ← c.bundle_set-bundles.ensures,
      ← second,
      ← third,
    )

pub returns : goal.returns
unfolding within
returns c =
    let second = rw (c.len.ensures, c.deref.ensures) at c.in_ok-within-2.ensures in
    let third = rw c.deref-2.ensures at c.in_ok-within_bundles.ensures in
    rw (
      ← c.svids.ensures,
      length-map,
      ← c.in_ok-within.ensures,
      ← c.bundle_set-bundles.ensures,
      ← second,
      ← third,
      ← c.crls.ensures,
      ← c.octets_of.ensures,
    )
    c.within-3.ensures
