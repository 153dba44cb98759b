use Rattle.std.proofs.Common.{◌≡◌, ◌-◌, ◌+◌, ◌<◌, sym, arith, rules}
use Rattle.spf_api.specs.Reading.{counted}
use Rattle.spf_api.specs.Claims.{claim_at, claim_value_at}
use Rattle.spf_api.proofs.Counted.{counted_more, counted_fails}
use Rattle.spf_api.proofs.ClaimLemmas.{value_opens}
use Rattle.spf_api.proofs.payload_validation.+claims.Goals as goal

pub claim_value-returns : goal.claim_value-returns
claim_value-returns t c =
    rw (sym (value_opens c.args.depth c.in-Some.inner c.args.bytes.now
    c.in-Some-split_first.kind.now c.in-Some-split_first.rest.now (search rules) (search rules)))
    c.claim_contents.ensures

pub claim_values-values-preserved : goal.claim_values-values-preserved
claim_values-values-preserved t c =
    let found = c.in-Some-2 in
    let left : c.in-Some.count - c.values.counter ≡ (c.in-Some.count - (c.values.counter + 1)) + 1 =
    omega arith in
    rw c.in_ok-push.ensures.items
    (counted_more (claim_value_at c.args.depth) (c.in-Some.count - c.values.counter)
    (c.in-Some.count - (c.values.counter + 1)) c.values.values.items
    c.values.rest.now (counted (claim_value_at c.args.depth) c.in-Some.count c.in-Some.rest.now)
    found.value found.after.now left (sym (rw found.is at c.in_ok-value.ensures))
    c.values.invariant)

pub claim_values-returns-in_default-2 : goal.claim_values-returns-in_default-2
claim_values-returns-in_default-2 t c =
    let some : 0 < c.in-Some.count - c.values.counter = omega arith in
    rw (← c.in-Some.ensures)
    (counted_fails (claim_value_at c.args.depth) (c.in-Some.count - c.values.counter)
    c.values.values.items c.values.rest.now
    (counted (claim_value_at c.args.depth) c.in-Some.count c.in-Some.rest.now) some
    (sym (rw c.in_default-2.is at c.in_ok-value.ensures)) c.values.invariant)

pub claims-claims-preserved : goal.claims-claims-preserved
claims-claims-preserved t c =
    let found = c.in-Some-2 in
    let left : c.in-Some.count - c.claims.counter ≡ (c.in-Some.count - (c.claims.counter + 1)) + 1 =
    omega arith in
    rw c.in_ok-push.ensures.items
    (counted_more (claim_at (claim_value_at c.args.depth)) (c.in-Some.count - c.claims.counter)
    (c.in-Some.count - (c.claims.counter + 1)) c.claims.claims.items
    c.claims.rest.now
    (counted (claim_at (claim_value_at c.args.depth)) c.in-Some.count c.in-Some.rest.now)
    found.claim found.after.now left (sym (rw found.is at c.in_ok-claim.ensures))
    c.claims.invariant)

pub claims-returns-in_default-2 : goal.claims-returns-in_default-2
claims-returns-in_default-2 t c =
    let some : 0 < c.in-Some.count - c.claims.counter = omega arith in
    rw (← c.in-Some.ensures)
    (counted_fails (claim_at (claim_value_at c.args.depth)) (c.in-Some.count - c.claims.counter)
    c.claims.claims.items c.claims.rest.now
    (counted (claim_at (claim_value_at c.args.depth)) c.in-Some.count c.in-Some.rest.now) some
    (sym (rw c.in_default-2.is at c.in_ok-claim.ensures)) c.claims.invariant)
