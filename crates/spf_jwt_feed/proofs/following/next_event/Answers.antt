use Rattle.std.proofs.Common.{refl, sym, ap, ◌∙◌}
use Rattle.std.proofs.lemmas.Result.{err_from_is_err_and}
use Rattle.spf_feed.specs.Frames.{allows}
use Rattle.spf_jwt_feed.specs.Items.{item_in, response_at}
use Rattle.spf_jwt_feed.specs.Run.{stream}
use Rattle.spf_feed.proofs.EventLemmas.{event_unread, read_event, read_nothing, read_stopped}
use Rattle.spf_jwt_feed.proofs.following.next_event.Goals as goal

pub returns-in-None-clause-bytes : goal.returns-in-None-clause-bytes
returns-in-None-clause-bytes g c =
    let read = rw c.in-None.is at c.in_ok-kind.ensures.bytes in
    λ rules past asks. read

pub returns-in-Ok-Some-clause-bytes : goal.returns-in-Ok-Some-clause-bytes
returns-in-Ok-Some-clause-bytes g c =
    let read = rw c.in-Some.is at c.in_ok-kind.ensures.bytes in
    λ rules past asks.
    read_event item_in response_at (stream rules) past _ _ _ _ _ _ _ _ refl (ap allows asks) read
    c.as_slice.ensures
    (sym c.in-Ok-Some.field-0-is ∙ c.in-Ok-Some.ensures)

pub returns-in-Ok-None-clause-bytes : goal.returns-in-Ok-None-clause-bytes
returns-in-Ok-None-clause-bytes g c =
    let read = rw c.in-Some.is at c.in_ok-kind.ensures.bytes in
    λ rules past asks.
    read_nothing item_in response_at (stream rules) past _ _ _ _ _ _ _ refl (ap allows asks) read
    c.as_slice.ensures
    (sym c.in-Ok-None.field-0-is ∙ c.in-Ok-None.ensures)

pub returns-in_err-kind-clause-bytes : goal.returns-in_err-kind-clause-bytes
returns-in_err-kind-clause-bytes g c =
    let p = err_from_is_err_and c.from_residual.result c.from_residual.ensures.1 in
    λ rules past asks.
    rw (p.1, p.2)
    (event_unread (stream rules) past _ _ _ _ c.in_err-kind.field-0.0 (ap allows asks)
    c.in_err-kind.ensures.bytes)

pub returns-in-Err-clause-bytes : goal.returns-in-Err-clause-bytes
returns-in-Err-clause-bytes g c =
    let read = rw c.in-Some.is at c.in_ok-kind.ensures.bytes in
    λ rules past asks. read_stopped (stream rules) past _ _ _ _ _ _ (ap allows asks) read
