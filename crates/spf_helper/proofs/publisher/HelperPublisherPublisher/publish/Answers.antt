use Rattle.std.proofs.Common.{◌≡◌, ◌<◌, ◌+◌, ◌^◌, ◌||◌, ◌++◌, ◌∷◌, [], Some, map, ap, ◌∙◌, subst}
use Rattle.std.proofs.Common.{true}
use Rattle.std.proofs.Common.{arith}
use Rattle.std.proofs.lemmas.List.{map_push}
use Rattle.std.specs.Bool.{OnFalse}
use Rattle.spf_feed.specs.Steps.{plain}
use Rattle.spf_disk.specs.Crash.{LeavesOnly}
use Rattle.spf_disk.specs.Format.{entry_at}
use Rattle.spf_disk.specs.declared.generation.Entry.{Entry}
use Rattle.spf_disk.specs.Replacing.{IsBeforeOrAfter as IsOldOrNew}
use Rattle.spf_disk.proofs.Moments.{weaker}
use Rattle.spf_helper.specs.Generations.{entry_for}
use Rattle.spf_helper.specs.Helping.{Helping, IsBeforeOrAfter, IsStanding}
use Rattle.spf_helper.proofs.Ready.{ready_kept, found_either, on_false, unless, neither}
use Rattle.spf_helper.proofs.Ready.{stands}
use Rattle.spf_helper.proofs.publisher.HelperPublisherPublisher.publish.Goals as goal

pub invariant_of-self-in-Ok : goal.invariant_of-self-in-Ok
invariant_of-self-in-Ok g c =
    let p = c.self.inside in
    let s = plain c.args.step in
    let held = neither p.fault p.full _ c.if-self.false c.if-self-2.false c.self.invariant in
    let ready = held.1 in
    let is : entry_at c.as_slice.result.now ≡ Some (entry_for (p.base + p.acknowledged + 1) s) =
    ap entry_at c.as_slice.ensures.value ∙ c.in_ok-bytes.ensures.again
    ∙ ap (λ (e : Entry). Some e) c.in_ok-entry.ensures in
    let small : p.base + p.acknowledged + 1 < 2 ^ 64 =
    omega (arith, ready.small, c.if-number.false) in
    unless (p.fault || p.full) _ (
      c.in-Ok.ensures.durable,
      ready_kept p.base p.acknowledged (map plain p.steps.items) _ p.next c.other-self-inside.result
          p.next_is_open p.other_is_open (g.D.Disk.seen p.disk.now) _ c.as_slice.result.now s ready
          is small c.in-Ok.ensures.replaced
          (ap (map plain) c.in_ok-push-3.ensures.items ∙ map_push plain p.steps.items c.args.step)
          c.other-self-inside.ensures,
    )

pub returns-in-Ok-clause-any_moment : goal.returns-in-Ok-clause-any_moment
returns-in-Ok-clause-any_moment g c =
    let p = c.self.inside in
    let s = plain c.args.step in
    let held = neither p.fault p.full _ c.if-self.false c.if-self-2.false c.self.invariant in
    let is : entry_at c.as_slice.result.now ≡ Some (entry_for (p.base + p.acknowledged + 1) s) =
    ap entry_at c.as_slice.ensures.value ∙ c.in_ok-bytes.ensures.again
    ∙ ap (λ (e : Entry). Some e) c.in_ok-entry.ensures in
    subst (λ (v : Helping g.row.D.Denot). OnFalse (v.fault || v.full)
    (LeavesOnly g.D.Disk.moment g.D.Disk.left_since v.disk.now c.replace_entry.new.disk
    (IsBeforeOrAfter (g.D.Disk.seen v.disk.now) v.base (v.steps ++ s ∷ [])))) c.self.view_is
    (on_false (p.fault || p.full) _
    (weaker g.D.Disk.moment g.D.Disk.left_since p.disk.now c.replace_entry.new.disk
    (IsOldOrNew (g.D.Disk.seen p.disk.now) (entry_at c.as_slice.result.now)) _
    c.replace_entry.ensures.any_moment
    (λ image. found_either p.base p.acknowledged (map plain p.steps.items)
    (g.D.Disk.seen p.disk.now) image c.as_slice.result.now s held.1.count is)))

pub returns-clause-any_moment : goal.returns-clause-any_moment
returns-clause-any_moment g c =
    let p = c.self.inside in
    let s = plain c.args.step in
    let held = neither p.fault p.full _ c.if-self.false c.if-self-2.false c.self.invariant in
    let is : entry_at c.as_slice.result.now ≡ Some (entry_for (p.base + p.acknowledged + 1) s) =
    ap entry_at c.as_slice.ensures.value ∙ c.in_ok-bytes.ensures.again
    ∙ ap (λ (e : Entry). Some e) c.in_ok-entry.ensures in
    subst (λ (v : Helping g.row.D.Denot). OnFalse (v.fault || v.full)
    (LeavesOnly g.D.Disk.moment g.D.Disk.left_since v.disk.now c.replace_entry.new.disk
    (IsBeforeOrAfter (g.D.Disk.seen v.disk.now) v.base (v.steps ++ s ∷ [])))) c.self.view_is
    (on_false (p.fault || p.full) _
    (weaker g.D.Disk.moment g.D.Disk.left_since p.disk.now c.replace_entry.new.disk
    (IsOldOrNew (g.D.Disk.seen p.disk.now) (entry_at c.as_slice.result.now)) _
    c.replace_entry.ensures.any_moment
    (λ image. found_either p.base p.acknowledged (map plain p.steps.items)
    (g.D.Disk.seen p.disk.now) image c.as_slice.result.now s held.1.count is)))

pub returns-in_err-entry-clause-standing : goal.returns-in_err-entry-clause-standing
returns-in_err-entry-clause-standing g c =
    let p = c.self.inside in
    subst (λ (v : Helping g.row.D.Denot). OnFalse (v.fault || v.full)
    (IsStanding g.D.Disk.seen g.D.Disk.may_leave v)) c.self.view_is
    (stands g.D.Disk.seen g.D.Disk.may_leave p.disk p.base p.acknowledged (map plain p.steps.items)
    p.fault p.full p.next p.next_is_open p.other_is_open c.self.invariant)

pub returns-in_err-bytes-clause-standing : goal.returns-in_err-bytes-clause-standing
returns-in_err-bytes-clause-standing g c =
    let p = c.self.inside in
    subst (λ (v : Helping g.row.D.Denot). OnFalse (v.fault || v.full)
    (IsStanding g.D.Disk.seen g.D.Disk.may_leave v)) c.self.view_is
    (stands g.D.Disk.seen g.D.Disk.may_leave p.disk p.base p.acknowledged (map plain p.steps.items)
    p.fault p.full p.next p.next_is_open p.other_is_open c.self.invariant)

pub returns-in_err-push-3-clause-standing : goal.returns-in_err-push-3-clause-standing
returns-in_err-push-3-clause-standing g c =
    let p = c.self.inside in
    rw c.in_err-push-3.ensures.items
    (stands g.D.Disk.seen g.D.Disk.may_leave p.disk p.base p.acknowledged (map plain p.steps.items)
    p.fault p.full p.next p.next_is_open p.other_is_open c.self.invariant)

pub returns-in-Ok-clause-standing : goal.returns-in-Ok-clause-standing
returns-in-Ok-clause-standing g c =
    let p = c.self.inside in
    let s = plain c.args.step in
    let held = neither p.fault p.full _ c.if-self.false c.if-self-2.false c.self.invariant in
    let ready = held.1 in
    let is : entry_at c.as_slice.result.now ≡ Some (entry_for (p.base + p.acknowledged + 1) s) =
    ap entry_at c.as_slice.ensures.value ∙ c.in_ok-bytes.ensures.again
    ∙ ap (λ (e : Entry). Some e) c.in_ok-entry.ensures in
    let small : p.base + p.acknowledged + 1 < 2 ^ 64 =
    omega (arith, ready.small, c.if-number.false) in
    stands g.D.Disk.seen g.D.Disk.may_leave _ p.base (p.acknowledged + 1)
    (map plain c.push-2.new.self.items) p.fault p.full c.other-self-inside.result p.other_is_open
    true (unless (p.fault || p.full) _ (
      c.in-Ok.ensures.durable,
      ready_kept p.base p.acknowledged (map plain p.steps.items) _ p.next c.other-self-inside.result
          p.next_is_open p.other_is_open (g.D.Disk.seen p.disk.now) _ c.as_slice.result.now s ready
          is small c.in-Ok.ensures.replaced
          (ap (map plain) c.in_ok-push-3.ensures.items ∙ map_push plain p.steps.items c.args.step)
          c.other-self-inside.ensures,
    ))
