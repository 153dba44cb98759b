use Rattle.std.proofs.Common.{◌-◌, ◌+◌, ◌≡◌, ◌<◌, sym, arith}
use Rattle.spf_api.specs.Reading.{counted}
use Rattle.spf_api.proofs.Counted.{counted_more, counted_fails}
use Rattle.spf_disk.proofs.reader.read_list.Goals as goal

pub returns-in_default-2 : goal.returns-in_default-2
returns-in_default-2 g c =
    let some : 0 < c.in-Some.count - c.members.counter = omega arith in
    let none = rw c.in_default-2.is at c.in_ok-member.ensures in
    rw (← c.in-Some.ensures)
    (counted_fails g.M.ReadMember.member_at (c.in-Some.count - c.members.counter)
    c.members.members.items c.members.rest.now
    (counted g.M.ReadMember.member_at c.in-Some.count c.in-Some.rest.now) some
    (sym {b = g.M.ReadMember.member_at c.members.rest.now} none) c.members.invariant)

pub members-preserved : goal.members-preserved
members-preserved g c =
    let left : c.in-Some.count - c.members.counter
    ≡ (c.in-Some.count - (c.members.counter + 1)) + 1 = omega arith in
    let found = rw c.in-Some-2.is at c.in_ok-member.ensures in
    rw c.in_ok-push.ensures.items
    (counted_more g.M.ReadMember.member_at (c.in-Some.count - c.members.counter)
    (c.in-Some.count - (c.members.counter + 1)) c.members.members.items c.members.rest.now
    (counted g.M.ReadMember.member_at c.in-Some.count c.in-Some.rest.now) c.in-Some-2.member
    c.in-Some-2.after.now left
    (sym {b = g.M.ReadMember.member_at c.members.rest.now} found) c.members.invariant)
