use Rattle.std.proofs.Common.{◌-◌}
use Rattle.spf_api.specs.Reading.{counted}
use Rattle.spf_api.proofs.Counted.{Goes}
use Rattle.spf_disk.proofs.reader.read_list.Given as goal

abbrev pub invariant-members : goal.invariant-members
invariant-members g l =
    Goes g.M.ReadMember.member_at (l.count - l.counter) l.members.items l.rest
    (counted g.M.ReadMember.member_at l.count l.initial.rest)
