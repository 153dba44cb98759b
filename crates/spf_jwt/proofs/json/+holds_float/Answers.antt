use Rattle.spf_jwt.proofs.Floats.{of_values}
use Rattle.spf_jwt.proofs.json.+holds_float.Goals as goal

pub member_holds_float-loop-member-init : goal.member_holds_float-loop-member-init
member_holds_float-loop-member-init t c =
    rw (
      c.into_iter-member-iterator.ensures.into_iter_gives,
      c.values-member-items.ensures.rest,
    ) (of_values c.args.members.now.entries)
