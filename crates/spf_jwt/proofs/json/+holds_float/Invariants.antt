use Rattle.std.proofs.Common.{◌≡◌, drop}
use Rattle.serde_json.specs.View.{items_view, members_view}
use Rattle.serde_json.specs.Written.{items_have_float, members_have_float}
use Rattle.spf_jwt.proofs.json.+holds_float.Given as goal

abbrev pub invariant-item_holds_float-loop-item : goal.invariant-item_holds_float-loop-item
invariant-item_holds_float-loop-item l =
    items_have_float (items_view (drop l.item-index l.item-items))
    ≡ items_have_float (items_view l.items.items)

abbrev pub invariant-member_holds_float-loop-member : goal.invariant-member_holds_float-loop-member
invariant-member_holds_float-loop-member l =
    items_have_float (items_view l.member-iterator)
    ≡ members_have_float (members_view l.members.entries)
