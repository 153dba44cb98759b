use Rattle.std.proofs.Common.{◌≡◌, ◌==◌, length, true, false, rules}
use Rattle.spf_jwt_feed.proofs.Received.{item_empty, item_given}
use Rattle.spf_jwt_source.proofs.received.item_of.Goals as goal

pub returns-then-is_empty : goal.returns-then-is_empty
returns-then-is_empty c =
    let none : (length c.args.response.now.bundles == 0) ≡ true = search rules in
    item_empty c.args.response.now none

pub returns : goal.returns
returns c =
    let some : (length c.args.response.now.bundles == 0) ≡ false = search rules in
    item_given c.args.response.now c.jwt_bundle_set_from.result c.received.result some
    c.jwt_bundle_set_from.ensures c.received.ensures
