use Rattle.spf_jwt_feed.proofs.Received.{none_is, key_sets_read, item_is}
use Rattle.spf_jwt_feed.proofs.payload.item_in.Goals as goal

pub returns-in_default : goal.returns-in_default
returns-in_default c =
    none_is c.args.bytes.now (rw c.in_default.is at c.in_ok-response.ensures.exact)

pub key_sets-requires : goal.key_sets-requires
key_sets-requires c =
    key_sets_read c.args.bytes.now c.in-Some.response
    (rw c.in-Some.is at c.in_ok-response.ensures.exact)

pub returns : goal.returns
returns c =
    item_is c.args.bytes.now c.in-Some.response c.key_sets.result c.in_ok-item.item
    (rw c.in-Some.is at c.in_ok-response.ensures.exact) c.key_sets.ensures c.in_ok-item.ensures
