use Rattle.spf_jwt_feed.proofs.Received.{item_takes, item_again}
use Rattle.spf_jwt_feed.proofs.laws.items_exactly.Goals as goal

pub returns : goal.returns
returns c = λ bytes r are. (item_takes bytes r are, item_again bytes r)
