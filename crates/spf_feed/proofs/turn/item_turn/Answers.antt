use Rattle.std.proofs.Common.{refl}
use Rattle.spf_feed.proofs.turn.item_turn.Goals as goal

pub returns-in-Err-clause-turn : goal.returns-in-Err-clause-turn
returns-in-Err-clause-turn g c = rw (← c.in-Err.ensures) (refl, refl, c.over.ensures)
