use Rattle.spf_jwt_feed.proofs.TextLemmas.{event_exactly}
use Rattle.spf_jwt_feed.proofs.laws.events_exactly.Goals as goal

pub returns : goal.returns
returns c = λ kind payload e are. event_exactly kind payload e are
