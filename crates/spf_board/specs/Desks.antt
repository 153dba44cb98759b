-- What a writer holds between two calls.
use Rattle.std.specs.Prelude.{◌≡◌, List, [], Option, IfSome}
use Rattle.spf_board.specs.Lists.{steps_of, IsBoardList}
use Rattle.spf_board.specs.Past.{Past, past}
use Rattle.spf_board.specs.declared.rule.Place.{Place}
use Rattle.spf_board.specs.Board.{IsBoundTo}

-- Where there is a scribe, nothing waits to be published, and what it has written is what is
-- posted. What is posted is a board list with the snapshot that its steps replay to.
pub record IsRested {S X P : Type 0} (legal : List S → Type 0) (replays : List S → X → Type 0)
    (pending : List P) (v : Place) (shown : X) (front : Past S) (scribe : Option (Past S))
    : Type 0 where
  pub none : IfSome scribe (λ written. pending ≡ [])
  pub written : IfSome scribe (λ written. front ≡ written)
  pub stands : replays (steps_of front.list) shown
  pub bound : IsBoundTo v front.book
  pub board : IsBoardList legal front.list

abbrev pub no_past : {S : Type 0} → Past S
no_past = past (record { number = 0; log_name = 0; cells_name = 0 }) []
