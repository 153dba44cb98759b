use Rattle.std.proofs.Common.{◌≡◌, ◌++◌, ◌∷◌, [], ◌∙◌, sym, false, List, All, Result, Ok, Err}
use Rattle.std.proofs.lemmas.List.Elements.{All-push, All-same}
use Rattle.std.specs.Bool.{if◌then◌else◌}
use Rattle.std.specs.Result.{is_ok, is_err}
use Rattle.left_right.specs.Sides.{view}
use Rattle.spf_board.specs.Board.{IsBoundTo}
use Rattle.spf_board.proofs.opening.seats.Goals as goal

all_pushed : {X E : Type 0} (P : X → Type 0) (r : Result (Unit {0}) E) (old new : List X) (x : X)
    → new ≡ (if is_ok r then old ++ x ∷ [] else old) → is_err r ≡ false → All P old → P x
    → All P new
all_pushed P (Ok t) old new x is ok all one =
    All-same P new (old ++ x ∷ []) is (All-push P old x all one)
all_pushed P (Err e) old new x is ok all one = absurd (cc)

pub loop-preserved : goal.loop-preserved
loop-preserved g c =
    let i = c.loop.invariant in
    let kept = c.seat.ensures.kept in record {
      seat = kept.0 ∙ i.seat;
      shown = kept.1 ∙ i.shown;
      log = kept.2 ∙ i.log;
      behind = kept.3 ∙ i.behind;
      bound = all_pushed (λ r. IsBoundTo (view r.place)
          c.args.writer.now.desk.shown.value.front.book) c.push.result c.loop.all.items
          c.push.new.self.items c.in_ok-reader.reader c.push.ensures.items
          (sym c.is_err.ensures.value ∙ c.if-is_err.false) i.bound
          (rw i.shown at c.in_ok-reader.ensures.bound);
    }
