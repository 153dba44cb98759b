use Rattle.std.proofs.Common.{◌≡◌, false, None, Some, refl, ap, subst}
use mathlib.Core.Logic.{⊎_elim}
use Rattle.spf_view.specs.Views.{Passed}
use Rattle.spf_feed.specs.declared.record.MetricsErrorKind.TheVariants as kinds
use Rattle.spf_feed.specs.Run.{ended, client_rejected}
use Rattle.spf_feed.specs.Turns.{IsTurn}
use Rattle.spf_feed.proofs.TurnLemmas.{client_refusal_of_status}
use Rattle.spf_feed.proofs.turn.failure_turn.Goals as goal

pub returns-then-synced-clause-turn : goal.returns-then-synced-clause-turn
returns-then-synced-clause-turn c = rw c.if-synced.true (refl, refl, c.ended.ensures)

pub returns-in-Status-clause-may : goal.returns-in-Status-clause-may
returns-in-Status-clause-may c = rw c.if-synced.false c.initial_failure_turn.ensures.may

pub returns-in-Status-clause-turn : goal.returns-in-Status-clause-turn
returns-in-Status-clause-turn c =
    rw (c.in-Status.is, c.if-synced.false)
    (subst (λ r.
    IsTurn r Passed (ended false (Some kinds.ClientCreation)) c.initial_failure_turn.result)
    (client_refusal_of_status c.in-Status.status)
    (rw c.from_status.ensures at c.initial_failure_turn.ensures.turn))

pub returns : goal.returns
returns c =
    let none : client_rejected c.args.fault ≡ None =
    ⊎_elim (λ p. ap client_rejected p.1) (λ p. ap client_rejected p) c.in-Unreachable.is in
    record {
      may = λ limits. tt;
      turn = rw c.if-synced.false (none, refl, c.ended-in-Unreachable.ensures);
    }
