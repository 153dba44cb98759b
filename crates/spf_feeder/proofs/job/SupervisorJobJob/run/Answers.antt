use Rattle.std.proofs.Common.{ap, ◌∙◌, sym, subst, reverse}
use Rattle.std.specs.Prelude.{IfSome}
use Rattle.spf_feeder.specs.Orderly.{GoesOn, IsSyncedOf}
use Rattle.spf_feeder.specs.Pacing.{KeepsPaceOf}
use Rattle.spf_feeder.proofs.FeedLemmas.{synced_after}
use Rattle.spf_board.specs.Lists.{steps_of as board_steps}
use Rattle.spf_feeder.specs.Records.{IsOfBy, IsPublishedBy}
use Rattle.spf_feeder.proofs.Leaving.{same_board}
use Rattle.spf_feeder.proofs.Recording.{left_unyielded, recorded_of_job, went_of_job}
use Rattle.spf_feeder.proofs.job.SupervisorJobJob.run.Goals.{in-Some, in-None}
use Rattle.spf_feeder.proofs.job.SupervisorJobJob.run.Goals as goal

pub recorded-done-requires-clause-synced : goal.recorded-done-requires-clause-synced
recorded-done-requires-clause-synced g c =
    let kind = g.S.Rules.Governs.kind in
    let core = c.self.inside.feeder.core in
    let rules = (g.S.Session.given core).rules in
    let went = c.supervise-closed.ensures in
    let run = (g.S.Session.progress c.supervise-closed.new.feeder.core).run in
    subst (λ about. IsSyncedOf (kind about.rules) (reverse run)) (sym went.given)
    (synced_after (kind rules) (g.S.Rules.Governs.lawful rules)
    (g.S.Session.progress core).run run went.goes_on c.self.invariant.1)

pub recorded-done-requires-clause-paces : goal.recorded-done-requires-clause-paces
recorded-done-requires-clause-paces g c =
    let run = (g.S.Session.progress c.supervise-closed.new.feeder.core).run in
    subst (λ about. KeepsPaceOf (g.S.Rules.Governs.kind about.rules) run
    c.supervise-closed.new.pace)
    (sym c.supervise-closed.ensures.given) c.in-Some.ensures.closed.3

pub returns-clause-left : goal.returns-clause-left
returns-clause-left g c =
    let kind = g.S.Rules.Governs.kind in
    let members = g.C.Connector.members in
    let job = c.args.self in
    let same = c.self.view_is in
    let went = c.supervise-closed.ensures in
    let feeder = c.supervise-closed.new.feeder in
    let before = c.self.inside.feeder.core in
    let run = (g.S.Session.progress feeder.core).run in
    let first = went.first ∙ ap (λ j. j.first) same in
    let goes = subst (λ before. GoesOn before run) (ap (λ j. j.run) same) went.goes_on in
    let given = ap (λ about. about.rules) went.given ∙ ap (λ j. j.rules) same in
    let through = went_of_job members kind g.S.Rules.Governs.plain g.S.Publisher.Finishes.shown job
    feeder.first run (g.S.Session.given feeder.core).rules in
    let board = same_board _ _
    (sym (g.met.S.Publisher.Finishes.named feeder.core) ∙ ap (λ about. about.target) went.given
    ∙ g.met.S.Publisher.Finishes.named before)
    ∙ ap (λ j. j.board) same in
    elim c.match-closed.branch [
      | in-Some w ↦ record {
        board = ap (λ d. d.past.book) w.done-is ∙ w.recorded-done.ensures.board ∙ board;
        went = through _ first goes given w.recorded-done.ensures.orderly
            w.recorded-done.ensures.yielded
            (subst (λ d. IsPublishedBy g.S.Rules.Governs.plain g.S.Publisher.Finishes.shown
            (kind (g.S.Session.given feeder.core).rules) run (board_steps d.past.list))
            (sym w.done-is) w.recorded-done.ensures.published);
        record_is = subst (λ d. IfSome d.recorded (IsOfBy members kind job)) (sym w.done-is)
            (recorded_of_job members kind job feeder.first run
            (g.S.Session.given feeder.core).rules c.supervise-closed.new.pace
            w.in-Some.closed w.recorded-done.result.recorded w.recorded-done.ensures.recorded
            w.recorded-done.ensures.yielded
            first goes given (went.bounds ∙ ap (λ j. j.bounds) same)
            (w.in-Some.ensures.closed.0 ∙ ap (λ j. j.cell) same));
      }
      | in-None w ↦ record {
        board = ap (λ d. d.past.book) w.done-is ∙ w.unrecorded-done.ensures.board ∙ board;
        went = through _ first goes given w.unrecorded-done.ensures.orderly
            w.unrecorded-done.ensures.yielded
            (subst (λ d. IsPublishedBy g.S.Rules.Governs.plain g.S.Publisher.Finishes.shown
            (kind (g.S.Session.given feeder.core).rules) run (board_steps d.past.list))
            (sym w.done-is) w.unrecorded-done.ensures.published);
        record_is = subst (λ o. IfSome o (IsOfBy members kind job))
            (sym (ap (λ d. d.recorded) w.done-is ∙ w.unrecorded-done.ensures.recorded)) tt;
      }
    ]

pub returns-clause-task : goal.returns-clause-task
returns-clause-task g c =
    left_unyielded g.C.Connector.members g.S.Rules.Governs.kind g.S.Rules.Governs.plain
    g.S.Publisher.Finishes.shown c.args.self _
    (returns-clause-left g c)
