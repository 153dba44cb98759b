use Rattle.std.proofs.Common.{◌∷◌, [], Ok, Err, true, subst, sym}
use Rattle.std.proofs.lemmas.Result.{IfOk-from_err}
use Rattle.spf_view.specs.Sessions.{Grows, GrowsUpTo}
use Rattle.spf_feed.specs.Records.{Appended}
use Rattle.spf_feed.proofs.HandLemmas.{one_more, stopped_there, appended, appends_none}
use Rattle.spf_feed.proofs.HandLemmas.{refused_same, has_step}
use Rattle.spf_jwt_feed.specs.Steps.{PlainStep, MayFollow}
use Rattle.spf_jwt_feed.proofs.following.publish.Goals as goal

pub returns-in_err-publish-clause-steps : goal.returns-in_err-publish-clause-steps
returns-in_err-publish-clause-steps g c =
    stopped_there _ _ _ _ c.from_residual-in_err-publish.ensures.0
    (subst (λ (s : PlainStep).
    GrowsUpTo (g.P.JwtPublisher.steps c.args.publisher.now)
    (g.P.JwtPublisher.steps c.publish.new.self) (s ∷ []) true) c.in_ok-published.ensures
    (one_more _ _ (Err c.in_err-publish.field-0.0) _ c.in_err-publish.ensures.appends))

pub returns-in_err-publish-clause-appends : goal.returns-in_err-publish-clause-appends
returns-in_err-publish-clause-appends g c =
    appends_none _ _ _ _ c.from_residual-in_err-publish.ensures.0
    (refused_same _ _ _ _ c.in_err-publish.ensures.appends)

pub returns-in_err-published-clause-synced : goal.returns-in_err-published-clause-synced
returns-in_err-published-clause-synced g c =
    IfOk-from_err _ _ c.from_residual.ensures.0

pub returns-in_err-published-clause-change : goal.returns-in_err-published-clause-change
returns-in_err-published-clause-change g c =
    IfOk-from_err _ _ c.from_residual.ensures.0

pub returns-in_err-published-clause-kept : goal.returns-in_err-published-clause-kept
returns-in_err-published-clause-kept g c =
    IfOk-from_err _ _ c.from_residual.ensures.0

pub returns-in_err-publish-clause-synced : goal.returns-in_err-publish-clause-synced
returns-in_err-publish-clause-synced g c =
    IfOk-from_err _ _ c.from_residual-in_err-publish.ensures.0

pub returns-in_err-publish-clause-change : goal.returns-in_err-publish-clause-change
returns-in_err-publish-clause-change g c =
    IfOk-from_err _ _ c.from_residual-in_err-publish.ensures.0

pub returns-in_err-publish-clause-kept : goal.returns-in_err-publish-clause-kept
returns-in_err-publish-clause-kept g c =
    IfOk-from_err _ _ c.from_residual-in_err-publish.ensures.0

pub publish-requires : goal.publish-requires
publish-requires g c =
    subst (MayFollow (g.P.JwtPublisher.steps c.args.publisher.now)) (sym c.in_ok-published.ensures)
    c.requires.next

pub returns-clause-appends : goal.returns-clause-appends
returns-clause-appends g c =
    subst (Appended (g.P.JwtPublisher.steps c.args.publisher.now)
    (g.P.JwtPublisher.steps c.publish.new.self)) c.in_ok-published.ensures
    (appended _ _ _ _ c.in_ok-publish.ensures.appends)

pub returns-clause-steps : goal.returns-clause-steps
returns-clause-steps g c =
    subst (λ (s : PlainStep).
    Grows (g.P.JwtPublisher.steps c.args.publisher.now) (g.P.JwtPublisher.steps c.publish.new.self)
    (s ∷ [])) c.in_ok-published.ensures (one_more _ _ (Ok tt) _ c.in_ok-publish.ensures.appends)

pub returns-clause-synced : goal.returns-clause-synced
returns-clause-synced g c =
    has_step _ _ _ (appended _ _ _ _ c.in_ok-publish.ensures.appends)
