use Rattle.std.proofs.Common.{ap, ◌∙◌, subst, Err}
use Rattle.std.proofs.lemmas.Result.{err_from_is_err_and}
use Rattle.std.specs.Option.{option_copied}
use Rattle.spf_feed.specs.Items.{rules_with}
use Rattle.spf_watch.specs.Headline.{FollowsSession, x509_session}
use Rattle.spf_watch.specs.Setting.{Setting}
use Rattle.spf_watch.proofs.HeadlineLemmas.{ran, ran_early, shared_map}
use Rattle.spf_watch.proofs.watching.follow.Goals as goal

pub returns-in_err-picker-clause-session : goal.returns-in_err-picker-clause-session
returns-in_err-picker-clause-session g c =
    let p = err_from_is_err_and c.from_residual.result c.from_residual.ensures.1 in
    ran_early _ _ _ _ (p.1 ∙ ap Err p.2)

pub returns-clause-session : goal.returns-clause-session
returns-clause-session g c =
    let inside = c.arguments.inside in
    let setting : Setting =
    record {
      limits = inside.limits;
      deadline = inside.deadline;
      max_frames = inside.max_frames;
      hint = option_copied inside.hint;
      ready = inside.ready;
    } in
    subst (λ (s : Setting).
    FollowsSession (x509_session s) (g.S.Source.left c.args.source.now)
    (g.S.Source.left c.follow_x509-followed.new.source) (g.K.Sink.held c.args.out.now)
    (g.K.Sink.held c.follow_x509-followed.new.sink) c.end_of.result)
    c.arguments.view_is
    (ran setting _ _ _ _ c.follow_x509-followed.result _ _
    (ap (rules_with inside.limits inside.deadline inside.ready)
    (shared_map _ _ _ c.as_ref.ensures.value ∙ c.in_ok-picker.ensures))
    c.follow_x509-followed.ensures.followed c.end_of.ensures)
