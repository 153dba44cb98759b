use Rattle.std.proofs.Common.{refl, sym, ap, subst, ◌∙◌}
use Rattle.spf_helper.specs.Helping.{Helping}
use Rattle.spf_helper.specs.Runs.{Follows}
use Rattle.spf_helper.proofs.Followings.{follows}
use Rattle.spf_helper.proofs.following.follow_kept.Goals as goal

pub returns-clause-follows : goal.returns-clause-follows
returns-clause-follows g c =
    subst (λ (v : Helping g.row.D.Denot).
    Follows c.args.limits c.args.max_frames (g.S.Source.left c.args.source.now)
    (g.S.Source.left c.follow_x509-followed.new.source) (g.K.Sink.held c.args.sink.now)
    (g.K.Sink.held c.follow_x509-followed.new.sink) v.steps c.follow_x509-followed.result)
    (sym c.into_inner.ensures.same)
    (follows c.args.limits c.args.max_frames _ _ _ _ _ _ _ c.follow_x509-followed.result _
    (ap (λ (v : Helping g.row.D.Denot). v.steps) c.new-held.ensures ∙ c.requires.first) refl
    c.follow_x509-followed.ensures.followed)
