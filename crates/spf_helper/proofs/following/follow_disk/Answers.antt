use Rattle.std.proofs.Common.{◌≡◌, Result, ℕ, sym, ap, subst, ◌∙◌}
use Rattle.spf_helper.specs.declared.helper_error.HelperError.{HelperError}
use Rattle.spf_disk.specs.Image.{Image}
use Rattle.spf_helper.specs.Keeping.{Beginning}
use Rattle.spf_helper.specs.Runs.{Ended, LeavesBeside, ended_as}
use Rattle.spf_helper.proofs.RunLemmas.{ran_by}
use Rattle.spf_helper.proofs.RunLemmas.{ended_by}
use Rattle.spf_helper.proofs.following.follow_disk.Goals as goal

pub returns-clause-ran : goal.returns-clause-ran
returns-clause-ran g c =
    let p = c.follow_kept-followed.result.1 in
    let r = c.follow_kept-followed.result.0 in
    let end : c.ended-end.result ≡ ended_as p.fault p.full r =
    c.ended-end.ensures ∙ (λ i. ended_as (c.fault.ensures i) (c.full.ensures i) r) in
    let leaves = ran_by g.D.Disk.seen g.D.Disk.may_leave g.D.Disk.moment g.D.Disk.left_since
    g.D.Disk.failures g.N.Origin.begin g.N.Origin.past c.args.disk.ghost_name c.args.disk.now
    c.into_disk.result.now p c.ended-end.result r c.requires.begin c.into_disk.ensures.same_disk end
    c.follow_kept-followed.ensures.kept in (
      p.steps,
      subst (λ (x : Result ℕ HelperError).
          Ended c.args.limits c.args.max_frames g.N.Origin.begin.image
          (g.S.Source.left c.args.source.now)
          (g.S.Source.left c.follow_kept-followed.new.source) (g.K.Sink.held c.args.sink.now)
          (g.K.Sink.held c.follow_kept-followed.new.sink) p.steps x) (sym end)
          (ended_by c.args.limits c.args.max_frames g.N.Origin.begin.image _ _ _ _ p.steps
          p.fault p.full r c.follow_kept-followed.ensures.follows),
      leaves.0,
      subst (λ (i : Image). LeavesBeside g.D.Disk.moment g.D.Disk.left_since c.args.disk.now
          c.into_disk.result.now g.N.Origin.past i p.steps)
          (sym (ap (λ (b : Beginning). b.image) c.requires.begin)) leaves.1,
    )
