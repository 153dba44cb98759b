use Rattle.std.proofs.Common.{◌≡◌, subst, sym}
use Rattle.spf_helper.specs.Runs.{LeavesBeside}
use Rattle.spf_helper.proofs.RunLemmas.{left_found, ran_lent}
use Rattle.spf_helper.proofs.following.helper_follow.Goals as goal

pub returns-clause-ran : goal.returns-clause-ran
returns-clause-ran g c =
    let is : c.disk-1.given.0 ≡ c.follow_lent-end.result.1.now =
    c.disk-1.given.1 (sym c.follow_lent-end.ensures.loan) in (
      c.follow_lent-end.ensures.ran.0,
      c.follow_lent-end.ensures.ran.1,
      ran_lent g.D.Disk.seen g.D.Disk.may_leave g.D.Disk.failures _ c.follow_lent-end.result.1 _
          c.follow_lent-end.ensures.ran.0 c.follow_lent-end.result.0 is
          c.follow_lent-end.ensures.ran.2,
      left_found g.D.Disk.seen g.D.Disk.may_leave g.D.Disk.moment g.D.Disk.left_since
          g.D.Disk.failures c.args.disk.now _ c.follow_lent-end.ensures.ran.0
          g.met.D.Disk.only_now
          (subst (λ d. LeavesBeside g.D.Disk.moment g.D.Disk.left_since c.args.disk.now d
          (g.D.Disk.left_since c.args.disk.now) (g.D.Disk.seen c.args.disk.now)
          c.follow_lent-end.ensures.ran.0) (sym is) c.follow_lent-end.ensures.ran.3),
    )
