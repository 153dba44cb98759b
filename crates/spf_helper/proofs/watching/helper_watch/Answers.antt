use Rattle.std.proofs.Common.{◌≡◌, ℕ, ◌+◌, ◌⊎◌, sym, ◌∙◌, subst, arith}
use Rattle.spf_feed.specs.declared.limits.ResourceLimits.{ResourceLimits}
use Rattle.spf_helper.specs.Completing.{Completes}
use Rattle.spf_helper.specs.Runs.{helper_rules}
use Rattle.spf_helper.proofs.Completeness.{completes}
use Rattle.spf_helper.proofs.Statuses.{read_failed, write_failed, disk_failed, was_damaged}
use Rattle.spf_helper.proofs.Statuses.{damage_said, never_one}
use Rattle.spf_helper.proofs.WatchLemmas.{watched, damaged}
use Rattle.spf_helper.proofs.watching.helper_watch.Goals as goal

-- the status of other words is no greater one
not_one : (n : ℕ) (X : Type 0) → 1 ≡ n + 2 → X
not_one n X is = absurd (omega (arith, is))

pub returns-clause-watches : goal.returns-clause-watches
returns-clause-watches g c = λ one.
    watched g.D.Disk.seen g.D.Disk.may_leave g.D.Disk.moment g.D.Disk.left_since g.D.Disk.failures
    c.args.disk.now c.helper_follow-end.new.disk _ c.report-status.result
    c.default_limits-limits.result c.helper_follow-end.result c.default_limits-limits.ensures
    c.helper_follow-end.ensures.ran (record {
      reads_later = c.helper_follow-end.ensures.reads_later;
      writes_later = c.helper_follow-end.ensures.writes_later;
      read = c.helper_follow-end.ensures.read_fault;
      write = c.helper_follow-end.ensures.write_fault;
    }) c.report-status.ensures.status c.report-status.ensures.line

pub returns-clause-read_fault : goal.returns-clause-read_fault
returns-clause-read_fault g c = λ is.
    c.helper_follow-end.ensures.read_fault
    (read_failed c.helper_follow-end.result (sym c.report-status.ensures.status ∙ is))

pub returns-clause-write_fault : goal.returns-clause-write_fault
returns-clause-write_fault g c = λ is.
    c.helper_follow-end.ensures.write_fault
    (write_failed c.helper_follow-end.result (sym c.report-status.ensures.status ∙ is))

pub returns-clause-disk_fault : goal.returns-clause-disk_fault
returns-clause-disk_fault g c = λ is.
    c.helper_follow-end.ensures.ran.2.fault
    (disk_failed c.helper_follow-end.result (sym c.report-status.ensures.status ∙ is))

pub returns-clause-damaged : goal.returns-clause-damaged
returns-clause-damaged g c = λ is.
    damaged c.default_limits-limits.result 1000000 (g.D.Disk.seen c.args.disk.now) _ _ _ _
    c.helper_follow-end.ensures.ran.0 c.helper_follow-end.result c.helper_follow-end.ensures.ran.1
    (was_damaged c.helper_follow-end.result (sym c.report-status.ensures.status ∙ is))

pub returns-clause-complete : goal.returns-clause-complete
returns-clause-complete g c = λ one.
    subst (λ (l : ResourceLimits).
    Completes (helper_rules l) 1000000 (g.D.Disk.seen c.args.disk.now)
    (g.S.Source.left c.args.source.now)
    (g.S.Source.failures c.args.source.now, g.S.Source.failures c.helper_follow-end.new.source)
    (g.K.Sink.failures c.args.out.now, g.K.Sink.failures c.helper_follow-end.new.sink)
    (g.D.Disk.failures c.args.disk.now, g.D.Disk.failures c.helper_follow-end.new.disk)
    c.report-status.result) c.default_limits-limits.ensures
    (completes g.D.Disk.seen g.D.Disk.may_leave g.D.Disk.failures c.args.disk.now
    c.helper_follow-end.new.disk c.default_limits-limits.result 1000000 _ _ _ _
    c.helper_follow-end.result _ _ _ _ c.report-status.result c.helper_follow-end.ensures.ran.0
    c.helper_follow-end.ensures.ran.1 c.helper_follow-end.ensures.ran.2 (record {
      reads_later = c.helper_follow-end.ensures.reads_later;
      writes_later = c.helper_follow-end.ensures.writes_later;
      read = c.helper_follow-end.ensures.read_fault;
      write = c.helper_follow-end.ensures.write_fault;
    }) c.report-status.ensures.status)

pub returns-clause-damage_is_said : goal.returns-clause-damage_is_said
returns-clause-damage_is_said g c = λ one is well.
    subst (λ (n : ℕ). (n ≡ 22) ⊎ (n ≡ 2)) (sym c.report-status.ensures.status)
    (damage_said g.D.Disk.seen g.D.Disk.may_leave g.D.Disk.failures c.args.disk.now
    c.helper_follow-end.new.disk c.helper_follow-end.ensures.ran.0 c.helper_follow-end.result
    c.helper_follow-end.ensures.ran.2 is well)

pub returns-then-arguments-ne1-clause-read_fault : goal.returns-then-arguments-ne1-clause-read_fault
returns-then-arguments-ne1-clause-read_fault g c = λ is. not_one 1 _ is

pub returns-then-arguments-ne1-clause-write_fault
    : goal.returns-then-arguments-ne1-clause-write_fault
returns-then-arguments-ne1-clause-write_fault g c = λ is. not_one 2 _ is

pub returns-then-arguments-ne1-clause-disk_fault : goal.returns-then-arguments-ne1-clause-disk_fault
returns-then-arguments-ne1-clause-disk_fault g c = λ is. not_one 19 _ is

pub returns-then-arguments-ne1-clause-damaged : goal.returns-then-arguments-ne1-clause-damaged
returns-then-arguments-ne1-clause-damaged g c = λ is. not_one 20 _ is

pub returns-then-arguments-ne1-clause-watches : goal.returns-then-arguments-ne1-clause-watches
returns-then-arguments-ne1-clause-watches g c = λ one. absurd (c.if-arguments-ne1.true one)

pub returns-then-arguments-ne1-clause-damage_is_said
    : goal.returns-then-arguments-ne1-clause-damage_is_said
returns-then-arguments-ne1-clause-damage_is_said g c = λ one. absurd (c.if-arguments-ne1.true one)

pub returns-then-arguments-ne1-clause-complete : goal.returns-then-arguments-ne1-clause-complete
returns-then-arguments-ne1-clause-complete g c = λ one. absurd (c.if-arguments-ne1.true one)

pub returns-clause-refused : goal.returns-clause-refused
returns-clause-refused g c = λ other. absurd (other c.if-arguments-ne1.false)

pub returns-clause-arguments : goal.returns-clause-arguments
returns-clause-arguments g c = (
  (λ is. absurd (never_one c.helper_follow-end.result (sym c.report-status.ensures.status ∙ is))),
  (λ other. absurd (other c.if-arguments-ne1.false)),
)
