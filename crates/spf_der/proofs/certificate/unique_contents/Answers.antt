use Rattle.std.proofs.Common.{sym}
use Rattle.spf_der.proofs.Unique.{unique_more, unique_skip, unique_twice}
use Rattle.spf_der.proofs.certificate.unique_contents.Goals as goal
use Rattle.spf_der.proofs.certificate.unique_contents.Goals.{then-eq+else-is_some, else-eq}

pub returns-then-is_some : goal.returns-then-is_some
returns-then-is_some c =
    rw c.new.ensures
    (unique_twice c.args.oid.now c.args.extensions.now c.loop-extension.extension-index _
    c.loop-extension.found c.loop-extension-test.true c.loop-extension.invariant
    (sym c.if-is_some.ensures) (sym c.if-eq.ensures))

pub loop-extension-preserved : goal.loop-extension-preserved
loop-extension-preserved c =
    elim c.if-eq.branch [
      | then-eq+else-is_some w ↦
          rw w.found-is
          (unique_more c.args.oid.now c.args.extensions.now c.loop-extension.extension-index _
          c.loop-extension.found c.loop-extension-test.true c.loop-extension.invariant
          (sym w.if-is_some.ensures) (sym w.if-eq.ensures))
      | else-eq w ↦
          rw w.found-is
          (unique_skip c.args.oid.now c.args.extensions.now c.loop-extension.extension-index _ _
          c.loop-extension-test.true c.loop-extension.invariant (sym w.if-eq.ensures))
    ]
