use Rattle.std.proofs.Common.{refl}
use Rattle.spf_watch.proofs.generated_source.GeneratedSourceSource.read.Goals as goal

pub returns-in_err-ready-clause-cause : goal.returns-in_err-ready-clause-cause
returns-in_err-ready-clause-cause c =
    record {
      later = c.ready.ensures.more;
      failed = λ bad. c.ready.ensures.failed (rw c.in_err-ready.was refl);
    }
