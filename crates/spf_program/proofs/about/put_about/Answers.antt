use Rattle.std.proofs.Common.{sym, ap, subst, refl}
use Rattle.spf_program.specs.Reports.{about_status, IsEndReported}
use Rattle.spf_program.specs.Streams.{side}
use Rattle.spf_program.proofs.about.put_about.Goals as goal

pub returns-in-Ok : goal.returns-in-Ok
returns-in-Ok g c =
    let errors = side (g.E.Sink.held c.args.errors.now) (g.E.Sink.failures c.args.errors.now) in
    record {
      put = c.put.result;
      appends = rw c.as_bytes.ensures.value at c.put.ensures.bytes;
      cause = c.put.ensures.cause;
      status_is = sym (ap (about_status c.args.failed) c.in-Ok.is);
      reported = subst (IsEndReported (λ fault. c.args.line.now) errors errors) (sym c.in-Ok.is)
          refl;
    }

pub returns-in-Err : goal.returns-in-Err
returns-in-Err g c =
    let errors = side (g.E.Sink.held c.args.errors.now) (g.E.Sink.failures c.args.errors.now) in
    let errors' = side (g.E.Sink.held c.put-in-Err.new.self)
    (g.E.Sink.failures c.put-in-Err.new.self) in
    record {
      put = c.put.result;
      appends = rw c.as_bytes.ensures.value at c.put.ensures.bytes;
      cause = c.put.ensures.cause;
      status_is = sym (ap (about_status c.args.failed) c.in-Err.is);
      reported = subst (IsEndReported (λ fault. c.args.line.now) errors errors') (sym c.in-Err.is)
          (record {
            put = c.put-in-Err.result;
            appends = rw c.as_bytes-in-Err.ensures.value at c.put-in-Err.ensures.bytes;
            cause = c.put-in-Err.ensures.cause;
          });
    }
