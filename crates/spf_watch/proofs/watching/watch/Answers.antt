use Rattle.std.proofs.Common.{sym, ap, ◌∙◌, refl}
use Rattle.spf_watch.specs.Headline.{status_of_end}
use Rattle.spf_program.specs.Streams.{Streams, side}
use Rattle.spf_watch.proofs.Completeness.{completes}
use Rattle.spf_watch.proofs.HeadlineLemmas.{headline, unreported}
use Rattle.spf_watch.proofs.watching.watch.Goals as goal

pub returns-in-Ok-clause-does : goal.returns-in-Ok-clause-does
returns-in-Ok-clause-does g c =
    let errors = side (g.E.Sink.held c.args.errors.now) (g.E.Sink.failures c.args.errors.now) in
    let before : Streams = record {
      input = side (g.S.Source.left c.args.source.now) (g.S.Source.failures c.args.source.now);
      output = side (g.K.Sink.held c.args.out.now) (g.K.Sink.failures c.args.out.now);
      errors = errors;
    } in
    let after : Streams = record {
      input = side (g.S.Source.left c.run.new.source) (g.S.Source.failures c.run.new.source);
      output = side (g.K.Sink.held c.run.new.out) (g.K.Sink.failures c.run.new.out);
      errors = errors;
    } in
    unreported _ before after c.run.result _ c.in-Ok.is refl (c.run.ensures.does errors errors)

pub returns-in-Ok-clause-headline : goal.returns-in-Ok-clause-headline
returns-in-Ok-clause-headline g c = λ zero.
    let errors = side (g.E.Sink.held c.args.errors.now) (g.E.Sink.failures c.args.errors.now) in
    let before : Streams = record {
      input = side (g.S.Source.left c.args.source.now) (g.S.Source.failures c.args.source.now);
      output = side (g.K.Sink.held c.args.out.now) (g.K.Sink.failures c.args.out.now);
      errors = errors;
    } in
    let after : Streams = record {
      input = side (g.S.Source.left c.run.new.source) (g.S.Source.failures c.run.new.source);
      output = side (g.K.Sink.held c.run.new.out) (g.K.Sink.failures c.run.new.out);
      errors = errors;
    } in
    headline _ before after c.run.result (c.run.ensures.does errors errors) c.in-Ok.is

pub returns-in-Ok-clause-complete : goal.returns-in-Ok-clause-complete
returns-in-Ok-clause-complete g c =
    let errors = side (g.E.Sink.held c.args.errors.now) (g.E.Sink.failures c.args.errors.now) in
    let before : Streams = record {
      input = side (g.S.Source.left c.args.source.now) (g.S.Source.failures c.args.source.now);
      output = side (g.K.Sink.held c.args.out.now) (g.K.Sink.failures c.args.out.now);
      errors = errors;
    } in
    let after : Streams = record {
      input = side (g.S.Source.left c.run.new.source) (g.S.Source.failures c.run.new.source);
      output = side (g.K.Sink.held c.run.new.out) (g.K.Sink.failures c.run.new.out);
      errors = errors;
    } in
    completes _ before after c.run.result _ (sym (ap status_of_end c.in-Ok.is))
    (c.run.ensures.does errors errors) c.run.ensures.cause

pub returns-in-Err-clause-complete : goal.returns-in-Err-clause-complete
returns-in-Err-clause-complete g c =
    let errors = side (g.E.Sink.held c.args.errors.now) (g.E.Sink.failures c.args.errors.now) in
    let errors' =
    side (g.E.Sink.held c.report.new.errors) (g.E.Sink.failures c.report.new.errors) in
    let before : Streams = record {
      input = side (g.S.Source.left c.args.source.now) (g.S.Source.failures c.args.source.now);
      output = side (g.K.Sink.held c.args.out.now) (g.K.Sink.failures c.args.out.now);
      errors = errors;
    } in
    let after : Streams = record {
      input = side (g.S.Source.left c.run.new.source) (g.S.Source.failures c.run.new.source);
      output = side (g.K.Sink.held c.run.new.out) (g.K.Sink.failures c.run.new.out);
      errors = errors';
    } in
    completes _ before after c.run.result _
    (c.report.ensures.status ∙ sym (ap status_of_end c.in-Err.is))
    (c.run.ensures.does errors errors') c.run.ensures.cause
