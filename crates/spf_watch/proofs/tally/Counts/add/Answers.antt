use Rattle.std.proofs.Common.{refl, sym, ap, ◌∙◌, true, false}
use Rattle.std.specs.Str.{bytes_eq}
use Rattle.spf_watch.proofs.TallyLemmas.{revision_found, withdrawn_found}
use Rattle.spf_watch.proofs.tally.Counts.add.Goals as goal

pub returns-then-eq-clause-revision : goal.returns-then-eq-clause-revision
returns-then-eq-clause-revision c =
    revision_found c.args.self.now.revision c.args.line.now c.split_word.result.1.now
    c.split_word-2.result.0.now c.number_in.result c.unwrap_or-self.result
    c.split_word.ensures.rest c.split_word-2.ensures.word c.number_in.ensures
    c.unwrap_or-self.ensures

pub returns-else-eq-clause-revision : goal.returns-else-eq-clause-revision
returns-else-eq-clause-revision c =
    revision_found c.args.self.now.revision c.args.line.now c.split_word.result.1.now
    c.split_word-2.result.0.now c.number_in.result c.unwrap_or-self.result
    c.split_word.ensures.rest c.split_word-2.ensures.word c.number_in.ensures
    c.unwrap_or-self.ensures

pub returns-then-eq-clause-withdrawn : goal.returns-then-eq-clause-withdrawn
returns-then-eq-clause-withdrawn c =
    withdrawn_found c.args.self.now.withdrawn c.args.line.now c.split_word.result.1.now
    c.split_word-2.result.1.now c.split_word-3.result.0.now true c.saturating_add-self.result
    c.split_word.ensures.rest c.split_word-2.ensures.rest c.split_word-3.ensures.word
    (ap (bytes_eq c.split_word-3.result.0.now) (sym c.as_slice.ensures) ∙ sym c.if-eq.ensures)
    c.saturating_add-self.ensures

pub returns-else-eq-clause-withdrawn : goal.returns-else-eq-clause-withdrawn
returns-else-eq-clause-withdrawn c =
    withdrawn_found c.args.self.now.withdrawn c.args.line.now c.split_word.result.1.now
    c.split_word-2.result.1.now c.split_word-3.result.0.now false c.args.self.now.withdrawn
    c.split_word.ensures.rest c.split_word-2.ensures.rest c.split_word-3.ensures.word
    (ap (bytes_eq c.split_word-3.result.0.now) (sym c.as_slice.ensures) ∙ sym c.if-eq.ensures) refl
