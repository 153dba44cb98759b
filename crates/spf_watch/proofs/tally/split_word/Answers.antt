use Rattle.std.proofs.Common.{◌+◌, take, drop, sym, ◌∙◌}
use Rattle.std.proofs.lemmas.List.{take_rest}
use Rattle.spf_watch.proofs.Searched.{avoids_all, cut_at, first_word_alone, after_word_alone}
use Rattle.spf_watch.proofs.Searched.{first_word_of, after_word_of}
use Rattle.spf_watch.proofs.tally.split_word.Goals as goal

pub returns-in-None-clause-word : goal.returns-in-None-clause-word
returns-in-None-clause-word c =
    sym (first_word_alone c.args.line.now (avoids_all 32 c.args.line.now c.in-None.ensures))

pub returns-in-None-clause-rest : goal.returns-in-None-clause-rest
returns-in-None-clause-rest c =
    sym (after_word_alone c.args.line.now (avoids_all 32 c.args.line.now c.in-None.ensures))

pub returns-in-Some-clause-word : goal.returns-in-Some-clause-word
returns-in-Some-clause-word c =
    let line = c.args.line.now in
    let k = c.in-Some.index in
    sym (first_word_of line (take k line) (drop (k + 1) line)
    (cut_at 32 line k c.in-Some.ensures.0 c.in-Some.ensures.1))

pub returns-in-Some-clause-rest : goal.returns-in-Some-clause-rest
returns-in-Some-clause-rest c =
    let line = c.args.line.now in
    let k = c.in-Some.index in
    take_rest line (k + 1)
    ∙ sym (after_word_of line (take k line) (drop (k + 1) line)
    (cut_at 32 line k c.in-Some.ensures.0 c.in-Some.ensures.1))
