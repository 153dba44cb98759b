use Rattle.std.proofs.Common.{◌≡◌, ◌⊎◌, ap, ◌∙◌, subst}
use Rattle.spf_board.specs.declared.entry.Entry.TheVariants as entry
use Rattle.spf_board.specs.Lists.{is_ended}
use Rattle.spf_board.specs.Past.{added}
use Rattle.spf_board.proofs.Publishing.{ended_by, either_end}
use Rattle.spf_jwt_source.proofs.desk.DeskWriterWritesJwt.end.Goals as goal

pub returns-clause-whole : goal.returns-clause-whole
returns-clause-whole g c =
    let e = c.publish_end-writer in
    let old = c.self.inside.writer.desk.shown.value.front in
    c.is_ok.ensures.value
    ∙ ended_by e.result.2 old e.result.0.desk.shown.value.front e.ensures.ok e.ensures.err
    (ap (λ p. is_ended p.list) c.self.view_is ∙ c.requires)

pub returns-clause-ended : goal.returns-clause-ended
returns-clause-ended g c =
    let e = c.publish_end-writer in
    let new = e.result.0.desk.shown.value.front in
    subst (λ p. (new ≡ added p entry.End) ⊎ (new ≡ p)) c.self.view_is
    (either_end e.result.2 c.self.inside.writer.desk.shown.value.front new e.ensures.ok
    e.ensures.err)
