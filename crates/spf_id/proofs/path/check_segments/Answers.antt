use Rattle.std.proofs.Common.{◌≡◌, ap, sym, ◌∙◌, refl}
use Rattle.std.specs.List.{before_first}
use Rattle.std.specs.Prelude.{Ok, Err}
use Rattle.std.proofs.lemmas.Result.{err_from_is_err_and}
use Rattle.spf_id.specs.declared.error.SpiffeIdError.TheVariants.{EmptySegment, TrailingSlash}
use Rattle.spf_id.specs.Rule.{is_slash, segment_rule}
use Rattle.spf_id.proofs.Parts.{segments_last, segments_more}
use Rattle.spf_id.proofs.path.check_segments.Goals as goal

pub returns-in-None : goal.returns-in-None
returns-in-None c =
    let whole = rw c.in-None.is at c.cut.ensures.rest in
    c.check_segment.ensures ∙ ap (segment_rule TrailingSlash) c.cut.ensures.front
    ∙ sym (segments_last c.loop-after.rest.now whole) ∙ c.loop-after.invariant

pub returns-in_err-check_segment-in-Some : goal.returns-in_err-check_segment-in-Some
returns-in_err-check_segment-in-Some c =
    let cut = rw c.in-Some.is at c.cut.ensures.rest in
    let broken : segment_rule EmptySegment (before_first is_slash c.loop-after.rest.now)
    ≡ Err c.in_err-check_segment-in-Some.field-0.0 =
    sym (c.in_err-check_segment-in-Some.ensures
    ∙ ap (segment_rule EmptySegment) c.cut.ensures.front) in
    let p = err_from_is_err_and c.from_residual.result c.from_residual.ensures.1 in
    rw (p.1, p.2, ← c.loop-after.invariant, segments_more c.loop-after.rest.now cut.0, broken) refl

pub loop-after-preserved : goal.loop-after-preserved
loop-after-preserved c =
    let cut = rw c.in-Some.is at c.cut.ensures.rest in
    let kept : segment_rule EmptySegment (before_first is_slash c.loop-after.rest.now) ≡ Ok tt =
    sym (c.in_ok-check_segment-in-Some.ensures
    ∙ ap (segment_rule EmptySegment) c.cut.ensures.front) in
    rw cut.1 (sym (rw (segments_more c.loop-after.rest.now cut.0, kept) refl)
    ∙ c.loop-after.invariant)
