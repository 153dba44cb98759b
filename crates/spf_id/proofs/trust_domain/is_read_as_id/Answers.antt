use Rattle.std.proofs.Common.{sym, ◌∙◌}
use Rattle.spf_id.proofs.ColonSlash.{colon_none, colon_found, colon_passed}
use Rattle.spf_id.proofs.trust_domain.is_read_as_id.Goals as goal

pub returns-in-None : goal.returns-in-None
returns-in-None c =
    let whole = rw c.in-None.is at c.cut.ensures.rest in
    sym (colon_none c.loop-after.rest.now whole) ∙ c.loop-after.invariant

pub returns-then-begins_with_slash : goal.returns-then-begins_with_slash
returns-then-begins_with_slash c =
    let cut = rw c.in-Some.is at c.cut.ensures.rest in
    sym (colon_found c.loop-after.rest.now c.in-Some.after.now cut.0 cut.1
    (sym c.if-begins_with_slash.ensures)) ∙ c.loop-after.invariant

pub loop-after-preserved : goal.loop-after-preserved
loop-after-preserved c =
    let cut = rw c.in-Some.is at c.cut.ensures.rest in
    sym (colon_passed c.loop-after.rest.now c.in-Some.after.now cut.0 cut.1
    (sym c.if-begins_with_slash.ensures)) ∙ c.loop-after.invariant
