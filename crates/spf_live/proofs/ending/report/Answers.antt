use Rattle.std.proofs.Common.{◌≡◌, sym, subst, List, ℕ, None, Result, Err}
use Rattle.std.specs.Prelude.{codes}
use Rattle.spf_program.specs.Reports.{IsEndReported, IsReported, failure_line}
use Rattle.spf_program.specs.Streams.{Side}
use Rattle.spf_live.specs.Ends.{error_line, error_message}
use Rattle.spf_live.specs.declared.error.LiveError.{LiveError}
use Rattle.spf_live.proofs.ending.report.Goals as goal

reported : (before after : Side) (end : Result (Unit {0}) LiveError) (error : LiveError)
    (text : List ℕ) → end ≡ Err error → text ≡ error_message error
    → IsReported before after (failure_line (codes "spiffe_watch: ") text None)
    → IsEndReported error_line before after end
reported before after end error text is text_is so =
    subst (λ (r : Result (Unit {0}) LiveError). IsEndReported error_line before after r) (sym is)
    (subst (λ (t : List ℕ). IsReported before after
    (failure_line (codes "spiffe_watch: ") t None)) text_is so)

pub returns-in-Err-clause-line : goal.returns-in-Err-clause-line
returns-in-Err-clause-line g c =
    reported _ _ c.args.end c.in-Err.error _ c.in-Err.is c.message_of.ensures c.report.ensures
