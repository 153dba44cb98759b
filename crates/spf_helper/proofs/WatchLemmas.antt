-- A run that is watched.
use Rattle.std.proofs.Common.{◌≡◌, ◌∙◌, ℕ, List, Option, Result, Ok, Err, sym}
use Rattle.std.proofs.Common.{ap, subst, arith}
use Rattle.std.specs.Prelude.{codes}
use Rattle.std.proofs.KnownBytes.{Appends-nil}
use Rattle.spf_disk.specs.declared.open_error.OpenError.TheVariants as opening
use Rattle.spf_disk.specs.Image.{Image}
use Rattle.spf_disk.specs.Standing.{latest}
use Rattle.spf_feed.specs.declared.limits.ResourceLimits.{ResourceLimits}
use Rattle.spf_feed.specs.Limits.{default_limits}
use Rattle.spf_feed.specs.Steps.{PlainStep}
use Rattle.spf_helper.specs.declared.helper_error.HelperError.{HelperError}
use Rattle.spf_helper.specs.declared.helper_error.HelperError.TheVariants as errors
use Rattle.spf_helper.specs.Runs.{Ended, Ran, LeavesFound}
use Rattle.spf_helper.specs.Watching.{Streams, Watches, HasCauses, status_of_end}
use Rattle.spf_helper.specs.Watching.{line_of_end, message, number}
use Rattle.spf_program.specs.Reports.{IsReported, failure_line}
use Rattle.spf_program.specs.Streams.{Side, side}

-- a run that ended well is not reported
pub reported_ok : (before : Side) (r : Result ℕ HelperError) (count : ℕ) → r ≡ Ok count
    → IsReported before before (line_of_end r)
reported_ok before r count is =
    subst (λ (x : Result ℕ HelperError). IsReported before before (line_of_end x)) (sym is)
    (record {
      put = Ok tt;
      appends = Appends-nil before.bytes;
      cause = record { later = omega arith; failed = λ err. cc };
    })

pub reported_err : (before after : Side) (r : Result ℕ HelperError) (e : HelperError) (m : List ℕ)
    (n : Option ℕ) → r ≡ Err e → m ≡ message e → n ≡ number e
    → IsReported before after (failure_line (codes "spf_helper: ") m n)
    → IsReported before after (line_of_end r)
reported_err before after r e m n is message_is number_is reported =
    subst (λ (x : Result ℕ HelperError). IsReported before after (line_of_end x)) (sym is)
    (subst (λ (l : List ℕ). IsReported before after l)
    (ap (λ (l : List ℕ). failure_line (codes "spf_helper: ") l n) message_is
    ∙ ap (failure_line (codes "spf_helper: ") (message e)) number_is) reported)

pub damaged : (limits : ResourceLimits) (max : ℕ) (image : Image)
    (left left' held held' : Option (List ℕ)) (steps : List PlainStep) (r : Result ℕ HelperError)
    → Ended limits max image left left' held held' steps r
    → r ≡ Err (errors.Open opening.Damaged) → latest image ≡ Err opening.Damaged
damaged limits max image left left' held held' steps r ended is =
    (subst (λ (x : Result ℕ HelperError). Ended limits max image left left' held held' steps x) is
    ended).0

module _ {D : Type 0} (seen : D → Image) (may_leave : D → Image → Type 0) (moment : D → ℕ)
    (left_since : D → ℕ → Image → Type 0) (failures : D → ℕ) (old new : D) where
  pub watched : (s : Streams) (n : ℕ) (limits : ResourceLimits) (r : Result ℕ HelperError)
      → limits ≡ default_limits
      → (steps : List PlainStep)
      × Ended limits 1000000 (seen old) s.left s.left' s.held s.held' steps r
      × Ran seen may_leave failures old new steps r
      × LeavesFound seen may_leave moment left_since old new steps
      → HasCauses s.reads s.reads' s.writes s.writes' r → n ≡ status_of_end r
      → IsReported (side s.said s.failures) (side s.said' s.failures') (line_of_end r)
      → Watches seen may_leave moment left_since failures old new s n
  watched s n limits r is (steps, ended, ran, leaves) causes status line = record {
    end = r;
    steps = steps;
    ended = subst (λ (l : ResourceLimits).
        Ended l 1000000 (seen old) s.left s.left' s.held s.held' steps r) is ended;
    ran = ran;
    any_moment = leaves;
    causes = causes;
    status = status;
    line = line;
  }
