-- Status 1 comes exactly with bad arguments.
use Rattle.std.proofs.Common.{◌≡◌, ◌∙◌, refl, true, false, Option, None, Some, Result, Ok, Err}
use Rattle.std.proofs.Common.{arith}
use Rattle.std.specs.Prelude.{◌↔◌, IfErr}
use Rattle.spf_watch.specs.declared.exit_reason.ExitReason.{ExitReason}
use Rattle.spf_watch.specs.declared.exit_reason.ExitReason.TheVariants as reasons
use Rattle.spf_watch.specs.Causes.{is_output_failure, is_bad_arguments, status}

pub bad_arguments_status : (f : ExitReason) → status f ≡ 1 → f ≡ reasons.BadArguments
bad_arguments_status reasons.BadArguments h = refl
bad_arguments_status reasons.OutOfMemory h = absurd (omega (arith, h))
bad_arguments_status reasons.ReadFailed h = absurd (omega (arith, h))
bad_arguments_status reasons.WriteFailed h = absurd (omega (arith, h))
bad_arguments_status reasons.SessionTooLong h = absurd (omega (arith, h))
bad_arguments_status (reasons.BadFrame frame) h = absurd (omega (arith, h))
bad_arguments_status reasons.Rejected h = absurd (omega (arith, h))
bad_arguments_status reasons.Unsupported h = absurd (omega (arith, h))
bad_arguments_status reasons.TimedOut h = absurd (omega (arith, h))
bad_arguments_status reasons.Closed h = absurd (omega (arith, h))
bad_arguments_status reasons.NeverSynced h = absurd (omega (arith, h))

-- an end of a run whose arguments are those of the program
pub arguments_good : {A : Type 0} (r : Result (Unit {0}) ExitReason) (o : Option A) (x : A)
    → IfErr r (λ f. is_bad_arguments f ≡ false) → Some x ≡ o
    → (r ≡ Err reasons.BadArguments) ↔ (o ≡ None)
arguments_good r o x h e = (λ w. absurd (bad (rw w at h)), λ n. absurd (none (e ∙ n)))
  where
    bad : IfErr {T = Unit {0}} (Err reasons.BadArguments) (λ f. is_bad_arguments f ≡ false) → ⊥
    bad g = cc

    none : Some x ≡ None → ⊥
    none g = cc

-- an end by a failure of the output, or out of memory
pub no_bad_arguments : (r : Result (Unit {0}) ExitReason)
    → IfErr r (λ f. is_output_failure f ≡ true) → IfErr r (λ f. is_bad_arguments f ≡ false)
no_bad_arguments (Ok done) h = tt
no_bad_arguments (Err reasons.BadArguments) h = absurd cc
no_bad_arguments (Err reasons.OutOfMemory) h = refl
no_bad_arguments (Err reasons.ReadFailed) h = absurd cc
no_bad_arguments (Err reasons.WriteFailed) h = refl
no_bad_arguments (Err reasons.SessionTooLong) h = absurd cc
no_bad_arguments (Err (reasons.BadFrame frame)) h = absurd cc
no_bad_arguments (Err reasons.Rejected) h = absurd cc
no_bad_arguments (Err reasons.Unsupported) h = absurd cc
no_bad_arguments (Err reasons.TimedOut) h = absurd cc
no_bad_arguments (Err reasons.Closed) h = absurd cc
no_bad_arguments (Err reasons.NeverSynced) h = absurd cc
