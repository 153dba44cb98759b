-- An error that is not a fault.
use Rattle.std.proofs.Common.{◌≡◌, ℕ, ◌≤◌, true, false, Result, Ok, Err, refl, subst}
use Rattle.std.specs.Prelude.{IfErr}
use Rattle.spf_feed.specs.declared.follow_error.FollowError.{FollowError}
use Rattle.spf_feed.specs.declared.follow_error.FollowError.TheVariants as follow_errors
use Rattle.spf_feed.specs.Following.{is_failure, FailureCounts, FailuresHaveCauses}

-- a result that is not a fault is not this fault
not_this : (fault e : FollowError) (r : Result ℕ FollowError) → is_failure fault ≡ true
    → is_failure e ≡ false → r ≡ Err e → r ≡ Err fault → ⊥
not_this fault e r is_one is_none p q =
    let same : e ≡ fault = cc in
    let both : is_failure fault ≡ false =
    subst (λ (x : FollowError). is_failure x ≡ false) same is_none in
    cc

pub no_failure : (old new : FailureCounts) (r : Result ℕ FollowError)
    → IfErr r (λ e. is_failure e ≡ false) → old.reads ≤ new.reads → old.writes ≤ new.writes
    → FailuresHaveCauses old new r
no_failure old new (Ok n) calm reads writes = record {
  reads_later = reads;
  writes_later = writes;
  read = λ p. absurd cc;
  write = λ p. absurd cc;
}
no_failure old new (Err e) calm reads writes = record {
  reads_later = reads;
  writes_later = writes;
  read = λ p. absurd (not_this follow_errors.ReadFault e (Err e) refl calm refl p);
  write = λ p. absurd (not_this follow_errors.WriteFault e (Err e) refl calm refl p);
}
