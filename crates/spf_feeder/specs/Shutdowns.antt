-- Handles of supervisors, and what a shutdown with a grace returns.
use Rattle.std.specs.Prelude.{◌≡◌, ℕ, ℤ, ◌*◌, ◌-ℤ◌, Bool, nat_lt, int_lt, nat_abs}
use Rattle.std.specs.Prelude.{◌&&◌}
use Rattle.std.specs.Prelude.{pos, List, Option, None, Some, Result, Ok, Err, if◌then◌else◌}
use Rattle.std.specs.Duration.{as_nanos}
use Rattle.std.specs.declared.time.Duration.{Duration}
use Rattle.spf_system.specs.Clock.{later, next_moment}

-- the cell that a handle is to close, and the grace of its builder
pub record Pending : Type 0 where
  pub cell : ℕ
  pub grace : Option Duration

-- the job that was started, the cell that the handle closes, and the grace of its builder
pub record Handled (J : Type 0) : Type 0 where
  pub job : J
  pub cell : ℕ
  pub grace : Option Duration

-- whether the second moment is more than the grace after the first
abbrev pub is_late : Duration → ℤ → ℤ → Bool
is_late grace started ended =
    int_lt (pos 0) (ended -ℤ started)
    && nat_lt (as_nanos grace) (nat_abs (ended -ℤ started) * 1_000_000_000)

-- It timed out exactly where both moments are there and the second is late. The error says both.
abbrev pub shuts : {E : Type 0} → (ℤ → ℤ → E) → Duration → Option ℤ → Option ℤ
    → Result (Unit {0}) E
shuts timed_out grace (Some started) (Some ended) =
    if is_late grace started ended then Err (timed_out started ended) else Ok tt
shuts timed_out grace _ _ = Ok tt

abbrev pub Shuts : {E : Type 0} → (ℤ → ℤ → E) → Duration → Option ℤ → Option ℤ
    → Result (Unit {0}) E → Type 0
Shuts timed_out grace started ended result = result ≡ shuts timed_out grace started ended

-- It takes exactly the next two answers of the clock, where the moments of the clock are known.
abbrev pub ShutsBy : {E : Type 0} → (ℤ → ℤ → E) → Duration → Option (List (Option ℤ))
    → Option (List (Option ℤ)) → Result (Unit {0}) E → Type 0
ShutsBy timed_out grace None new result =
    (started : Option ℤ) × (ended : Option ℤ) × Shuts timed_out grace started ended result
ShutsBy timed_out grace (Some old) None result = ⊥
ShutsBy timed_out grace (Some old) (Some new) result =
    (new ≡ later (later old))
    × Shuts timed_out grace (next_moment old) (next_moment (later old)) result

-- the same where a grace is set; without one, no moment is asked for
abbrev pub ShutsConfigured : {E : Type 0} → (ℤ → ℤ → E) → Option Duration
    → Option (List (Option ℤ)) → Option (List (Option ℤ)) → Result (Unit {0}) E → Type 0
ShutsConfigured timed_out None old new result = (new ≡ old) × (result ≡ Ok tt)
ShutsConfigured timed_out (Some grace) old new result = ShutsBy timed_out grace old new result
