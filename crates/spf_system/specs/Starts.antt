-- What starting a job says.
use Rattle.std.specs.Prelude.{◌≡◌, ℕ, ◌≤◌, Result, MatchResult}
use Rattle.spf_io.specs.Outside.{Rose}

-- the handle is of the job that was handed in; it fails only where the count of refusals rose
abbrev pub Starts : {J H E : Type 0} → (H → J) → ℕ → ℕ → J → Result H E → Type 0
Starts job_of before now job result =
    (before ≤ now) × MatchResult result (λ h. job_of h ≡ job) (λ _. Rose before now)
