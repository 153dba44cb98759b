-- What a publisher that keeps the steps holds, and which call it refuses.
use Rattle.std.specs.Prelude.{ℕ, ◌+◌, ◌-◌, ◌^◌, min, Bool, List, Option}
use Rattle.spf_feed.specs.Publishing.{is_refused_at}
use Rattle.spf_jwt_feed.specs.Steps.{PlainStep}

-- the steps so far, how often `publish` was called,
-- and the number of the call that is refused, from 1
pub record Published : Type 0 where
  pub steps : List PlainStep
  pub calls : ℕ
  pub refused : Option ℕ

-- the number of the next call; the count stops at the end of its type
abbrev pub called : Published → ℕ
called p = min (p.calls + 1) (2 ^ 64 - 1)

-- the next call is refused
abbrev pub is_refused : Published → Bool
is_refused p = is_refused_at p.refused (called p)
