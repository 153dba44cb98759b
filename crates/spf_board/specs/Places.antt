-- Why a place is refused.
use Rattle.std.specs.Prelude.{◌≡◌, ℕ, ◌≤◌, Result, Err}
use Rattle.spf_io.specs.Outside.{Rose}
use Rattle.spf_board.specs.declared.places.PlaceFault.{PlaceFault}
use Rattle.spf_board.specs.declared.places.PlaceFault.TheVariants as fault

-- the count never falls, and a refusal comes only where it rose
pub record CountsRefusals {P : Type 0} (before now : ℕ) (result : Result P PlaceFault)
    : Type 0 where
  pub later : before ≤ now
  pub refused : result ≡ Err fault.Refused → Rose before now
