-- What is known of a cell that is closed once.
use Rattle.std.specs.Prelude.{ℕ}
use Rattle.spf_system.specs.declared.maker.Maker.{Maker}

-- the cell of this name, and a maker of marks
pub record Mark : Type 0 where
  pub cell : ℕ
  pub maker : Maker

abbrev pub mark_by : ℕ → Maker → Mark
mark_by cell maker = record { cell = cell; maker = maker }
