-- A date and a second of its day, as a Unix second.
use Rattle.std.specs.Prelude.{ℤ, pos, ◌+ℤ◌, ◌*ℤ◌}
use Rattle.jiff_core.specs.Date.{epoch_day}
use Rattle.spf_der.specs.declared.time.DateTime.{DateTime}

abbrev pub unix_second : DateTime → ℤ
unix_second m = (epoch_day m.date *ℤ pos 86400) +ℤ pos m.second
