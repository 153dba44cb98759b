-- What updates have read.
use Rattle.spf_board.specs.Passing.{ReadsFromBy}
use Rattle.spiffe.specs.Passes.{PassView, Seen}
use Rattle.spiffe.specs.Steps.{Legal}

-- a pass that has read, once it had seen just this
abbrev pub ReadsFrom : Seen → PassView → Type 0
ReadsFrom seen new = ReadsFromBy Legal seen new
