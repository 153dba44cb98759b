-- What updates have read.
use Rattle.std.specs.Prelude.{List}
use Rattle.spf_board.specs.declared.entry.Entry.{Entry}
use Rattle.spf_jwt_feed.specs.Steps.{PlainStep}
use Rattle.spf_jwt_source.specs.Passes.{PassView}
use Rattle.spf_jwt_source.specs.Steps.{Legal}
use Rattle.spf_board.specs.Passing.{ReadsFromBy}

-- a pass that has read, once it had seen just this
abbrev pub ReadsFrom : List (Entry PlainStep) → PassView → Type 0
ReadsFrom seen new = ReadsFromBy Legal seen new
