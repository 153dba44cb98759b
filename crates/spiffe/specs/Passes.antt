-- What contracts see of a pass.
use Rattle.std.specs.Prelude.{List}
use Rattle.spf_board.specs.Passes as passes
pub use Rattle.spf_board.specs.Passes.{read_of}
use Rattle.spf_system.specs.Marks.{Mark}
use Rattle.spf_feed.specs.Steps.{PlainStep}
use Rattle.spf_board.specs.declared.entry.Entry.{Entry}

-- what a pass has seen of its board
abbrev pub Seen : Type 0
Seen = List (Entry PlainStep)

abbrev pub PassView : Type 0
PassView = passes.PassView PlainStep Mark
