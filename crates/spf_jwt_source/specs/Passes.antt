-- What contracts see of a pass.
use Rattle.spf_board.specs.Passes as passes
pub use Rattle.spf_board.specs.Passes.{read_of}
use Rattle.spf_system.specs.Marks.{Mark}
use Rattle.spf_jwt_feed.specs.Steps.{PlainStep}

abbrev pub PassView : Type 0
PassView = passes.PassView PlainStep Mark
