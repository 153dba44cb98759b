use Rattle.std.proofs.Common.{◌∙◌}
use Rattle.spf_live.proofs.Printed.{prints_part, prints_state}
use Rattle.spf_live.proofs.printing.print_state.Goals as goal

pub returns-in-Ok-put-clause-line : goal.returns-in-Ok-put-clause-line
returns-in-Ok-put-clause-line g c =
    prints_state c.state.new.self.pass.seen c.state.new.self.marked _ _ _ _ c.in-Ok.state
    c.now-now.result c.as_bytes.result.now c.in-Ok.ensures.state c.in-Ok.ensures.marked
    c.now-now.ensures.gives
    (c.as_bytes.ensures.value ∙ c.as_str.ensures ∙ c.in-Ok-state_line.ensures)
    c.in-Ok-put.ensures.bytes

pub returns-in-Err-put-clause-line : goal.returns-in-Err-put-clause-line
returns-in-Err-put-clause-line g c =
    prints_part c.state.new.self.pass.seen c.state.new.self.marked _ _ _ _ c.in-Ok.state
    c.now-now.result c.as_bytes.result.now c.in-Ok.ensures.state c.in-Ok.ensures.marked
    c.now-now.ensures.gives
    (c.as_bytes.ensures.value ∙ c.as_str.ensures ∙ c.in-Ok-state_line.ensures)
    c.in-Err-put.ensures.bytes
