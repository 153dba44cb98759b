use Rattle.std.proofs.Common.{map}
use Rattle.std.specs.Prelude.{string_bytes}
use Rattle.spf_program.proofs.Settings.{limits_read}
use Rattle.spf_program.proofs.live.limits_of.Goals as goal

pub returns : goal.returns
returns c =
    let default = c.default_limits-default.ensures in
    rw c.new.ensures
    (limits_read (map string_bytes c.args.arguments.now) _ _ _ _
    (rw default at c.in_ok-limit_option.ensures) (rw default at c.in_ok-limit_option-2.ensures)
    (rw default at c.in_ok-limit_option-3.ensures) (rw default at c.in_ok-limit_option-4.ensures))
