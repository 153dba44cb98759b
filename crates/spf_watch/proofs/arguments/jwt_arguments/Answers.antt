use Rattle.std.proofs.Common.{sym, map}
use Rattle.std.specs.Prelude.{string_bytes}
use Rattle.spf_watch.proofs.Settings.{jwt_setting_read}
use Rattle.spf_watch.proofs.arguments.jwt_arguments.Goals as goal

pub returns : goal.returns
returns c =
    let default = c.default_limits-limits.ensures in
    rw c.new.ensures
    (jwt_setting_read (map string_bytes c.args.arguments.now) _ _ _ _
    (sym c.if-not-are_options.ensures)
    c.in_ok-no_option.ensures c.in_ok-no_option-2.ensures c.in_ok-no_option-3.ensures
    c.in_ok-no_option-4.ensures
    (rw default at c.in_ok-limit_option.ensures) (rw default at c.in_ok-limit_option-2.ensures)
    c.in_ok-moment_option.ensures c.in_ok-number_option.ensures)
