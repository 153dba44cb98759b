use Rattle.std.proofs.Common.{sym, map}
use Rattle.std.specs.Prelude.{string_bytes}
use Rattle.spf_watch.proofs.Settings.{setting_read}
use Rattle.spf_watch.proofs.arguments.x509_arguments.Goals as goal

pub returns : goal.returns
returns c =
    let default = c.default_limits-limits.ensures in
    rw c.new.ensures
    (setting_read (map string_bytes c.args.arguments.now) _ _ _ _ _ _ _ _
    (sym c.if-not-are_options.ensures)
    (rw default at c.in_ok-limit_option.ensures) (rw default at c.in_ok-limit_option-2.ensures)
    (rw default at c.in_ok-limit_option-3.ensures) (rw default at c.in_ok-limit_option-4.ensures)
    c.in_ok-moment_option.ensures c.in_ok-number_option.ensures c.in_ok-text_option.ensures
    c.in_ok-ready_option.ensures)
