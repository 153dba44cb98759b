use Rattle.std.proofs.Common.{sym, map}
use Rattle.std.specs.Prelude.{string_bytes}
use Rattle.spf_program.proofs.Settings.{setting_read}
use Rattle.spf_program.proofs.live.live_options.Goals as goal

pub returns-clause-setting : goal.returns-clause-setting
returns-clause-setting c =
    setting_read (map string_bytes c.args.arguments.now) _ _ _ _ _
    (sym c.if-not-are_options.ensures)
    c.in_ok-limits_of.ensures c.in_ok-text_option.ensures c.in_ok-ready_option.ensures
    c.in_ok-seconds_option.ensures c.in_ok-count_option.ensures.value
