use Rattle.std.proofs.Common.{◌≡◌, length}
use Rattle.spf_http2.specs.Settings.{window_after}
use Rattle.spf_http2.proofs.settings.initial_window.Given as goal

abbrev pub invariant-loop-setting : goal.invariant-loop-setting
invariant-loop-setting l =
    window_after l.initial' l.most l.pairs ≡ window_after l.fn.initial l.fn.most l.fn.pairs

abbrev pub decreases-loop-setting : goal.decreases-loop-setting
decreases-loop-setting l = length l.pairs
