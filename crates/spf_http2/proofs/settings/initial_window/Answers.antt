use Rattle.std.proofs.Common.{◌∙◌, sym}
use Rattle.spf_http2.proofs.SettingLemmas.{window_goes}
use Rattle.spf_http2.proofs.settings.initial_window.Goals as goal

pub loop-setting-preserved : goal.loop-setting-preserved
loop-setting-preserved c =
    let allowed = sym c.is_allowed.ensures ∙ c.if-not-is_allowed.false in
    rw c.window_with-initial.ensures
    (sym
    (window_goes c.loop-setting.initial' c.args.most c.loop-setting.pairs.now c.in-Some.setting
    c.in-Some.rest.now c.in-Some.ensures.exact allowed) ∙ c.loop-setting.invariant)
