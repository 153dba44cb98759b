use Rattle.std.proofs.Common.{refl}
use Rattle.spf_feed.proofs.picker.FnPickerSvidPicker.pick_svid.Goals as goal

pub returns : goal.returns
returns g c =
    c.requires.1 c.args.svids.now c.f.result
    (record { shown = c.args.svids; shows = refl; says = record { met = c.f.ensures } })
