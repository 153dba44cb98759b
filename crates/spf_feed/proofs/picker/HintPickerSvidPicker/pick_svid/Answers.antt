use Rattle.std.proofs.Common.{◌∙◌, sym}
use Rattle.std.specs.Arc.{arc_value}
use Rattle.spf_feed.specs.Pick.{has_hint}
use Rattle.spf_feed.proofs.Mapped.{position-map}
use Rattle.spf_feed.proofs.picker.HintPickerSvidPicker.pick_svid.Goals as goal

pub returns : goal.returns
returns c =
    c.first_with_hint.ensures
    ∙ sym (position-map (has_hint c.args.self.now.hint) arc_value c.args.svids.now)
