use Rattle.std.proofs.Common.{sym, ap, ◌∙◌}
use Rattle.std.specs.Arc.{arc_value}
use Rattle.std.specs.Prelude.{slice_get}
use Rattle.spf_feed.specs.Pick.{choice_of}
use Rattle.spf_feed.proofs.Read.{seen_read}
use Rattle.spf_feed.proofs.picker.chosen.Goals as goal

pub returns-in-None : goal.returns-in-None
returns-in-None c = sym (ap (choice_of c.args.context.now.svids) c.in-None.is)

pub returns-in-Some : goal.returns-in-Some
returns-in-Some c =
    seen_read arc_value c.svids.result.now c.in-Some.index c.get.result c.get.ensures.lookup
    ∙ ap (λ svids. slice_get svids c.in-Some.index) c.svids.ensures
    ∙ sym (ap (choice_of c.args.context.now.svids) c.in-Some.is)
