use Rattle.std.proofs.Common.{◌≡◌, map, take}
use Rattle.spf_messages.proofs.view.to_entries.Given as goal

abbrev pub invariant-loop-view : goal.invariant-loop-view
invariant-loop-view g l = l.entries.items ≡ map g.V.View.entry_of (take l.view-index l.views)
