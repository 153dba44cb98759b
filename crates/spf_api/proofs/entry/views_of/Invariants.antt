use Rattle.std.proofs.Common.{◌≡◌, map, take}
use Rattle.spf_api.proofs.entry.views_of.Given as goal

abbrev pub invariant-loop-entry : goal.invariant-loop-entry
invariant-loop-entry g l = map g.V.EntryView.entry_of l.views.items ≡ take l.entry-index l.entries
