use Rattle.std.proofs.Common.{◌-◌, map}
use Rattle.spf_api.specs.Reading.{counted}
use Rattle.spf_api.proofs.Counted.{Goes}
use Rattle.spf_api.proofs.entry.read_entries.Given as goal

abbrev pub invariant-entries : goal.invariant-entries
invariant-entries g l =
    Goes g.V.EntryView.entry_at (l.count - l.counter) (map g.V.EntryView.entry_of l.entries.items)
    l.rest (counted g.V.EntryView.entry_at l.count l.initial.rest)
