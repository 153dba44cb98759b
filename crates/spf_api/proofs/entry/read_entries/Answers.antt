use Rattle.std.proofs.Common.{◌-◌, ◌+◌, ◌≡◌, ◌<◌, ◌++◌, ◌∷◌, [], map, sym, arith}
use Rattle.std.proofs.lemmas.List.{map_push}
use Rattle.spf_api.specs.Reading.{counted}
use Rattle.spf_api.proofs.Counted.{counted_more, counted_fails}
use Rattle.spf_api.proofs.entry.read_entries.Goals as goal

pub returns-in_default-read : goal.returns-in_default-read
returns-in_default-read g c =
    let some : 0 < c.in-Some.count - c.entries.counter = omega arith in
    rw (← c.in-Some.ensures)
    (counted_fails g.V.EntryView.entry_at (c.in-Some.count - c.entries.counter)
    (map g.V.EntryView.entry_of c.entries.entries.items) c.entries.rest.now
    (counted g.V.EntryView.entry_at c.in-Some.count c.in-Some.rest.now) some
    (sym {b = g.V.EntryView.entry_at c.entries.rest.now} c.in_default-read.ensures)
    c.entries.invariant)

pub entries-preserved : goal.entries-preserved
entries-preserved g c =
    let found = c.in-Some-read in
    let left : c.in-Some.count - c.entries.counter
    ≡ (c.in-Some.count - (c.entries.counter + 1)) + 1 = omega arith in
    let pushed : map g.V.EntryView.entry_of c.push.new.self.items
    ≡ map g.V.EntryView.entry_of c.entries.entries.items
    ++ g.V.EntryView.entry_of found.entry ∷ [] =
    rw c.in_ok-push.ensures.items
    (map_push g.V.EntryView.entry_of c.entries.entries.items found.entry) in
    rw pushed
    (counted_more g.V.EntryView.entry_at (c.in-Some.count - c.entries.counter)
    (c.in-Some.count - (c.entries.counter + 1)) (map g.V.EntryView.entry_of c.entries.entries.items)
    c.entries.rest.now (counted g.V.EntryView.entry_at c.in-Some.count c.in-Some.rest.now)
    (g.V.EntryView.entry_of found.entry) found.after.now left
    (sym {b = g.V.EntryView.entry_at c.entries.rest.now} found.ensures) c.entries.invariant)
