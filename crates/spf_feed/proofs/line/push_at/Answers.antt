use Rattle.std.proofs.Common.{◌≤◌, length, rules}
use Rattle.std.proofs.lemmas.Option.{slice_get_past}
use Rattle.spf_feed.proofs.LineLemmas.{nothing_shown}
use Rattle.spf_feed.proofs.line.push_at.Goals as goal

pub returns-in-None-clause-text : goal.returns-in-None-clause-text
returns-in-None-clause-text g c =
    let items = c.args.items.now in
    let past : length items ≤ c.args.index = search rules in
    nothing_shown g.T.Octets.shown items c.args.index c.args.line.now
    (slice_get_past items c.args.index past)
