use Rattle.std.proofs.Common.{◌≡◌, ◌∙◌, ◌≤◌, ap, sym, length, take}
use Rattle.std.proofs.Common.{length-take-le, rules}
use Rattle.std.proofs.lemmas.List.{with_items_is}
use Rattle.spf_proto.proofs.TakingLemmas.{came_read}
use Rattle.spf_proto.proofs.incoming.Incoming.read_from.Goals as goal

pub returns-in-Ok-read-clause-came : goal.returns-in-Ok-read-clause-came
returns-in-Ok-read-clause-came g c =
    let filled = c.self.inside.filled in
    let got = c.args.self.now in
    let front : take filled c.deref_mut.result.now ≡ got =
    ap (take filled) c.deref_mut.ensures.value ∙ c.in-Ok.ensures.kept ∙ c.self.view_is in
    let within : filled ≤ length c.self.inside.buffer.items = search rules in
    let long : length got ≡ filled =
    ap length (sym c.self.view_is)
    ∙ length-take-le filled c.self.inside.buffer.items within in
    came_read (g.T.LentSource.left c.args.source.now) (g.T.LentSource.left c.read.new.self) got
    _ (take filled c.deref_mut.result.now) c.read.new.buf _ filled c.in-Ok-read.n
    (with_items_is c.make_room.new.buffer _ (search rules)) front long
    c.in-Ok-read.ensures.bound.0 c.in-Ok-read.ensures.bytes.0
