use Rattle.spf_messages.proofs.LastOfEach.{kept_with}
use Rattle.spf_messages.proofs.named.last_of_each.Goals as goal

pub loop-entry-preserved : goal.loop-entry-preserved
loop-entry-preserved g c =
    kept_with g.V.Named.entry_of g.V.Named.name_of c.args.entries.items _ _ _ _ _ _ _
    c.in-Some.entry c.in-Some.ensures.items c.name-name.ensures c.in_ok-keep.ensures
    c.loop-entry.invariant
