use Rattle.std.proofs.Common.{◌<◌, length, sym, rules}
use Rattle.spf_messages.proofs.LastOfEach.{last_of_few}
use Rattle.spf_messages.proofs.named.without_repeats.Goals as goal

pub returns-then-len-lt2 : goal.returns-then-len-lt2
returns-then-len-lt2 g c =
    let few : length c.args.entries.items < 2 = search rules in
    sym (last_of_few g.V.Named.entry_of g.V.Named.name_of c.args.entries.items few)
