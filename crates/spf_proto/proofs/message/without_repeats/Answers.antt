use Rattle.std.proofs.Common.{◌<◌, length, sym, rules}
use Rattle.spf_proto.proofs.LastOfEach.{last_of_few}
use Rattle.spf_proto.proofs.message.without_repeats.Goals as goal

pub returns-then-len-lt2 : goal.returns-then-len-lt2
returns-then-len-lt2 c =
    let few : length c.args.entries.items < 2 = search rules in
    sym (last_of_few c.args.entries.items few)
