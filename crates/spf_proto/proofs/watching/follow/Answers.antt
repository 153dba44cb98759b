use Rattle.std.proofs.Common.{◌≡◌, arith, refl, to_z, of_z, w64}
use Rattle.std.proofs.lemmas.Int.{ints, to_z-of_z}
use Rattle.spf_proto.proofs.WatchLemmas.{follows_by}
use Rattle.spf_proto.proofs.watching.follow.Goals as goal

pub returns : goal.returns
returns g c =
    let same : to_z w64 (of_z w64 c.args.start) ≡ c.args.start = search (arith, ints, to_z-of_z) in
    record {
      follows = follows_by c.default_limits.result _ c.args.start _ _ _ _ c.follow_proto.result
          c.default_limits.ensures same (c.follow_proto.ensures.followed refl)
          c.follow_proto.ensures.refused c.follow_proto.ensures.only
          c.follow_proto.ensures.cause;
    }
