use Rattle.std.proofs.Common.{Some, sym, subst}
use Rattle.spf_board.specs.Lists.{steps_of}
use Rattle.spf_feed.specs.Records.{RecordAppends}
use Rattle.spf_jwt_feed.specs.Steps.{MayFollow}
use Rattle.spf_jwt_source.proofs.Posting.{appended, legal_next}
use Rattle.spf_jwt_source.proofs.desk.publish_on.Goals as goal

pub put-requires : goal.put-requires
put-requires g c = λ legal.
    legal_next (steps_of c.args.desk.now.list) c.new.result legal
    (subst (MayFollow (Some (steps_of c.args.desk.now.list))) (sym c.new.ensures) c.requires)

pub returns-clause-appends : goal.returns-clause-appends
returns-clause-appends g c =
    subst (λ s. RecordAppends (Some (steps_of c.args.desk.now.list))
    (Some (steps_of c.put.new.self.list)) c.put.result s) c.new.ensures
    (appended c.put.result c.args.desk.now c.put.new.self c.new.result c.put.ensures.ok
    c.put.ensures.err)
