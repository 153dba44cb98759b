use Rattle.spf_feed.specs.Steps.{plain}
use Rattle.spf_helper.proofs.KeepingLemmas.{kept_more}
use Rattle.spf_helper.proofs.call.CallPublisherPublisher.publish.Goals as goal

pub invariant_of-self : goal.invariant_of-self
invariant_of-self g c =
    kept_more g.D.Disk.seen g.D.Disk.may_leave g.D.Disk.moment g.D.Disk.left_since
    g.D.Disk.failures g.N.Origin.begin g.N.Origin.past c.self.inside.inner c.publish.new.self
    (plain c.args.step) c.publish.result c.self.invariant c.publish.ensures.appends
    c.publish.ensures.refused c.publish.ensures.same_base c.publish.ensures.same_reference
    c.publish.ensures.any_moment c.publish.ensures.later c.publish.ensures.fault
    c.publish.ensures.full c.publish.ensures.stopped c.publish.ensures.standing
