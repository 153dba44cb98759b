use Rattle.std.proofs.Common.{ap, Ok}
use Rattle.spf_api.specs.Parsed.{bundle_for}
use Rattle.spf_api.proofs.response_rule.add_other_bundle.Goals as goal

pub returns-then-holds_parsed : goal.returns-then-holds_parsed
unfolding bundle_for
returns-then-holds_parsed c =
    let yes = c.if-holds_parsed.true in
    let is = c.holds_parsed.ensures.is_in.0 yes in
    rw is.read (ap Ok (c.holds_parsed.ensures.unchanged yes is.bundle is.read))
