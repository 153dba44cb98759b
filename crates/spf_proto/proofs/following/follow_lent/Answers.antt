use Rattle.std.proofs.Common.{◌∙◌, ◌<◌, ◌^◌, ap, sym, arith}
use Rattle.spf_feed.specs.Items.{rules_with}
use Rattle.std.specs.Option.{option_map}
use Rattle.spf_proto.specs.Beginning.{Beginning}
use Rattle.spf_proto.specs.Following.{is_due}
use Rattle.spf_proto.proofs.BeginningLemmas.{cut_at_start}
use Rattle.spf_proto.proofs.BodyErrorLemmas.{result_tells}
use Rattle.spf_proto.proofs.EndLemmas.{causes_of}
use Rattle.spf_proto.proofs.FollowedLemmas.{begun_left, followed_body, followed_since}
use Rattle.spf_proto.proofs.following.follow_lent.Goals as goal

pub returns-clause-cause : goal.returns-clause-cause
returns-clause-cause g c =
    causes_of g.T.LentSource.loan g.T.LentSource.left g.T.LentSource.failures g.N.Origin.begin _
    c.result_of-result.new.self c.follow_x509_sharing-followed.result c.of-end.result
    c.result_of-result.result _ _ c.into_source.result c.into_source.ensures.knows
    c.of-end.ensures c.result_of-result.ensures c.follow_x509_sharing-followed.ensures.cause
    c.into_source.ensures.source

pub returns-clause-refused : goal.returns-clause-refused
returns-clause-refused g c =
    result_tells g.T.LentSource.loan g.T.LentSource.left g.T.LentSource.failures g.N.Origin.begin _
    c.result_of-result.new.self c.of-end.result c.result_of-result.result
    c.into_source.ensures.knows c.result_of-result.ensures

pub returns-clause-followed : goal.returns-clause-followed
returns-clause-followed g c =
    let begin = c.requires.begin in
    let rules = rules_with c.args.acceptance.limits c.args.deadline c.args.acceptance.ready
    (option_map (λ p. g.C.SvidPicker.picks p.now) c.args.picker) in
    let start = ap (λ (b : Beginning). b.start) begin ∙ c.requires.moment in
    let max = ap (λ (b : Beginning). b.max) begin in
    let few : g.N.Origin.begin.max < 2 ^ 32 =
    let fits = c.ranges.max_messages.fits in omega (arith, max, fits) in
    let due = ap (is_due c.args.deadline) (sym c.requires.moment) ∙ c.requires.early in
    let frames = begun_left g.T.LentSource.left g.N.Origin.begin rules c.args.seconds c.args.source
    _ c.args.max_messages _ c.new-translator.ensures.begun c.in-Ok.ensures
    (ap (λ (b : Beginning). b.rules) begin) start (sym (ap (λ (b : Beginning). b.left) begin))
    (sym max) in
    followed_since rules g.N.Origin.begin _ _ _ c.result_of-result.result begin
    (followed_body g.T.LentSource.loan g.T.LentSource.left g.T.LentSource.failures g.N.Origin.begin
    c.result_of-result.new.self rules c.args.seconds _ _ c.follow_x509_sharing-followed.result
    c.of-end.result c.result_of-result.result c.into_source.ensures.knows start c.requires.small
    few due frames c.follow_x509_sharing-followed.ensures.followed c.of-end.ensures
    c.result_of-result.ensures)

pub returns-in_default-clause-followed : goal.returns-in_default-clause-followed
returns-in_default-clause-followed g c = cut_at_start _ _ _ _ _
