use Rattle.std.proofs.Common.{ap, subst, sym, ◌∙◌}
use Rattle.spf_view.specs.Steps.{steps_of}
use Rattle.spf_board.specs.Lists.{steps_of as board_steps}
use Rattle.spf_jwt_source.specs.Governed.{kind_of, rules_of}
use Rattle.spf_feeder.specs.Kept.{progress}
use Rattle.spf_jwt_source.specs.Orderly.{IsOneStep}
use Rattle.spf_jwt_source.proofs.FeedLemmas.{one_step}
use Rattle.spf_feeder.proofs.Joining.{fed_as}
use Rattle.spf_jwt_source.proofs.opening.on_board.Goals as goal

pub opened-requires-clause-once : goal.opened-requires-clause-once
opened-requires-clause-once g c =
    subst IsOneStep
    (sym (ap (λ p. p.steps) c.publisher.ensures.publisher ∙ c.publisher.ensures.published
    ∙ ap (λ core. steps_of (kind_of core.rules).subject core.run) c.session.ensures))
    (one_step (rules_of c.args.feeder.core.rules) c.args.feeder.core.run c.requires.once)

pub new-publisher-requires : goal.new-publisher-requires
new-publisher-requires g c = c.in-Ok.ensures.kept

pub with_publisher-session-requires-clause-published :
    goal.with_publisher-session-requires-clause-published
with_publisher-session-requires-clause-published g c =
    ap (λ p. board_steps p.list) c.new-publisher.ensures ∙ c.in-Ok.ensures.step
    ∙ ap (λ p. p.steps) c.publisher.ensures.publisher ∙ c.publisher.ensures.published
    ∙ ap (λ core. steps_of (kind_of core.rules).subject core.run)
    (c.session.ensures ∙ sym c.split-session.ensures.session)

pub feed-requires : goal.feed-requires
feed-requires g c =
    let split = c.split-session.ensures in
    let core = c.with_publisher-session.ensures.core in
    record {
      fed = fed_as
          (ap (λ s. kind_of s.rules) core
          ∙ ap (λ s. kind_of s.rules) split.session)
          (ap progress core ∙ ap progress split.session) split.asked split.first split.fed;
    }

pub returns-clause-seen : goal.returns-clause-seen
returns-clause-seen g c =
    ap board_steps c.in-Ok.ensures.pass.1 ∙ c.in-Ok.ensures.step
    ∙ ap (λ p. p.steps) c.publisher.ensures.publisher ∙ c.publisher.ensures.published
    ∙ ap (λ core. steps_of (kind_of core.rules).subject core.run)
    c.session.ensures
