use Rattle.std.proofs.Common.{rules, refl, sym, ◌∙◌}
use Rattle.spf_system.proofs.PaceLemmas.{after_growth, after_none}
use Rattle.spf_system.proofs.pace.Pace.after.Goals as goal

pub returns-then-grows-clause-paces : goal.returns-then-grows-clause-paces
returns-then-grows-clause-paces g c = λ synced steps are paces.
    after_growth synced steps c.args.end c.next_u64-word.result c.after-delay.result
    c.args.self.now _ refl (search rules) (search rules) (sym c.grows.ensures ∙ c.if-grows.true)
    (λ bounds past stands. (
      c.after-delay.ensures.pause bounds past stands,
      c.after-delay.ensures.stands bounds past stands,
    ))
    are paces

pub returns-clause-paces : goal.returns-clause-paces
returns-clause-paces g c = λ synced steps are paces.
    after_none synced steps c.args.end c.after-delay-2.result c.args.self.now _ refl (search rules)
    (search rules) (sym c.grows.ensures ∙ c.if-grows.false)
    (λ bounds past stands. (
      c.after-delay-2.ensures.pause bounds past stands,
      c.after-delay-2.ensures.stands bounds past stands,
    )) are paces
