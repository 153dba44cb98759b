use Rattle.std.proofs.Common.{[], ◌∷◌, ◌++◌, sym, ◌∙◌, subst}
use Rattle.spf_view.specs.Standing.{Kept, Stands}
use Rattle.spf_view.proofs.StandsLemmas.{stands_changed, stands_unchanged}
use Rattle.spf_jwt.specs.Bundle.{set_eq}
use Rattle.spf_jwt.specs.Laws.{set_equiv}
use Rattle.spf_feed.specs.declared.step.Denial.{Denial}
use Rattle.spf_jwt_feed.specs.Steps.{BundleSet, plain}
use Rattle.spf_jwt_feed.proofs.snapshot.JwtSnapshot.apply.Goals as goal

pub returns-then-is_changed_by-clause-stands : goal.returns-then-is_changed_by-clause-stands
returns-then-is_changed_by-clause-stands c = λ steps h.
    subst (λ (k : Kept BundleSet Denial). Stands set_eq (steps ++ plain c.args.step ∷ []) k)
    (sym c.show.ensures)
    (stands_changed set_eq set_equiv steps c.args.self.now (plain c.args.step)
    c.is_changed_by.ensures.showing h (sym c.is_changed_by.ensures.value ∙ c.if-is_changed_by.true))

pub returns-else-is_changed_by-clause-stands : goal.returns-else-is_changed_by-clause-stands
returns-else-is_changed_by-clause-stands c = λ steps h.
    stands_unchanged set_eq set_equiv steps c.args.self.now (plain c.args.step)
    c.is_changed_by.ensures.showing h (sym c.is_changed_by.ensures.value ∙ c.if-is_changed_by.false)
