use Rattle.std.proofs.Common.{[], ◌∷◌, ◌++◌, sym, ◌∙◌, subst}
use Rattle.spf_view.specs.Standing.{Kept, Stands}
use Rattle.spf_view.proofs.StandsLemmas.{stands_changed, stands_unchanged}
use Rattle.spf_feed.specs.declared.step.Denial.{Denial}
use Rattle.spf_feed.specs.Steps.{Material, same_material}
use Rattle.spf_feed.proofs.Alike.{material_equiv}
use Rattle.spf_feed.proofs.snapshot.Snapshot.apply.Goals as goal

pub returns-then-is_changed_by-clause-stands : goal.returns-then-is_changed_by-clause-stands
returns-then-is_changed_by-clause-stands c = λ steps h.
    subst (λ (k : Kept Material Denial). Stands same_material (steps ++ c.args.step ∷ []) k)
    (sym c.show.ensures)
    (stands_changed same_material material_equiv steps c.args.self.now c.args.step
    c.is_changed_by.ensures.showing h (sym c.is_changed_by.ensures.value ∙ c.if-is_changed_by.true))

pub returns-else-is_changed_by-clause-stands : goal.returns-else-is_changed_by-clause-stands
returns-else-is_changed_by-clause-stands c = λ steps h.
    stands_unchanged same_material material_equiv steps c.args.self.now c.args.step
    c.is_changed_by.ensures.showing h (sym c.is_changed_by.ensures.value ∙ c.if-is_changed_by.false)
