-- What is kept after one more step, and how it is seen.
use Rattle.std.specs.Prelude.{◌≡◌, ℤ, Bool, true, List, reverse, Option, None, Some}
use Rattle.spf_view.specs.Views.{Subject, View, Waiting, Withdrawn, Permitted}
use Rattle.spf_view.specs.Steps.{Step}
use Rattle.spf_view.specs.Standing.{Kept, KeptAfter, IsShowing, kept_next, shown_by}

-- The first step opens with revision 0. A later one is
-- kept where it makes a change, with the revision raised.
abbrev pub kept_with : {M L D : Type 0} → (M → M → Bool) → Option (Kept M D) → Step M L D
    → Option (Kept M D)
kept_with E None step = Some (record { revision = 0; view = shown_by step })
kept_with E (Some kept) step = Some (kept_next E kept step)

-- no step changes nothing
abbrev pub kept_with_any : {M L D : Type 0} → (M → M → Bool) → Option (Kept M D)
    → Option (Step M L D) → Option (Kept M D)
kept_with_any E kept None = kept
kept_with_any E kept (Some step) = kept_with E kept step

abbrev pub ShowsIf : {M D : Type 0} → Option (Kept M D) → Type 0
ShowsIf None = Unit {0}
ShowsIf (Some kept) = IsShowing kept.view

-- After a history a session stands where its steps put it.
pub record IsAt {E M L D : Type 0} (s : Subject E M L D) (past : List E) (now : Option ℤ)
    (kept : Option (Kept M D)) : Type 0 where
  pub stands : KeptAfter s (reverse past) now kept
  pub shows : ShowsIf kept

-- a view that keeps the older material is seen as this one
abbrev pub SeenAs : {M D : Type 0} → (M → M → Bool) → View M D → View M D → Type 0
SeenAs E Waiting v = ⊥
SeenAs E (Withdrawn d) v = v ≡ Withdrawn d
SeenAs {M} E (Permitted h) v = (m : M) × (v ≡ Permitted m) × (E h m ≡ true)
