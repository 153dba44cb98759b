-- A view that keeps the older material is shown as the latest one.
use Rattle.std.proofs.Common.{◌≡◌, ℕ, true, ◌∷◌, ◌++◌, [], Option, None, refl, ap, sym, ◌∙◌}
use Rattle.std.specs.Prelude.{ℤ, decimal}
use Rattle.spf_view.specs.Views.{View, Waiting, Withdrawn, Permitted}
use Rattle.spf_view.specs.Keeping.{SeenAs}
use Rattle.spf_feed.specs.declared.step.Denial.{Denial}
use Rattle.spf_feed.specs.Material.{Material, same_material}
use Rattle.spf_feed.specs.Shown.{view_line, shown_text}
use Rattle.spf_feed.proofs.ShownLemmas.{material_shown}

-- before the first accepted item no revision and no moment is shown
pub waiting_text : (revision : ℕ) (now : Option ℤ)
    → shown_text Waiting revision now ≡ shown_text Waiting 0 None
unfolding shown_text view_line
waiting_text revision now = refl

same_shows : (a b : Material) (revision : ℕ) (now : Option ℤ) → same_material a b ≡ true
    → shown_text (Permitted a) revision now ≡ shown_text (Permitted b) revision now
unfolding shown_text view_line
same_shows a b revision now same =
    ap (λ t. 32 ∷ (decimal revision ++ t ++ 10 ∷ [])) (material_shown a b now same)

pub shown_seen : (v w : View Material Denial) (revision : ℕ) (now : Option ℤ)
    → SeenAs same_material v w → shown_text v revision now ≡ shown_text w revision now
shown_seen Waiting w revision now seen = absurd seen
shown_seen (Withdrawn d) w revision now seen = ap (λ v. shown_text v revision now) (sym seen)
shown_seen (Permitted m) w revision now seen =
    same_shows m seen.0 revision now seen.2 ∙ ap (λ v. shown_text v revision now) (sym seen.1)
