-- Whether a snapshot is usable, after a first step and after one more.
use Rattle.std.proofs.Common.{◌≡◌, ℕ, Bool, true, false, not, cond, refl, sym, ap}
use Rattle.spf_view.specs.Views.{View, Waiting, Withdrawn, Permitted}
use Rattle.spf_view.specs.Standing.{Kept, kept_first, kept_next, raised}
use Rattle.spf_view.specs.Steps.{Accept, Deny}
use Rattle.spf_feed.specs.declared.step.Denial.{Denial}
use Rattle.spf_jwt.specs.Bundle.{set_eq}
use Rattle.spf_jwt_feed.specs.Steps.{BundleSet, PlainStep}
use Rattle.spf_jwt_feed.specs.States.{has_authority}
use Rattle.spf_jwt_feed.proofs.ShownLemmas.{sets_same}
use Rattle.spf_jwt_source.specs.Steps.{is_usable, usable_by}

pub usable_first : (step : PlainStep) → usable_by step ≡ is_usable (kept_first step)
usable_first (Accept m l) = refl
usable_first (Deny d) = refl

-- equal bundle sets have a key or not alike
same_usable : (b : Bool) (revision : ℕ) (h m : BundleSet) → set_eq h m ≡ b
    → has_authority m
    ≡ is_usable (cond (not b) (record { revision = raised revision; view = Permitted m })
    (record { revision = revision; view = Permitted h }))
same_usable true revision h m same = ap has_authority (sym (sets_same h m same))
same_usable false revision h m same = refl

usable_at : (revision : ℕ) (view : View BundleSet Denial) (step : PlainStep)
    → usable_by step
    ≡ is_usable (kept_next set_eq (record { revision = revision; view = view }) step)
usable_at revision Waiting (Accept m l) = refl
usable_at revision Waiting (Deny d) = refl
usable_at revision (Withdrawn r) (Accept m l) = refl
usable_at revision (Withdrawn r) (Deny d) = refl
usable_at revision (Permitted h) (Accept m l) = same_usable (set_eq h m) revision h m refl
usable_at revision (Permitted h) (Deny d) = refl

pub usable_next : (kept : Kept BundleSet Denial) (step : PlainStep)
    → usable_by step ≡ is_usable (kept_next set_eq kept step)
usable_next kept step = usable_at kept.revision kept.view step
