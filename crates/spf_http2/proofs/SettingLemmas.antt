-- One setting after another.
use Rattle.std.proofs.Common.{◌≡◌, ◌∙◌, ℕ, List, [], ◌∷◌, Some, None, refl, sym, ap, true}
use Rattle.std.proofs.Common.{false, Option}
use Rattle.spf_http2.specs.declared.settings.Setting.{Setting}
use Rattle.spf_http2.specs.Settings.{setting_at, settings_in}
use Rattle.spf_http2.specs.Settings.{initial_after, is_allowed, window_with}
use Rattle.spf_http2.specs.Settings.{window_after}

pub setting_first : (xs : List ℕ) (s : Setting) (rest : List ℕ) → Some (s, rest) ≡ setting_at xs
    → settings_in xs ≡ s ∷ settings_in rest
setting_first [] s rest is = absurd cc
setting_first (a ∷ []) s rest is = absurd cc
setting_first (a ∷ b ∷ []) s rest is = absurd cc
setting_first (a ∷ b ∷ c ∷ []) s rest is = absurd cc
setting_first (a ∷ b ∷ c ∷ d ∷ []) s rest is = absurd cc
setting_first (a ∷ b ∷ c ∷ d ∷ e ∷ []) s rest is = absurd cc
setting_first (a ∷ b ∷ c ∷ d ∷ e ∷ f ∷ more) s rest is =
    ap (λ (o : Option (Setting × List ℕ)). firsts o) (sym is)
  where
    firsts : Option (Setting × List ℕ) → List Setting
    firsts None = []
    firsts (Some x) = x.0 ∷ settings_in x.1

pub setting_none : (xs : List ℕ) → None ≡ setting_at xs → settings_in xs ≡ []
setting_none [] is = refl
setting_none (a ∷ []) is = refl
setting_none (a ∷ b ∷ []) is = refl
setting_none (a ∷ b ∷ c ∷ []) is = refl
setting_none (a ∷ b ∷ c ∷ d ∷ []) is = refl
setting_none (a ∷ b ∷ c ∷ d ∷ e ∷ []) is = refl
setting_none (a ∷ b ∷ c ∷ d ∷ e ∷ f ∷ more) is = absurd cc

-- after an allowed setting the others decide
pub window_goes : (initial most : ℕ) (xs : List ℕ) (s : Setting) (rest : List ℕ)
    → Some (s, rest) ≡ setting_at xs → is_allowed most s ≡ true
    → window_after initial most xs ≡ window_after (window_with s initial) most rest
window_goes initial most xs s rest is allowed =
    ap (initial_after initial most) (setting_first xs s rest is)
    ∙ rw allowed refl

-- one that is not allowed decides
pub window_broken : (initial most : ℕ) (xs : List ℕ) (s : Setting) (rest : List ℕ)
    → Some (s, rest) ≡ setting_at xs → is_allowed most s ≡ false
    → window_after initial most xs ≡ None
window_broken initial most xs s rest is not_it =
    ap (initial_after initial most) (setting_first xs s rest is) ∙ rw not_it refl

pub window_done : (initial most : ℕ) (xs : List ℕ) → None ≡ setting_at xs
    → window_after initial most xs ≡ Some initial
window_done initial most xs is = ap (initial_after initial most) (setting_none xs is)
