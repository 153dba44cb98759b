-- The line of a session, after its number.
use Rattle.std.specs.Prelude.{◌≡◌, ℕ, ℤ, Bool, List, Option, is_some}
use Rattle.std.specs.Option.{option_and_then}
use Rattle.spf_view.specs.Standing.{Kept, held_in}
use Rattle.spf_feed.specs.declared.step.Denial.{Denial}
use Rattle.spf_feed.specs.Material.{Material, chosen_of}
use Rattle.spf_feed.specs.Pick.{usable}
use Rattle.spf_feed.specs.Shown.{shown_text}

-- what follows the number, and whether a choice is shown
pub record LineView : Type 0 where
  pub text : List ℕ
  pub shows_choice : Bool

-- it shows what is kept, at this moment
pub record ShowsKept (kept : Kept Material Denial) (now : Option ℤ) (line : LineView) : Type 0 where
  pub text : line.text ≡ shown_text kept.view kept.revision now
  pub choice : line.shows_choice
      ≡ is_some (usable (option_and_then chosen_of (held_in kept.view)) now)
