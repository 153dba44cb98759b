-- How a view is shown at a moment: the line of an event without its number.
use Rattle.std.specs.Prelude.{ℕ, ℤ, List, [], ◌∷◌, ◌++◌, codes, decimal, Option}
use Rattle.std.specs.List.{flat_map}
use Rattle.std.specs.Ordering.{nat_cmp}
use Rattle.std.specs.Cmp.Lexicographic.{slice_cmp}
use Rattle.spf_view.specs.Views.{View, Waiting, Withdrawn, Permitted}
use Rattle.spf_x509.specs.Bag.{in_order}
use Rattle.spf_x509.specs.Bundle.{Bundle}
use Rattle.spf_x509.specs.Context.{Context}
use Rattle.spf_x509.specs.Svid.{Svid}
use Rattle.spf_feed.specs.declared.step.Denial.{Denial}
use Rattle.spf_feed.specs.Lines.{hex_list, choice_text, withdrawn_text}
use Rattle.spf_feed.specs.Material.{Material, chosen_of}
use Rattle.spf_feed.specs.Pick.{usable}

-- byte texts sorted by bytes, each in hexadecimal, with commas between
abbrev pub sorted_text : List (List ℕ) → List ℕ
sorted_text members = hex_list (λ c. c) (in_order (slice_cmp nat_cmp) members)

-- a trust domain, and its authorities
abbrev pub entry_text : List ℕ × Bundle → List ℕ
entry_text e = 32 ∷ e.0 ++ 61 ∷ sorted_text e.1.authorities

-- the CRLs, where there is one
abbrev pub revocations_text : List (List ℕ) → List ℕ
revocations_text [] = []
revocations_text (crl ∷ others) = codes " #" ++ sorted_text (crl ∷ others)

-- a context, and the choice that is shown
abbrev pub context_text : Context → Option Svid → List ℕ
context_text context choice =
    codes " permitted" ++ choice_text choice ++ flat_map entry_text context.bundles
    ++ revocations_text context.crls

-- what is visible after the revision: the choice while its expiry is above the moment
abbrev pub visible_text : View Material Denial → Option ℤ → List ℕ
visible_text Waiting now = []
visible_text (Withdrawn reason) now = withdrawn_text reason
visible_text (Permitted material) now =
    context_text material.context (usable (chosen_of material) now)

-- the revision, what is visible, and a line feed;
-- before the first accepted item there is no revision
unfoldable pub view_line : View Material Denial → ℕ → Option ℤ → List ℕ
view_line Waiting revision now = codes "waiting" ++ 10 ∷ []
view_line view revision now = decimal revision ++ visible_text view now ++ 10 ∷ []

-- Shown: the same after the event's number
unfoldable pub shown_text : View Material Denial → ℕ → Option ℤ → List ℕ
shown_text view revision now = 32 ∷ view_line view revision now
