-- The choice of an SVID.
use Rattle.std.specs.Prelude.{◌≡◌, ℕ, ℤ, int_lt, Bool, false, List, [], ◌∷◌, length, Option, Some}
use Rattle.std.specs.Prelude.{None, position, map, nat_lt, if◌then◌else◌}
use Rattle.std.specs.Str.{bytes_eq}
use Rattle.std.specs.Option.{option_map_or, option_and_then}
use Rattle.std.specs.Prelude.{slice_get}
use Rattle.std.specs.Borrow.{Bor}
use Rattle.std.specs.Fn.{Shared, FnReturnsAt}
use Rattle.std.specs.Arc.{arc_value}
use Rattle.std.specs.declared.sync.Arc.{Arc}
use Rattle.std.specs.declared.alloc.Global.{Global}
use Rattle.spf_x509.specs.Svid.{Svid}

abbrev pub first_index : List Svid → Option ℕ
first_index [] = None
first_index (svid ∷ svids) = Some 0

-- an index that is in range
abbrev pub in_range : List Svid → Option ℕ → Option ℕ
in_range svids None = None
in_range svids (Some index) = if nat_lt index (length svids) then Some index else None

-- the index of the choice: what the picker returns, or the first index where none is set
abbrev pub pick_of : Option (List Svid → Option ℕ) → List Svid → Option ℕ
pick_of None svids = first_index svids
pick_of (Some pick) svids = in_range svids (pick svids)

-- the SVID at the index of a choice
abbrev pub choice_of : List Svid → Option ℕ → Option Svid
choice_of svids choice = option_and_then (slice_get svids) choice

-- the SVID, where there is a moment and its expiry is above it
abbrev pub usable : Option Svid → Option ℤ → Option Svid
usable None now = None
usable (Some svid) None = None
usable (Some svid) (Some now) = if int_lt now svid.expiry then Some svid else None

abbrev pub has_hint : List ℕ → Svid → Bool
has_hint hint svid = option_map_or (λ own. bytes_eq own hint) svid.hint false

-- the index of the first SVID with that hint
abbrev pub first_with_hint : List ℕ → List Svid → Option ℕ
first_with_hint hint svids = position (has_hint hint) svids

-- the closure returns what the function gives
abbrev pub AnswersBy : {F : Type 0} → Shared F (Bor (List (Arc Svid Global)) × Unit {0}) (Option ℕ)
    → F → (List Svid → Option ℕ) → Type 0
AnswersBy g f function = (svids : List (Arc Svid Global)) (answer : Option ℕ)
    → FnReturnsAt g f svids answer → answer ≡ function (map arc_value svids)
