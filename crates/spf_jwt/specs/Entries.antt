-- Values by names, in the order of the names, each name once.
use Rattle.std.specs.Prelude.{◌≡◌, ◌≢◌, ℕ, List}
use Rattle.std.specs.Ordering.{nat_cmp}
use Rattle.std.specs.Cmp.Lexicographic.{slice_cmp}
use Rattle.std.specs.List.Sorted.{IsStrictlySortedBy}
use Rattle.std.specs.Map.{keys_of}
use Rattle.spf_x509.specs.Bundle.{find_entry}

-- each name stands before those after it in the order of their bytes, so none stands twice
abbrev pub IsInOrder : {V : Type 0} → List (List ℕ × V) → Type 0
IsInOrder es = IsStrictlySortedBy (slice_cmp nat_cmp) (keys_of es)

-- each other name has the value that it had
abbrev pub KeepsOthers : {V : Type 0} → List ℕ → List (List ℕ × V) → List (List ℕ × V) → Type 0
KeepsOthers changed old new = (name : List ℕ) → name ≢ changed
    → find_entry name new ≡ find_entry name old
