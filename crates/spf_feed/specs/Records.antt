-- What recorders hold.
use Rattle.std.specs.Prelude.{◌≡◌, List, [], ◌∷◌, ◌++◌, Option, None, Some, Result, Ok, Err}

-- one more, where the list is known; a refused call adds nothing
abbrev pub RecordAppends : {R E : Type 0} → Option (List R) → Option (List R) → Result (Unit {0}) E
    → R → Type 0
RecordAppends None None r x = Unit {0}
RecordAppends None (Some after) r x = ⊥
RecordAppends (Some before) None r x = ⊥
RecordAppends (Some before) (Some after) (Ok done) x = after ≡ before ++ x ∷ []
RecordAppends (Some before) (Some after) (Err e) x = after ≡ before

-- one more, where the list is known
abbrev pub Appended : {R : Type 0} → Option (List R) → Option (List R) → R → Type 0
Appended None None x = Unit {0}
Appended None (Some after) x = ⊥
Appended (Some before) None x = ⊥
Appended (Some before) (Some after) x = after ≡ before ++ x ∷ []

-- one more after a call that went through, and as before after a refused one
abbrev pub AppendsOnce : {R T E : Type 0} → Option (List R) → Option (List R) → Result T E → R
    → Type 0
AppendsOnce old new (Ok done) x = Appended old new x
AppendsOnce old new (Err e) x = new ≡ old
