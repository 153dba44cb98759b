-- What `position` finds is what `find` gives.
use Rattle.std.proofs.Common.{◌≡◌, ◌≤◌, ℕ, Bool, true, false, cond, List, length, get_or, Some}
use Rattle.std.proofs.Common.{None, nat_lt, find, refl, sym, ap, ◌∙◌, arith}
use Rattle.std.specs.List.{position, position_or_len, slice_get}
use Rattle.std.proofs.lemmas.Bool.{ltb-false}
use Rattle.std.proofs.lemmas.List.Folds.{find_at}
use Rattle.std.proofs.lemmas.List.Quantifiers.{position-Some}
use Rattle.std.proofs.lemmas.List.Sums.{position_or_len_is}
use Rattle.std.proofs.lemmas.Option.{slice_get_past, slice_get_read}

pub found_at : {X : Type 0} (p : X → Bool) (xs : List X) (i : ℕ) (x : X) → position p xs ≡ Some i
    → x ≡ get_or xs i x → Some x ≡ find p xs
found_at p xs i x at read =
    let s = position-Some p xs i x at in
    let within = s.0 in
    let here : position_or_len p xs ≡ i =
    position_or_len_is p xs i x (omega arith) s.2 (λ lt. s.1) in
    sym (find_at p xs ∙ ap (λ k. slice_get xs k) here
    ∙ slice_get_read xs (length xs) i x refl within read)

past : (b : Bool) (n end : ℕ) → nat_lt n end ≡ b → cond b (Some n) None ≡ None → end ≤ n
past true n end is none = absurd cc
past false n end is none = ltb-false n end is

pub found_none : {X : Type 0} (p : X → Bool) (xs : List X) → position p xs ≡ None
    → None ≡ find p xs
found_none p xs none =
    sym (find_at p xs ∙ slice_get_past xs (position_or_len p xs)
    (past (nat_lt (position_or_len p xs) (length xs)) _ _ refl none))
