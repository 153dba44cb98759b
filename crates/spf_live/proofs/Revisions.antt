-- Revisions never fall where steps are added.
use Rattle.std.proofs.Common.{◌≡◌, sym, ap, ◌∙◌, refl, subst, ℕ, ◌≤◌, ◌-◌, ◌^◌, Bool, true, false}
use Rattle.std.proofs.Common.{cond, List, [], ◌∷◌, ◌++◌, append_assoc, map, reverse, length, min}
use Rattle.std.proofs.Common.{arith}
use Rattle.std.proofs.lemmas.List.{append-nil, length-reverse}
use mathlib.Core.List.{IsPrefix}
use Rattle.spf_board.specs.declared.entry.Entry.{Entry}
use Rattle.spf_board.specs.declared.entry.Entry.TheVariants as entry
use Rattle.spf_board.specs.Lists.{steps_of}
use Rattle.spf_view.specs.Steps.{Step, Accept, Deny, BeginsWithAccept, done, replay_revision}
use Rattle.spf_view.specs.Steps.{replay_view}
use Rattle.spf_view.specs.Views.{same_view, view_of}
use Rattle.spf_view.specs.Standing.{raised}
use Rattle.spf_view.proofs.RevisionLemmas.{revision_more}
use Rattle.spf_view.proofs.ViewLemmas.{last_first}
use Rattle.spf_feed.specs.Steps.{StateView, same_material}
use Rattle.spiffe.specs.States.{IsStateOf}
use Rattle.spiffe.specs.Passes.{Seen}

same_or_raised : (b : Bool) (r : ℕ) → r ≤ 2 ^ 64 - 1 → r ≤ cond b r (raised r)
same_or_raised true r l = omega arith
same_or_raised false r l = omega (arith, l)

min_below : (n k : ℕ) → min n k ≤ k
min_below n k = omega arith

not_lower : (r n m : ℕ) → r ≤ n → n ≤ m → r ≤ m
not_lower r n m p q = omega (arith, p, q)

by_equal : (x y n m : ℕ) → x ≡ n → y ≡ m → n ≤ m → x ≤ y
by_equal x y n m p q l = omega (arith, p, q, l)

some_reversed : {M L D : Type 0} (steps : List (Step M L D)) (s : Step M L D)
    → reverse (steps ++ s ∷ []) ≡ [] → ⊥
some_reversed steps s none = let first : s ∷ reverse steps ≡ [] =
    sym (last_first steps s) ∙ none in cc

one_more : {M L D : Type 0} (E : M → M → Bool) (steps : List (Step M L D)) (s : Step M L D)
    → (reverse steps ≡ [] → ⊥) → replay_revision E steps ≤ replay_revision E (steps ++ s ∷ [])
one_more E steps s some =
    let same = same_view E (replay_view steps) (view_of (done s ∷ map done (reverse steps))) in
    subst (λ (n : ℕ). replay_revision E steps ≤ n) (sym (revision_more E s steps same some refl))
    (same_or_raised same (replay_revision E steps) (min_below _ _))

more : {M L D : Type 0} (E : M → M → Bool) (steps later : List (Step M L D))
    → (reverse steps ≡ [] → ⊥) → replay_revision E steps ≤ replay_revision E (steps ++ later)
more E steps [] some =
    subst (λ (n : ℕ). replay_revision E steps ≤ n)
    (ap (replay_revision E) (sym (append-nil steps))) (omega arith)
more {M} {L} {D} E steps (s ∷ later) some =
    not_lower (replay_revision E steps) (replay_revision E (steps ++ s ∷ []))
    (replay_revision E (steps ++ s ∷ later)) (one_more E steps s some)
    (subst (λ (l : List (Step M L D)).
    replay_revision E (steps ++ s ∷ []) ≤ replay_revision E l) (append_assoc steps (s ∷ []) later)
    (more E (steps ++ s ∷ []) later (some_reversed steps s)))

begun : {M L D : Type 0} (steps : List (Step M L D)) → BeginsWithAccept steps
    → reverse steps ≡ [] → ⊥
begun [] begins none = begins
begun (Accept m l ∷ later) begins none =
    let same = length-reverse (Accept m l ∷ later) in
    let empty = ap length none in
    absurd (omega (arith, same, empty))
begun (Deny d ∷ later) begins none = begins

steps_append : {S : Type 0} (a b : List (Entry S)) → steps_of (a ++ b) ≡ steps_of a ++ steps_of b
unfolding steps_of
steps_append [] b = refl
steps_append (entry.Step s ∷ a) b = ap (λ l. s ∷ l) (steps_append a b)
steps_append (entry.End ∷ a) b = steps_append a b

-- a state of a longer list has no lower revision
pub not_fallen : (a b : Seen) (closed closed' : Bool) (s s' : StateView) → IsPrefix a b
    → IsStateOf a closed s → IsStateOf b closed' s' → s.revision ≤ s'.revision
not_fallen a b closed closed' s s' grows is is' =
    let longer = ap steps_of (sym grows.1) ∙ steps_append a grows.0 in
    by_equal s.revision s'.revision (replay_revision same_material (steps_of a))
    (replay_revision same_material (steps_of a ++ steps_of grows.0))
    is.replay.stands.revision_is
    (is'.replay.stands.revision_is ∙ ap (replay_revision same_material) longer)
    (more same_material (steps_of a) (steps_of grows.0) (begun (steps_of a) is.legal.begins))
