-- The revision never falls.
use Rattle.std.proofs.Common.{◌≡◌, ℕ, ◌+◌, ◌-◌, ◌^◌, ◌≤◌, min, Bool, true, false, cond, List, []}
use Rattle.std.proofs.Common.{◌∷◌, ◌++◌, map, reverse, refl, sym, ap, ◌∙◌, subst, arith}
use Rattle.std.proofs.lemmas.List.{append-nil, append_assoc}
use Rattle.spf_view.specs.Views.{changes, revision_of, same_view, view_of, views_of}
use Rattle.spf_view.specs.Steps.{Step, done, replay_view, replay_revision}
use Rattle.spf_view.specs.Standing.{raised}
use Rattle.spf_view.proofs.RevisionLemmas.{revision_more}

raised_up : (b : Bool) (n : ℕ) → let r = min n (2 ^ 64 - 1) in r ≤ cond b r (raised r)
raised_up true n = omega arith
raised_up false n = omega arith

one_more : {M L D : Type 0} (E : M → M → Bool) (s : Step M L D) (past : List (Step M L D))
    (steps : List (Step M L D)) → reverse steps ≡ past
    → replay_revision E steps ≤ replay_revision E (steps ++ s ∷ [])
one_more E s [] steps is =
    subst (λ (n : ℕ). n ≤ replay_revision E (steps ++ s ∷ []))
    (sym (ap (λ p. revision_of E (map done p)) is)) (omega arith)
one_more E s (p ∷ past) steps is =
    let b = same_view E (replay_view steps) (view_of (done s ∷ map done (reverse steps))) in
    subst (λ (n : ℕ). replay_revision E steps ≤ n)
    (sym (revision_more E s steps b (λ none. let bad : p ∷ past ≡ [] = sym is ∙ none in cc) refl))
    (raised_up b (changes (same_view E) (views_of (map done (reverse steps)))))

pub never_falls : {M L D : Type 0} (E : M → M → Bool) (steps more : List (Step M L D))
    → replay_revision E steps ≤ replay_revision E (steps ++ more)
never_falls E steps [] =
    subst (λ l. replay_revision E steps ≤ replay_revision E l) (sym (append-nil steps))
    (omega arith)
never_falls E steps (s ∷ more) =
    let first = one_more E s (reverse steps) steps refl in
    let rest = subst (λ l. replay_revision E (steps ++ s ∷ []) ≤ replay_revision E l)
    (append_assoc steps (s ∷ []) more) (never_falls E (steps ++ s ∷ []) more) in
    omega arith
