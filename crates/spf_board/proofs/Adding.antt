-- The exchange that adds an entry keeps the rule.
use Rattle.std.proofs.Common.{◌≡◌, ◌≢◌, ℕ, ◌+◌, ◌<◌, ◌==◌, Bool, true, false, List, [], ◌∷◌, ◌++◌}
use Rattle.std.proofs.Common.{length, refl, ap, sym, subst, arith, inl, length-append, None}
use Rattle.std.proofs.lemmas.List.{append-nil}
use Rattle.std.proofs.lemmas.Bool.Decides.{nat_tests}
use mathlib.Core.List.{IsPrefix}
use prog.Atomic.{either}
use Rattle.logbook.specs.Pages.{Cell, cell, keeps, no_nib, step, Moves, Goes}
use Rattle.spf_board.specs.declared.entry.Entry.{Entry}
use Rattle.spf_board.specs.Lists.{IsBoardList, MayFollow}
use Rattle.spf_board.specs.Rules.{IsKept, Adds}
use Rattle.spf_board.proofs.Prefixes.{begins_whole, ends_next}

pub board_more : {S : Type 0} (legal : List S → Type 0) (list : List (Entry S)) (e : Entry S)
    → MayFollow legal list e → IsBoardList legal (list ++ e ∷ [])
board_more legal list e may =
    record { steps = may.steps; ends = ends_next list e may.unended }

module _ {S : Type 0} (legal : List S → Type 0) where
  abbrev pub shown : List (Entry S) → List (Entry S)
  shown log = []

  abbrev pub moved : List (Entry S) → List (Entry S) → ℕ → Type 0
  moved xs ys n = Unit {0}

  goes : (log v : List (Entry S)) (e : Entry S) (old : ℕ)
      → length v ≡ old → MayFollow legal v e → (log ≢ [] → IsBoardList legal log) → IsPrefix v log
      → (b : Bool) → (length log == old) ≡ b
      → Goes (IsKept legal) shown moved 0 (v, (no_nib, None)) (λ n. either (n == old) (old + 1) n)
      (Adds legal (step 0 old (old + 1) e) (v, (no_nib, None)))
      ((length log, true) ∷ (0, true) ∷ [])
      log
  goes log v e old len may history pre true is =
      let here : length log ≡ old = grind (arith, nat_tests) in
      let same : v ≡ log = begins_whole v log pre (omega arith) in
      let more : (log ++ e ∷ [] ≢ []) → IsBoardList legal (log ++ e ∷ []) =
      λ _. board_more legal log e (subst (λ l. MayFollow legal l e) same may) in
      let n : either (length log == old) (old + 1) (length log) ≡ length (log ++ e ∷ []) =
      rw is (omega (arith, length-append log (e ∷ []))) in (
        keeps,
        e ∷ [],
        None,
        tt,
        record { words = ap (λ (k : ℕ). (k, true) ∷ (0, true) ∷ []) n; history = more },
        inl (refl, refl),
        rw is (ap (λ w. w ++ e ∷ []) (sym same), more),
      )
  goes log v e old len may history pre false is =
      let all : log ++ [] ≡ log = append-nil log in
      let same : (log ++ [] ≢ []) → IsBoardList legal (log ++ []) =
      subst (λ l. (l ≢ []) → IsBoardList legal l) (sym all) history in
      let n : either (length log == old) (old + 1) (length log) ≡ length (log ++ []) =
      rw is (ap length (sym all)) in (
        keeps,
        [],
        None,
        tt,
        record { words = ap (λ (k : ℕ). (k, true) ∷ (0, true) ∷ []) n; history = same },
        inl (refl, refl),
        rw is (ap length all, same),
      )

  -- whatever the history is, the exchange adds the entry to
  -- all that was seen, or finds that the history is longer
  pub moves : (v : List (Entry S)) (e : Entry S) (old : ℕ) → length v ≡ old → MayFollow legal v e
      → Moves (IsKept legal) shown moved 0 (v, (no_nib, None)) (λ n. either (n == old) (old + 1) n)
      (Adds legal (step 0 old (old + 1) e) (v, (no_nib, None)))
  moves v e old len may cs log kept pre away =
      let P : List Cell → Type 0 = λ c.
      (0 < length c) × ((cell c 0).1 ≡ true)
      × Goes (IsKept legal) shown moved 0 (v, (no_nib, None))
      (λ n. either (n == old) (old + 1) n)
      (Adds legal (step 0 old (old + 1) e) (v, (no_nib, None))) c log in
      subst P (sym kept.words) (
        omega arith,
        refl,
        goes log v e old len may kept.history pre (length log == old) refl,
      )
