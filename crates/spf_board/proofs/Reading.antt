-- What a pass takes in.
use Rattle.std.proofs.Common.{◌≡◌, ℕ, ◌+◌, ◌-◌, ◌^◌, ◌<◌, ◌≤◌, min, List, refl, sym, ap, ◌∙◌, subst}
use Rattle.std.proofs.Common.{inl, inr, arith, lt_of_not-le, length}
use native.Mathlib.Decide.{dec_le}
use mathlib.Core.List.{IsPrefix}
use Rattle.spf_board.specs.Lists.{steps_of, IsBoardList}
use Rattle.spf_board.specs.Past.{Past}
use Rattle.spf_board.proofs.Prefixes.{begins_self, begins_trans, ended_stays}
use Rattle.spf_board.specs.declared.rule.Place.{Place}
use Rattle.spf_io.specs.Outside.{Rose}
use Rattle.spf_board.specs.Passes.{remembered, passed, KeepsAll, Finds, Renews, Peeks}

either_way : {missed : ℕ} → Dec (2 ^ 64 - 1 ≤ missed) → Rose missed (min (missed + 1) (2 ^ 64 - 1))
either_way (yes full) = inr (omega arith)
either_way {missed} (no room) =
    inl (let r : missed < 2 ^ 64 - 1 = lt_of_not-le room in omega arith)

pub rose : (missed : ℕ) → Rose missed (min (missed + 1) (2 ^ 64 - 1))
rose missed = either_way (dec_le (2 ^ 64 - 1) missed)

module _ {S : Type 0} where
  -- a read that was kept
  pub keeps_taken : (seen entered now then : Past S) (m n : ℕ) → then ≡ now
      → entered.book ≡ seen.book → now.book ≡ entered.book → IsPrefix seen.list entered.list
      → IsPrefix entered.list now.list
      → KeepsAll (remembered seen entered m) (remembered then now n)
  keeps_taken seen entered now then m n same one two p q =
      let longer : IsPrefix seen.list now.list =
      begins_trans seen.list entered.list now.list p q in
      record {
        book = ap (λ s. s.book) same ∙ two ∙ one;
        seen = subst (λ s. IsPrefix seen.list s.list) (sym same) longer;
        entered = q;
      }

  pub keeps_seen : (seen entered now : Past S) (m n : ℕ) → IsPrefix entered.list now.list
      → KeepsAll (remembered seen entered m) (remembered seen now n)
  keeps_seen seen entered now m n q =
      record { book = refl; seen = begins_self seen.list; entered = q }

module _ {S : Type 0} (legal : List S → Type 0) where
  pub renews_in : {X F : Type 0} (replays : List S → X → Type 0) (finds : X → F → Type 0)
      (seen entered now then : Past S) (m n : ℕ) (v w : Place) (found : F) → then ≡ now
      → IsPrefix seen.list entered.list → IsPrefix entered.list now.list
      → Finds legal replays finds now.list found
      → (w.enters ≡ v.enters + 1) × (n ≡ m) × (w.entries ≡ length now.list)
      → Renews legal (passed (remembered seen entered m) v) (passed (remembered then now n) w)
  renews_in replays finds seen entered now then m n v w found same p q found_is once =
      let longer : IsPrefix seen.list now.list =
      begins_trans seen.list entered.list now.list p q in
      let board = found_is.board in
      let list = ap (λ s. s.list) same in
      record {
        seen = subst (λ l. IsPrefix seen.list l) (sym list) longer;
        board = subst (λ l. IsBoardList legal l) (sym list) board;
        cause = inl (once.0, once.1, list, sym once.2);
        final = λ ended. list ∙ ended_stays seen.list now.list longer board.ends ended;
      }

  pub renews_kept : (seen entered now : Past S) (m n : ℕ) (v w : Place)
      → IsBoardList legal seen.list
      → Rose m n
      → Renews legal (passed (remembered seen entered m) v) (passed (remembered seen now n) w)
  renews_kept seen entered now m n v w board rose_is = record {
    seen = begins_self seen.list;
    board = board;
    cause = inr (rose_is, refl);
    final = λ ended. refl;
  }

  module _ {X F : Type 0} (replays : List S → X → Type 0) (finds : X → F → Type 0) where
    pub peeks_in : (seen entered now : Past S) (m n : ℕ) (v w : Place) (found : F)
        → IsPrefix seen.list entered.list → IsPrefix entered.list now.list
        → Finds legal replays finds now.list found
        → (w.enters ≡ v.enters + 1) × (n ≡ m) × (w.entries ≡ length now.list)
        → Peeks legal replays finds (passed (remembered seen entered m) v)
        (passed (remembered seen now n) w) found
    peeks_in seen entered now m n v w found p q found_is once = record {
      seen = refl;
      cause = inl (
        once.0,
        once.1,
        begins_trans seen.list entered.list now.list p q,
        found_is,
        sym once.2,
      );
    }

    pub peeks_kept : (seen entered now : Past S) (m n : ℕ) (v w : Place) (kept : X) (found : F)
        → replays (steps_of seen.list) kept → IsBoardList legal seen.list → Rose m n
        → finds kept found
        → Peeks legal replays finds (passed (remembered seen entered m) v)
        (passed (remembered seen now n) w) found
    peeks_kept seen entered now m n v w kept found stands board rose_is found_is = record {
      seen = refl;
      cause = inr (
        rose_is,
        record {
          shown = kept;
          stands = stands;
          board = board;
          is_found = found_is;
        },
      );
    }
