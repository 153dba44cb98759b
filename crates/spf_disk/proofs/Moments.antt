-- How a run of disk calls goes on.
use Rattle.std.proofs.Common.{inl, inr, ⊎_elim, ◌≡◌, ℕ, ◌≤◌, arith}
use Rattle.spf_io.specs.Outside.{Rose}
use Rattle.spf_disk.specs.Crash.{Elapses, LeavesOnly}
use Rattle.spf_disk.specs.Image.{Image}

-- images of the same bytes
pub image_same : (c d : Image) → c.gates ≡ d.gates → c.first ≡ d.first → c.second ≡ d.second → c ≡ d
image_same c d gates first second =
    λ i. record { gates = gates i; first = first i; second = second i }

-- what rose since a moment rose since an earlier one
pub later_rose : (a b c : ℕ) → a ≤ b → Rose b c → Rose a c
later_rose a b c le (inl rose) = inl (omega (arith, le, rose))
later_rose a b c le (inr top) = inr top

module _ {D : Type 0} (moment : D → ℕ) (left_since : D → ℕ → Image → Type 0) where
  -- before the first call
  pub started : (old : D) (P : Image → Type 0) → ((c : Image) → left_since old (moment old) c → P c)
      → LeavesOnly moment left_since old old P
  started old P here =
      record { later = omega arith; each = here; before = λ t c le left. inl left }

  -- one more call, after which a crash leaves what has P
  pub goes_on : (old mid new : D) (P may_leave : Image → Type 0)
      → LeavesOnly moment left_since old mid P
      → Elapses (moment mid) (moment new) (left_since mid) (left_since new) may_leave
      → ((c : Image) → may_leave c → P c) → LeavesOnly moment left_since old new P
  goes_on old mid new P may_leave so_far time here = record {
    later = omega (arith, so_far.later, time.later);
    each = λ c left. ⊎_elim (so_far.each c) (here c)
        (time.nothing_else (moment old) c so_far.later left);
    before = λ t c le left. ⊎_elim (so_far.before t c le) (λ now. inr (here c now))
        (time.nothing_else t c (omega (arith, le, so_far.later)) left);
  }

  -- one run after another
  pub joined : (old mid new : D) (P : Image → Type 0) → LeavesOnly moment left_since old mid P
      → LeavesOnly moment left_since mid new P → LeavesOnly moment left_since old new P
  joined old mid new P first second = record {
    later = omega (arith, first.later, second.later);
    each = λ c left. ⊎_elim (first.each c) (λ p. p) (second.before (moment old) c first.later left);
    before = λ t c le left. ⊎_elim (first.before t c le) (λ p. inr p)
        (second.before t c (omega (arith, le, first.later)) left);
  }

  pub weaker : (old new : D) (P Q : Image → Type 0) → LeavesOnly moment left_since old new P
      → ((c : Image) → P c → Q c) → LeavesOnly moment left_since old new Q
  weaker old new P Q run implies = record {
    later = run.later;
    each = λ c left. implies c (run.each c left);
    before = λ t c le left. ⊎_elim (λ b. inl b) (λ p. inr (implies c p)) (run.before t c le left);
  }
