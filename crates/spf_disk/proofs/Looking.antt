-- Runs of calls that only look.
use Rattle.std.proofs.Common.{◌≡◌, ℕ, refl, ◌∙◌}
use Rattle.spf_disk.specs.Crash.{Looks, NoMore, Elapses}
use Rattle.spf_disk.specs.Image.{Image}
use Rattle.spf_disk.proofs.Moments.{started, goes_on, joined, weaker}

module _ {D : Type 0} (seen : D → Image) (may_leave : D → Image → Type 0) (moment : D → ℕ)
    (left_since : D → ℕ → Image → Type 0) where
  pub looks_start : (disk : D)
      → ((d : D) (c : Image) → left_since d (moment d) c → may_leave d c)
      → Looks seen may_leave moment left_since disk disk
  looks_start disk only_now = record {
    same = refl;
    no_more = λ c left. left;
    any_moment = started moment left_since disk (may_leave disk) (only_now disk);
  }

  pub looks_more : (old mid new : D) → Looks seen may_leave moment left_since old mid
      → seen new ≡ seen mid → NoMore (may_leave mid) (may_leave new)
      → Elapses (moment mid) (moment new) (left_since mid) (left_since new) (may_leave new)
      → Looks seen may_leave moment left_since old new
  looks_more old mid new so_far same no_more time = record {
    same = same ∙ so_far.same;
    no_more = λ c left. so_far.no_more c (no_more c left);
    any_moment = goes_on moment left_since old mid new (may_leave old) (may_leave new)
        so_far.any_moment time (λ c left. so_far.no_more c (no_more c left));
  }

  pub looks_join : (old mid new : D) → Looks seen may_leave moment left_since old mid
      → Looks seen may_leave moment left_since mid new
      → Looks seen may_leave moment left_since old new
  looks_join old mid new first second = record {
    same = second.same ∙ first.same;
    no_more = λ c left. first.no_more c (second.no_more c left);
    any_moment = joined moment left_since old mid new (may_leave old) first.any_moment
        (weaker moment left_since mid new (may_leave mid) (may_leave old) second.any_moment
        first.no_more);
  }
