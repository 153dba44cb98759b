-- How a run over a disk begins, and what it leaves.
use Rattle.std.proofs.Common.{◌≡◌, ℕ, ◌+◌, ◌^◌, ◌<◌, ◌≤◌, Bool, true, false, ◌||◌, List, []}
use Rattle.std.proofs.Common.{length, Option, Result, Ok, Err, refl, sym, ◌∙◌, ap}
use Rattle.std.proofs.Common.{subst, arith, inl, ⊎_elim}
use Rattle.std.specs.Borrow.{MutBor}
use Rattle.std.specs.Prelude.{IsTrue}
use Rattle.std.specs.Bool.{OnFalse}
use Rattle.spf_io.specs.Outside.{Rose}
use Rattle.spf_feed.specs.declared.follow_error.FollowError.{FollowError}
use Rattle.spf_feed.specs.declared.limits.ResourceLimits.{ResourceLimits}
use Rattle.spf_feed.specs.Steps.{PlainStep}
use Rattle.spf_disk.specs.declared.opening.Opened.{Opened}
use Rattle.spf_disk.specs.declared.open_error.OpenError.{OpenError}
use Rattle.spf_disk.specs.declared.open_error.OpenError.TheVariants as opening
use Rattle.spf_disk.specs.Crash.{Only, Looks}
use Rattle.spf_disk.specs.Image.{Image}
use Rattle.spf_disk.specs.Opening.{IsOpened, Opens}
use Rattle.spf_disk.specs.Scanning.{FaultHasCause}
use Rattle.spf_disk.specs.Standing.{found}
use Rattle.spf_helper.specs.declared.helper_error.HelperError.{HelperError}
use Rattle.spf_helper.specs.declared.helper_error.HelperError.TheVariants as errors
use Rattle.spf_helper.specs.Helping.{Helping}
use Rattle.spf_helper.specs.Keeping.{Beginning, IsKept, IsWhole, base_in, base_of}
use Rattle.spf_helper.specs.Runs.{Follows, Ended, Ran, LeavesBeside, LeavesFound, IsUnopened}
use Rattle.spf_helper.specs.Runs.{ended_as, is_disk_fault}
use Rattle.spf_helper.proofs.Stepped.{with_step}

-- how a run ended, by how the session ended and by the publisher
pub ended_by : (limits : ResourceLimits) (max : ℕ) (image : Image)
    (left left' held held' : Option (List ℕ)) (steps : List PlainStep) (fault full : Bool)
    (r : Result ℕ FollowError) → Follows limits max left left' held held' steps r
    → Ended limits max image left left' held held' steps (ended_as fault full r)
ended_by limits max image left left' held held' steps true full r followed = (r, followed)
ended_by limits max image left left' held held' steps false true r followed = (r, followed)
ended_by limits max image left left' held held' steps false false (Ok count) followed =
    (followed, with_step limits max left left' held held' steps count followed)
ended_by limits max image left left' held held' steps false false (Err e) followed = followed

both_off : (f g : Bool) (X : Type 0) → f ≡ false → g ≡ false → OnFalse (f || g) X → X
both_off true g X is too x = absurd cc
both_off false true X is too x = absurd cc
both_off false false X is too x = x

either_off : (f g : Bool) (X : Type 0) → X → OnFalse (f || g) X
either_off true g X x = tt
either_off false true X x = tt
either_off false false X x = x

abbrev err_of : OpenError → Result Opened OpenError
err_of e = Err e

pub unopened : (image : Image) (e : OpenError) → Opens image (Err e) → IsUnopened image e
unopened image opening.DiskFault is = tt
unopened image opening.Damaged is = is
unopened image opening.OutOfMemory is = tt

module _ {D : Type 0} (seen : D → Image) (may_leave : D → Image → Type 0) (moment : D → ℕ)
    (left_since : D → ℕ → Image → Type 0) (failures : D → ℕ) where
  -- what a call begins with over a disk that is lent to a publisher
  abbrev start : ℕ → D → Beginning
  start loan disk = record {
    loan = loan;
    image = seen disk;
    moment = moment disk;
    failures = failures disk;
  }

  -- a publisher over files that are opened
  pub kept_first : (b : Beginning) (past : ℕ → Image → Type 0) (loan : ℕ) (old mid : D) (o : Opened)
      (p : Helping D) → b ≡ start loan old → ((t : ℕ) (c : Image) → left_since old t c → past t c)
      → ((disk : D) (t : ℕ) (c : Image) → t ≤ moment disk → may_leave disk c → left_since disk t c)
      → IsOpened (seen old) o → o.number < 2 ^ 64 → Only (seen mid) (may_leave mid)
      → Looks seen may_leave moment left_since old mid → failures old ≤ failures mid
      → p.disk.ghost_name ≡ loan → p.disk.now ≡ mid → p.base ≡ o.number
      → p.steps ≡ [] → p.fault ≡ false → p.full ≡ false
      → IsKept seen may_leave moment left_since failures b past p
  kept_first b past loan old mid o p is before counts opened small durable looks later name disk
      base steps fault full =
      let number : o.number ≡ base_of (seen old) =
      opened.number ∙ sym (ap base_in opened.is_next.latest) in
      subst (λ (x : Beginning). IsKept seen may_leave moment left_since failures x past p) (sym is)
      (record {
        entry = opened.entry;
        undamaged = opened.is_next.latest;
        loan = name;
        base = base ∙ number;
        time = subst (λ (d : D). moment old ≤ moment d) (sym disk) looks.any_moment.later;
        count = subst (λ (d : D). failures old ≤ failures d) (sym disk) later;
        left = λ t le c left. inl (before t c
            (⊎_elim (λ h. h) (λ h. counts old t c le h)
            (looks.any_moment.before t c le (subst (λ (d : D). left_since d t c) disk left))));
        fault = λ h. let no = sym fault ∙ h in absurd cc;
        full = λ h. let no = sym full ∙ h in absurd cc;
        room = either_off p.fault p.full _
            (subst (λ (l : List PlainStep). base_of (seen old) + length l < 2 ^ 64) (sym steps)
            (omega (arith, number, small)));
        whole = either_off p.fault p.full _
            (subst (λ (d : D). IsWhole seen may_leave (seen old) p.steps d) (sym disk)
            (subst (λ (l : List PlainStep). IsWhole seen may_leave (seen old) l mid) (sym steps)
            (record { durable = durable; found_is = ap found looks.same })));
      })

  ran_case : (f g : Bool) (r : Result ℕ FollowError) (loan : ℕ) (old : D)
      (past : ℕ → Image → Type 0) (p : Helping D) → p.fault ≡ f → p.full ≡ g
      → IsKept seen may_leave moment left_since failures (start loan old) past p
      → Ran seen may_leave failures old p.disk.now p.steps (ended_as f g r)
  ran_case true g r loan old past p fault full k = record {
    written = λ no. absurd cc;
    undamaged = λ opened. (k.entry, k.undamaged);
    later = k.count;
    fault = λ h. k.fault fault;
    full = λ no. absurd cc;
    only_then = λ opened calm much. absurd (calm (k.fault fault));
  }
  ran_case false true r loan old past p fault full k = record {
    written = λ no. absurd cc;
    undamaged = λ opened. (k.entry, k.undamaged);
    later = k.count;
    fault = λ no. absurd cc;
    full = λ h. k.full full;
    only_then = λ opened calm much. refl;
  }
  ran_case false false (Ok count) loan old past p fault full k =
      let room = both_off p.fault p.full _ fault full k.room in
      record {
        written = λ h. both_off p.fault p.full _ fault full k.whole;
        undamaged = λ opened. (k.entry, k.undamaged);
        later = k.count;
        fault = λ no. absurd cc;
        full = λ no. absurd cc;
        only_then = λ opened calm much. absurd (omega (arith, room, much));
      }
  ran_case false false (Err e) loan old past p fault full k =
      let room = both_off p.fault p.full _ fault full k.room in
      record {
        written = λ h. both_off p.fault p.full _ fault full k.whole;
        undamaged = λ opened. (k.entry, k.undamaged);
        later = k.count;
        fault = λ no. absurd cc;
        full = λ no. absurd cc;
        only_then = λ opened calm much. absurd (omega (arith, room, much));
      }

  -- what a run that was followed to an end leaves
  pub ran_by : (b : Beginning) (past : ℕ → Image → Type 0) (loan : ℕ) (old new : D) (p : Helping D)
      (end : Result ℕ HelperError) (r : Result ℕ FollowError) → b ≡ start loan old
      → new ≡ p.disk.now → end ≡ ended_as p.fault p.full r
      → IsKept seen may_leave moment left_since failures b past p
      → Ran seen may_leave failures old new p.steps end
      × LeavesBeside moment left_since old new past (seen old) p.steps
  ran_by b past loan old new p end r is disk ended kept =
      let k = subst (λ (x : Beginning).
      IsKept seen may_leave moment left_since failures x past p) is kept in (
        subst (λ (d : D). Ran seen may_leave failures old d p.steps end) (sym disk)
            (subst (λ (x : Result ℕ HelperError).
            Ran seen may_leave failures old p.disk.now p.steps x) (sym ended)
            (ran_case p.fault p.full r loan old past p refl refl k)),
        λ c left. k.left (moment old) (omega arith) c
            (subst (λ (d : D). left_since d (moment old) c) disk left),
      )

  -- where nothing was pending before the run
  pub left_found : (old new : D) (steps : List PlainStep)
      → ((disk : D) (c : Image) → left_since disk (moment disk) c → may_leave disk c)
      → LeavesBeside moment left_since old new (left_since old) (seen old) steps
      → LeavesFound seen may_leave moment left_since old new steps
  left_found old new steps only_now leaves only c left =
      ⊎_elim (λ before. (0, omega arith, ap found (only c (only_now old c before)))) (λ f. f)
      (leaves c left)

  -- what is left where the files could not be opened
  pub ran_unopened : (old new : D) (e : OpenError)
      → FaultHasCause (failures old) (failures new) (err_of e)
      → Ran seen may_leave failures old new [] (Err (errors.Open e))
  ran_unopened old new e cause = record {
    written = λ no. absurd cc;
    undamaged = λ no. absurd cc;
    later = cause.later;
    fault = by_error e cause;
    full = λ no. absurd cc;
    only_then = λ no. absurd cc;
  }
    where
      by_error : (x : OpenError) → FaultHasCause (failures old) (failures new) (err_of x)
          → IsTrue (is_disk_fault (Err (errors.Open x))) → Rose (failures old) (failures new)
      by_error opening.DiskFault k h = k.fault refl
      by_error opening.Damaged k h = absurd cc
      by_error opening.OutOfMemory k h = absurd cc

  pub left_unopened : (old new : D) (past : ℕ → Image → Type 0)
      → ((t : ℕ) (c : Image) → left_since old t c → past t c)
      → ((disk : D) (t : ℕ) (c : Image) → t ≤ moment disk → may_leave disk c → left_since disk t c)
      → Looks seen may_leave moment left_since old new
      → LeavesBeside moment left_since old new past (seen old) []
  left_unopened old new past before counts looks c left =
      inl (before (moment old) c
      (counts old (moment old) c (omega arith) (looks.any_moment.each c left)))

-- the same of a disk that is lent
pub ran_lent : {D : Type 0} (seen : D → Image) (may_leave : D → Image → Type 0) (failures : D → ℕ)
    (old new : MutBor D) (end : D) (steps : List PlainStep) (r : Result ℕ HelperError)
    → end ≡ new.now
    → Ran (λ (d : MutBor D). seen d.now) (λ (d : MutBor D). may_leave d.now)
    (λ (d : MutBor D). failures d.now) old new steps r
    → Ran seen may_leave failures old.now end steps r
ran_lent seen may_leave failures old new end steps r is ran = rw is (record {
  written = λ h. let whole = ran.written h in
      record { durable = whole.durable; found_is = whole.found_is };
  undamaged = ran.undamaged;
  later = ran.later;
  fault = ran.fault;
  full = ran.full;
  only_then = ran.only_then;
})
