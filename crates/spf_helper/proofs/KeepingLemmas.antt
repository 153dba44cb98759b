-- What stays true of a publisher over a disk when a step is published, and what a run leaves.
use Rattle.std.proofs.Common.{◌≡◌, ◌≢◌, ℕ, ◌+◌, ◌-◌, ◌^◌, ◌<◌, ◌≤◌, Bool, true, false, ◌||◌, ◌==◌}
use Rattle.std.proofs.Common.{List, [], ◌∷◌, ◌++◌, length, Option, Some, Result, Ok}
use Rattle.std.proofs.Common.{Err, refl, sym, ◌∙◌, ap, subst, arith, length-append, inl, inr}
use Rattle.std.proofs.Common.{⊎_elim, ◌⊎◌}
use borrow.Author.Tests.{eqb-true, eqb-false}
use Rattle.std.proofs.lemmas.List.{take_all, take-append-le}
use Rattle.std.specs.Prelude.{OnOk, OnErr}
use Rattle.std.specs.Bool.{OnFalse, OnTrue}
use Rattle.spf_io.specs.Outside.{Rose}
use Rattle.spf_io.proofs.Counts.{Rose-after}
use Rattle.spf_feed.specs.Records.{RecordAppends}
use Rattle.spf_feed.specs.Steps.{PlainStep}
use Rattle.spf_disk.specs.declared.generation.Generation.{Generation}
use Rattle.spf_disk.specs.declared.open_error.OpenError.{OpenError}
use Rattle.spf_disk.specs.Crash.{LeavesOnly}
use Rattle.spf_disk.specs.Image.{Image}
use Rattle.spf_disk.specs.Standing.{found}
use Rattle.spf_helper.specs.Generations.{generation_after}
use Rattle.spf_helper.specs.Helping.{Helping, IsBeforeOrAfter, IsStanding}
use Rattle.spf_helper.specs.Keeping.{Beginning, IsKept, IsWhole, IsFoundAfter, found_after, base_of}

abbrev ok_of : Option Generation → Result (Option Generation) OpenError
ok_of o = Ok o

found_more : (image : Image) (steps : List PlainStep) (s : PlainStep)
    → found_after image (steps ++ s ∷ [])
    ≡ ok_of (generation_after (base_of image) (steps ++ s ∷ []))
found_more image [] s = refl
found_more image (t ∷ steps) s = refl

not_empty : (steps : List PlainStep) (s : PlainStep) → steps ++ s ∷ [] ≢ []
not_empty [] s is = absurd cc
not_empty (t ∷ steps) s is = absurd cc

-- a beginning of the steps is one of more steps
pub after_more : (image c : Image) (steps : List PlainStep) (s : PlainStep)
    → IsFoundAfter image steps c → IsFoundAfter image (steps ++ s ∷ []) c
after_more image c steps s (n, le, is) = (
  n,
  omega (arith, le, length-append steps (s ∷ [])),
  is ∙ ap (found_after image) (sym (take-append-le n steps (s ∷ []) le)),
)

-- all steps are a beginning
pub after_all : (image c : Image) (steps : List PlainStep) → found c ≡ found_after image steps
    → IsFoundAfter image steps c
after_all image c steps is = (
  length steps,
  omega arith,
  is ∙ ap (found_after image) (sym (take_all (length steps) steps (omega arith))),
)

left_more : (image before c : Image) (base : ℕ) (steps : List PlainStep) (s : PlainStep)
    → base ≡ base_of image → found before ≡ found_after image steps
    → IsBeforeOrAfter before base (steps ++ s ∷ []) c → IsFoundAfter image (steps ++ s ∷ []) c
left_more image before c base steps s is whole (inl same) =
    after_more image c steps s (after_all image c steps (same ∙ whole))
left_more image before c base steps s is whole (inr after) =
    after_all image c (steps ++ s ∷ [])
    (after ∙ ap (λ (n : ℕ). ok_of (generation_after n (steps ++ s ∷ []))) is
    ∙ sym (found_more image steps s))

-- ---- tests

no_number : (n : ℕ) (full : Bool) → full ≡ (n == 2 ^ 64 - 1) → full ≡ true → n ≡ 2 ^ 64 - 1
no_number n full is h = eqb-true n (2 ^ 64 - 1) (sym is ∙ h)

has_number : (n : ℕ) (full : Bool) → full ≡ (n == 2 ^ 64 - 1) → full ≡ false → n ≢ 2 ^ 64 - 1
has_number n full is h = eqb-false n (2 ^ 64 - 1) (sym is ∙ h)

off_true : (f g f' g' : Bool) (X : Type 0) → f ≡ f' → g ≡ g' → (f' || g') ≡ true
    → OnFalse (f || g) X
off_true f g f' g' X p q t =
    subst (λ (x : Bool). OnFalse (x || g) X) (sym p)
    (subst (λ (y : Bool). OnFalse (f' || y) X) (sym q)
    (subst (λ (z : Bool). OnFalse z X) (sym t) tt))

from_false : (f g : Bool) (X : Type 0) → (f ≡ false → g ≡ false → X) → OnFalse (f || g) X
from_false true g X x = tt
from_false false true X x = tt
from_false false false X x = x refl refl

still : (b : Bool) (X Y : Type 0) → (X → Y) → OnFalse b X → OnFalse b Y
still true X Y f x = tt
still false X Y f x = f x

first_off : (f g : Bool) → (f || g) ≡ false → f ≡ false
first_off true g h = absurd cc
first_off false g h = refl

at_false : (b : Bool) (X : Type 0) → b ≡ false → OnFalse b X → X
at_false true X is x = absurd cc
at_false false X is x = x

at_true : (b : Bool) (X : Type 0) → b ≡ true → OnTrue b X → X
at_true true X is x = x
at_true false X is x = absurd cc

-- ---- one more step

module _ {D : Type 0} (seen : D → Image) (may_leave : D → Image → Type 0) (moment : D → ℕ)
    (left_since : D → ℕ → Image → Type 0) (failures : D → ℕ) (b : Beginning)
    (past : ℕ → Image → Type 0) where
  abbrev Keeps : Helping D → Type 0
  Keeps = IsKept seen may_leave moment left_since failures b past

  -- nothing is written any more
  kept_stopped : (old new : Helping D) (s : PlainStep) → Keeps old
      → new.steps ≡ old.steps ++ s ∷ [] → new.base ≡ old.base
      → new.disk.ghost_name ≡ old.disk.ghost_name → new.disk.now ≡ old.disk.now
      → new.fault ≡ old.fault → new.full ≡ old.full → (old.fault || old.full) ≡ true → Keeps new
  kept_stopped old new s k steps base name disk fault full stopped = record {
    entry = k.entry;
    undamaged = k.undamaged;
    loan = name ∙ k.loan;
    base = base ∙ k.base;
    time = subst (λ (d : D). b.moment ≤ moment d) (sym disk) k.time;
    count = subst (λ (d : D). b.failures ≤ failures d) (sym disk) k.count;
    left = λ t le c left. subst (λ (l : List PlainStep). past t c ⊎ IsFoundAfter b.image l c)
        (sym steps) (⊎_elim (λ a. inl a) (λ f. inr (after_more b.image c old.steps s f))
        (k.left t le c (subst (λ (d : D). left_since d t c) disk left)));
    fault = λ is. subst (λ (d : D). Rose b.failures (failures d)) (sym disk)
        (k.fault (sym fault ∙ is));
    full = λ is. subst (λ (l : List PlainStep). 2 ^ 64 ≤ base_of b.image + length l) (sym steps)
        (omega (arith, k.full (sym full ∙ is), length-append old.steps (s ∷ [])));
    room = off_true new.fault new.full old.fault old.full _ fault full stopped;
    whole = off_true new.fault new.full old.fault old.full _ fault full stopped;
  }

  -- a step that was written, or failed, or had no number
  kept_written : (old new : Helping D) (s : PlainStep) → Keeps old
      → new.steps ≡ old.steps ++ s ∷ [] → new.base ≡ old.base
      → new.disk.ghost_name ≡ old.disk.ghost_name
      → LeavesOnly moment left_since old.disk.now new.disk.now
      (IsBeforeOrAfter (seen old.disk.now) old.base (old.steps ++ s ∷ []))
      → failures old.disk.now ≤ failures new.disk.now
      → OnTrue new.fault (Rose (failures old.disk.now) (failures new.disk.now))
      → new.full ≡ (old.base + length old.steps == 2 ^ 64 - 1)
      → OnFalse (new.fault || new.full) (IsStanding seen may_leave new)
      → base_of b.image + length old.steps < 2 ^ 64
      → IsWhole seen may_leave b.image old.steps old.disk.now → Keeps new
  kept_written old new s k steps base name run later fault full standing room whole = record {
    entry = k.entry;
    undamaged = k.undamaged;
    loan = name ∙ k.loan;
    base = base ∙ k.base;
    time = omega (arith, k.time, run.later);
    count = omega (arith, k.count, later);
    left = λ t le c left. subst (λ (l : List PlainStep). past t c ⊎ IsFoundAfter b.image l c)
        (sym steps) (⊎_elim
        (λ before. ⊎_elim (λ a. inl a) (λ f. inr (after_more b.image c old.steps s f))
        (k.left t le c before))
        (λ p. inr (left_more b.image (seen old.disk.now) c old.base old.steps s k.base
        whole.found_is p)) (run.before t c (omega (arith, le, k.time)) left));
    fault = λ is. Rose-after b.failures (failures old.disk.now) (failures new.disk.now) k.count
        (at_true new.fault _ is fault);
    full = λ is. subst (λ (l : List PlainStep). 2 ^ 64 ≤ base_of b.image + length l) (sym steps)
        (omega (
          arith,
          no_number (old.base + length old.steps) new.full full is,
          k.base,
          length-append old.steps (s ∷ []),
        ));
    room = from_false new.fault new.full _
        (λ f g. subst (λ (l : List PlainStep). base_of b.image + length l < 2 ^ 64) (sym steps)
        (omega (
          arith,
          room,
          has_number (old.base + length old.steps) new.full full g,
          k.base,
          length-append old.steps (s ∷ []),
        )));
    whole = still (new.fault || new.full) (IsStanding seen may_leave new) _
        (λ stands. record {
          durable = stands.durable;
          found_is = stands.found_is
              (subst (λ (l : List PlainStep). l ≢ []) (sym steps) (not_empty old.steps s))
              ∙ ap (λ (l : List PlainStep). ok_of (generation_after new.base l)) steps
              ∙ ap (λ (n : ℕ). ok_of (generation_after n (old.steps ++ s ∷ []))) (base ∙ k.base)
              ∙ sym (found_more b.image old.steps s)
              ∙ ap (found_after b.image) (sym steps);
        }) standing;
  }

  kept_case : (t : Bool) (old new : Helping D) (s : PlainStep) → (old.fault || old.full) ≡ t
      → Keeps old → new.steps ≡ old.steps ++ s ∷ [] → new.base ≡ old.base
      → new.disk.ghost_name ≡ old.disk.ghost_name
      → OnFalse (old.fault || old.full)
      (LeavesOnly moment left_since old.disk.now new.disk.now
      (IsBeforeOrAfter (seen old.disk.now) old.base (old.steps ++ s ∷ [])))
      → failures old.disk.now ≤ failures new.disk.now
      → OnFalse old.fault
      (OnTrue new.fault (Rose (failures old.disk.now) (failures new.disk.now)))
      → OnFalse (old.fault || old.full) (new.full ≡ (old.base + length old.steps == 2 ^ 64 - 1))
      → OnTrue (old.fault || old.full) ((new.disk.now ≡ old.disk.now)
      × (new.acknowledged ≡ old.acknowledged) × (new.fault ≡ old.fault)
      × (new.full ≡ old.full))
      → OnFalse (new.fault || new.full) (IsStanding seen may_leave new) → Keeps new
  kept_case true old new s is k steps base name run later fault full stopped standing =
      let same = at_true (old.fault || old.full) _ is stopped in
      kept_stopped old new s k steps base name same.0 same.2 same.3 is
  kept_case false old new s is k steps base name run later fault full stopped standing =
      kept_written old new s k steps base name (at_false (old.fault || old.full) _ is run) later
      (at_false old.fault _ (first_off old.fault old.full is) fault)
      (at_false (old.fault || old.full) _ is full) standing
      (at_false (old.fault || old.full) _ is k.room)
      (at_false (old.fault || old.full) _ is k.whole)

  pub kept_more : {E : Type 0} (old new : Helping D) (s : PlainStep) (r : Result (Unit {0}) E)
      → Keeps old → RecordAppends (Some old.steps) (Some new.steps) r s
      → OnErr r (new ≡ old) → new.base ≡ old.base → new.disk.ghost_name ≡ old.disk.ghost_name
      → OnFalse (old.fault || old.full)
      (LeavesOnly moment left_since old.disk.now new.disk.now
      (IsBeforeOrAfter (seen old.disk.now) old.base (old.steps ++ s ∷ [])))
      → failures old.disk.now ≤ failures new.disk.now
      → OnFalse old.fault
      (OnTrue new.fault (Rose (failures old.disk.now) (failures new.disk.now)))
      → OnFalse (old.fault || old.full)
      (OnOk r (new.full ≡ (old.base + length old.steps == 2 ^ 64 - 1)))
      → OnTrue (old.fault || old.full) ((new.disk.now ≡ old.disk.now)
      × (new.acknowledged ≡ old.acknowledged) × (new.fault ≡ old.fault)
      × (new.full ≡ old.full))
      → OnFalse (new.fault || new.full) (IsStanding seen may_leave new) → Keeps new
  kept_more old new s (Ok done) k steps refused base name run later fault full stopped standing =
      kept_case (old.fault || old.full) old new s refl k steps base name run later fault full
      stopped standing
  kept_more old new s (Err e) k steps refused base name run later fault full stopped standing =
      subst Keeps (sym refused) k
