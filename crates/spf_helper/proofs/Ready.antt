-- The files before and after a step is kept.
use Rattle.std.proofs.Common.{◌≡◌, ℕ, ◌+◌, ◌^◌, ◌<◌, Bool, true, false, List, [], ◌∷◌, ◌++◌}
use Rattle.std.proofs.Common.{length, Option}
use Rattle.std.proofs.Common.{Some, None, Ok, refl, sym, ◌∙◌, ap, subst, arith, length-append, inl}
use Rattle.std.proofs.Common.{inr}
use Rattle.std.proofs.Common.{⊎_elim, Result}
use Rattle.std.proofs.Common.{◌||◌}
use Rattle.std.specs.Bool.{OnFalse, MatchBool}
use Rattle.std.specs.Option.{option_map, option_map_or, option_and_then}
use Rattle.spf_feed.specs.Steps.{PlainStep, Accept, Deny}
use Rattle.spf_disk.specs.declared.generation.Entry.{Entry}
use Rattle.spf_disk.specs.declared.generation.Generation.{Generation}
use Rattle.spf_disk.specs.declared.opening.Opened.{Opened}
use Rattle.spf_disk.specs.declared.open_error.OpenError.{OpenError}
use Rattle.spf_disk.specs.declared.slot.Slot.{Slot}
use Rattle.spf_disk.specs.declared.slot.Slot.TheVariants as slot
use Rattle.spf_disk.specs.Format.{entry_at}
use Rattle.spf_disk.specs.Image.{Image}
use Rattle.spf_disk.specs.Opening.{IsOpened}
use Rattle.spf_disk.specs.Replacing.{IsNewer, IsReplaced, IsPassed, HasRoom}
use Rattle.spf_disk.specs.Replacing.{IsBeforeOrAfter as IsOldOrNew}
use Rattle.spf_disk.specs.Scanning.{held_as}
use Rattle.spf_disk.specs.Slots.{other_slot, gate_of, gate_number}
use Rattle.spf_disk.specs.Standing.{Standing, Broken, Holds, standing, number_of}
use Rattle.spf_disk.specs.Standing.{found_in, is_open, generation_in}
use Rattle.spf_helper.specs.Generations.{entry_for, entry_after, last_step}
use Rattle.std.specs.Borrow.{MutBor}
use Rattle.spf_disk.specs.Crash.{Only}
use Rattle.spf_helper.specs.Helping.{IsReady, IsUpTo, IsBeforeOrAfter, IsStanding}

abbrev is_ok_of : Option Entry → Result (Option Entry) OpenError
is_ok_of o = Ok o

abbrev taken : Option Entry → Result (Option Generation) OpenError
taken o = Ok (option_and_then generation_in o)

number_of_entry : (number : ℕ) (s : PlainStep) → number_of (entry_for number s) ≡ number
number_of_entry number (Accept material limits) = refl
number_of_entry number (Deny reason) = refl

last_of_more : (steps : List PlainStep) (s : PlainStep) → last_step (steps ++ s ∷ []) ≡ Some s
last_of_more [] s = refl
last_of_more (t ∷ []) s = refl
last_of_more (t ∷ u ∷ steps) s = last_of_more (u ∷ steps) s

-- the entry after one more step
pub entry_of_more : (base written : ℕ) (steps : List PlainStep) (s : PlainStep)
    → written ≡ length steps
    → entry_after base (steps ++ s ∷ []) ≡ Some (entry_for (base + written + 1) s)
entry_of_more base written steps s is =
    let size : base + length (steps ++ s ∷ []) ≡ base + written + 1 =
    omega (arith, length-append steps (s ∷ []), is) in
    ap (option_map (entry_for (base + length (steps ++ s ∷ [])))) (last_of_more steps s)
    ∙ ap (λ (n : ℕ). Some (entry_for n s)) size

up_to : (base : ℕ) (entry : Option Entry) → base ≡ option_map_or number_of entry 0
    → IsUpTo (base + 0) entry
up_to base None is = tt
up_to base (Some e) is = omega (arith, is)

pub ready_opened : (image : Image) (o : Opened) → o.number < 2 ^ 64 → IsOpened image o
    → IsReady o.number 0 [] o.next o.next_is_open o.other_is_open image
ready_opened image o small opened = record {
  entry = opened.entry;
  is_next = opened.is_next;
  number = up_to o.number opened.entry opened.number;
  next_gate = opened.next_gate;
  other_gate = opened.other_gate;
  count = refl;
  small = omega (arith, small);
  kept = λ some. absurd (some refl);
}

newer_than : (before : Option Entry) (number : ℕ) (e : Entry) → IsUpTo number before
    → number < number_of e → IsNewer (held_as before) (Some e)
newer_than None number e up lt = tt
newer_than (Some f) number e up lt = omega (arith, up, lt)

-- the next entry is newer than what the other slot holds
pub ready_newer : (base written : ℕ) (steps : List PlainStep) (next : Slot) (one two : Bool)
    (image : Image) (bytes : List ℕ) (s : PlainStep) → IsReady base written steps next one two image
    → entry_at bytes ≡ Some (entry_for (base + written + 1) s)
    → IsNewer (standing image (other_slot next)) (entry_at bytes)
ready_newer base written steps next one two image bytes s ready is =
    let number : base + written < number_of (entry_for (base + written + 1) s) =
    omega (arith, number_of_entry (base + written + 1) s) in
    subst (λ (t : Standing). IsNewer t (entry_at bytes)) (sym ready.is_next.other)
    (subst (IsNewer (held_as ready.entry)) (sym is)
    (newer_than ready.entry (base + written) (entry_for (base + written + 1) s) ready.number
    number))

passed_by : (before : Option Entry) (e : Entry) → IsNewer (held_as before) (Some e)
    → IsPassed (held_as before) (Holds e)
passed_by None e newer = tt
passed_by (Some f) e newer = newer

other_twice : (s : Slot) → other_slot (other_slot s) ≡ s
other_twice slot.First = refl
other_twice slot.Second = refl

room_for_other : (s : Slot) (image : Image) → gate_number s < length image.gates
    → HasRoom (other_slot s) image
room_for_other slot.First image lt = omega (arith, lt)
room_for_other slot.Second image lt = omega arith

-- after the entry of one more step is written
pub ready_more : (base written : ℕ) (steps : List PlainStep) (next : Slot) (one two : Bool)
    (image later : Image) (bytes : List ℕ) (s : PlainStep)
    → IsReady base written steps next one two image
    → entry_at bytes ≡ Some (entry_for (base + written + 1) s) → base + written + 1 < 2 ^ 64
    → IsReplaced next (entry_at bytes) image later
    → IsReady base (written + 1) (steps ++ s ∷ []) (other_slot next) two true later
ready_more base written steps next one two image later bytes s ready is small replaced =
    let e = entry_for (base + written + 1) s in
    let newer = ready_newer base written steps next one two image bytes s ready is in
    let before : standing later (other_slot next) ≡ held_as ready.entry =
    replaced.other ∙ ready.is_next.other in
    let now : standing later next ≡ Holds e =
    replaced.holds ∙ ap (λ (o : Option Entry). option_map_or Holds o Broken) is in
    let there : standing later (other_slot (other_slot next)) ≡ Holds e =
    ap (standing later) (other_twice next) ∙ now in
    let newer_held : IsNewer (held_as ready.entry) (Some e) =
    subst (IsNewer (held_as ready.entry)) is
    (subst (λ (t : Standing). IsNewer t (entry_at bytes)) ready.is_next.other newer) in
    record {
      entry = Some e;
      is_next = record {
        latest = replaced.latest ∙ ap is_ok_of is;
        other = there;
        passed = subst
            (λ (t : Standing). IsPassed t (standing later (other_slot (other_slot next))))
            (sym before)
            (subst (IsPassed (held_as ready.entry)) (sym there)
            (passed_by ready.entry e newer_held));
        room = room_for_other next later replaced.no_shorter;
      };
      number = omega (arith, number_of_entry (base + written + 1) s);
      next_gate = ready.other_gate ∙ ap is_open (sym replaced.other_gate);
      other_gate = sym (ap (λ (t : Slot). is_open (gate_of later t)) (other_twice next)
          ∙ ap is_open replaced.open_gate);
      count = omega (arith, ready.count, length-append steps (s ∷ []));
      small = omega (arith, small);
      kept = λ some. replaced.latest
          ∙ ap is_ok_of
          (is ∙ sym (entry_of_more base written steps s ready.count));
    }

-- what a crash leaves, as a reader finds it
pub found_either : (base written : ℕ) (steps : List PlainStep) (image c : Image) (bytes : List ℕ)
    (s : PlainStep) → written ≡ length steps
    → entry_at bytes ≡ Some (entry_for (base + written + 1) s) → IsOldOrNew image (entry_at bytes) c
    → IsBeforeOrAfter image base (steps ++ s ∷ []) c
found_either base written steps image c bytes s count is either = ⊎_elim
    (λ before. inl (ap found_in before))
    (λ after. inr (ap found_in after
    ∙ ap taken
    (is ∙ sym (entry_of_more base written steps s count))))
    either

-- the same, by what the fields are then
pub ready_kept : (base written : ℕ) (steps more : List PlainStep) (next after : Slot)
    (one two : Bool) (image later : Image) (bytes : List ℕ) (s : PlainStep)
    → IsReady base written steps next one two image
    → entry_at bytes ≡ Some (entry_for (base + written + 1) s) → base + written + 1 < 2 ^ 64
    → IsReplaced next (entry_at bytes) image later → more ≡ steps ++ s ∷ []
    → after ≡ other_slot next → IsReady base (written + 1) more after two true later
ready_kept base written steps more next after one two image later bytes s ready is small replaced
    more_is after_is =
    subst (λ (l : List PlainStep). IsReady base (written + 1) l after two true later) (sym more_is)
    (subst (λ (n : Slot). IsReady base (written + 1) (steps ++ s ∷ []) n two true later)
    (sym after_is) (ready_more base written steps next one two image later bytes s ready is small
    replaced))

pub on_false : (b : Bool) (X : Type 0) → X → OnFalse b X
on_false true X x = tt
on_false false X x = x

pub unless : (b : Bool) (X : Type 0) → X → MatchBool b (Unit {0}) X
unless true X x = tt
unless false X x = x

pub neither : (b c : Bool) (X : Type 0) → b ≡ false → c ≡ false
    → MatchBool (b || c) (Unit {0}) X → X
neither true c X one two x = cc
neither false true X one two x = cc
neither false false X one two x = x

-- a publisher whose files are ready has written all steps
pub stands : {D : Type 0} (seen : D → Image) (may_leave : D → Image → Type 0) (disk : MutBor D)
    (base written : ℕ) (steps : List PlainStep) (fault full : Bool) (next : Slot) (one two : Bool)
    → MatchBool (fault || full) (Unit {0}) (Only (seen disk.now) (may_leave disk.now)
    × IsReady base written steps next one two (seen disk.now))
    → OnFalse (fault || full) (IsStanding seen may_leave (record {
      disk = disk;
      base = base;
      steps = steps;
      acknowledged = written;
      fault = fault;
      full = full;
    }))
stands seen may_leave disk base written steps true full next one two held = tt
stands seen may_leave disk base written steps false true next one two held = tt
stands seen may_leave disk base written steps false false next one two held = record {
  all = held.1.count;
  durable = held.0;
  found_is = λ some. ap found_in (held.1.kept some);
}
