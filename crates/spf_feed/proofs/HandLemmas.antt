-- Lists that are handed on one by one.
use Rattle.std.proofs.Common.{◌≡◌, Bool, true, List, [], ◌∷◌, ◌++◌, Option, Some, None, Result, Ok}
use Rattle.std.proofs.Common.{Err, refl, sym, ap, subst, arith, length, take_all}
use Rattle.std.proofs.lemmas.List.{take_at}
use Rattle.spf_view.specs.Sessions.{Grows, GrowsUpTo}
use Rattle.spf_view.proofs.FollowLemmas.{grows_nil, grows_none}
use Rattle.spf_feed.specs.Records.{RecordAppends, Appended, AppendsOnce}
use Rattle.spf_feed.specs.Steps.{PlainStep, HasStep}
use Rattle.std.specs.Prelude.{IsErr}
use Rattle.std.specs.Option.{option_to_list}
use Rattle.spf_view.specs.Steps.{Step}
use Rattle.spf_feed.specs.Handing.{HandsOn, TurnState, StoppedShort, IsTaken}

-- nothing yet
pub none_yet : {X : Type 0} (old : Option (List X)) (more : List X) → GrowsUpTo old old more true
none_yet old more = record { count = 0; grows = grows_nil old; all = λ e. absurd cc }

unfoldable pub none_since : {X : Type 0} (old new : Option (List X)) (more : List X) → new ≡ old
    → GrowsUpTo old new more true
none_since old new more same = record {
  count = 0;
  grows = grows_none old new same;
  all = λ e. absurd cc;
}

-- one was handed on
pub one_more : {X E : Type 0} (old new : Option (List X)) (r : Result (Unit {0}) E) (x : X)
    → RecordAppends old new r x → HandsOn old new r (x ∷ [])
one_more None None (Ok done) x h = tt
one_more None None (Err e) x h = none_yet None (x ∷ [])
one_more None (Some after) r x h = absurd h
one_more (Some before) None r x h = absurd h
one_more (Some before) (Some after) (Ok done) x h = h
one_more (Some before) (Some after) (Err e) x h =
    none_since (Some before) (Some after) (x ∷ []) (ap Some h)

-- a call that went through added one
pub appended : {R : Type 0} (E : Type 0) (old new : Option (List R)) (x : R)
    → RecordAppends {R = R} {E = E} old new (Ok tt) x → Appended old new x
appended E None None x h = tt
appended E None (Some after) x h = absurd h
appended E (Some before) None x h = absurd h
appended E (Some before) (Some after) x h = h

-- and so there is a step
pub has_step : {S : Type 0} (old new : Option (List S)) (x : S) → Appended old new x → HasStep new
has_step None None x h = tt
has_step None (Some after) x h = absurd h
has_step (Some before) None x h = tt
has_step (Some []) (Some after) x h = λ e. absurd cc
has_step (Some (first ∷ before)) (Some after) x h = λ e. absurd cc

-- a refused call leaves the list as it was
pub refused_same : {R E : Type 0} (old new : Option (List R)) (e : E) (x : R)
    → RecordAppends old new (Err e) x → new ≡ old
refused_same None None e x h = refl
refused_same None (Some after) e x h = absurd h
refused_same (Some before) None e x h = absurd h
refused_same (Some before) (Some after) e x h = ap Some h

pub appends_none : {R T E : Type 0} (old new : Option (List R)) (r : Result T E) (x : R) → IsErr r
    → new ≡ old → AppendsOnce old new r x
appends_none old new (Ok done) x bad same = absurd cc
appends_none old new (Err e) x bad same = same

-- a refused call handed on a beginning
pub stopped_there : {X T E : Type 0} (old new : Option (List X)) (r : Result T E) (more : List X)
    → IsErr r → GrowsUpTo old new more true → HandsOn old new r more
stopped_there old new (Ok done) more bad h = absurd cc
stopped_there old new (Err e) more bad h = h

-- a refused call handed on no more
pub stopped_after : {X : Type 0} (old mid new : Option (List X)) (done more : List X)
    → Grows old mid done → new ≡ mid → GrowsUpTo old new (done ++ more) true
stopped_after old mid new done more grown same = record {
  count = length done;
  grows = rw (same, take_at done more (length done) refl) grown;
  all = λ e. absurd cc;
}

-- the whole list was handed on
unfoldable pub all_grown : {X : Type 0} (old new : Option (List X)) (more : List X) (cut : Bool)
    → Grows old new more → GrowsUpTo old new more cut
all_grown old new more cut h = record {
  count = length more;
  grows = subst (Grows old new) (sym (take_all (length more) more (omega arith))) h;
  all = λ e. refl;
}

-- memory ran out before a step was handed on
pub step_unpublished : {M L D R E : Type 0} (same : M → M → Bool) (step : Step M L D)
    (records : List R) (old new : TurnState M L D R) (r : Result Bool E) → IsErr r
    → GrowsUpTo old.steps new.steps (step ∷ []) true → new.records ≡ old.records
    → IsTaken same (Some step) records old new r
unfolding none_since
step_unpublished same step records old new (Ok b) bad a is = absurd cc
step_unpublished same step records old new (Err e) bad a is = record {
  steps_are = a;
  records_are = none_since old.records new.records records is;
  steps_first = λ lt. absurd (omega arith);
}

-- memory ran out over the records of a step
pub step_unrecorded : {M L D R E : Type 0} (same : M → M → Bool) (step : Step M L D)
    (records : List R) (old new : TurnState M L D R) (r : Result Bool E) → IsErr r
    → Grows old.steps new.steps (step ∷ []) → GrowsUpTo old.records new.records records true
    → IsTaken same (Some step) records old new r
unfolding all_grown
step_unrecorded same step records old new (Ok b) bad a c = absurd cc
step_unrecorded same step records old new (Err e) bad a c =
    record {
      steps_are = all_grown old.steps new.steps (step ∷ []) true a;
      records_are = c;
      steps_first = λ lt. refl;
    }

-- memory ran out over the records of a turn without a step
pub records_short : {M L D R : Type 0} (records : List R) (old new : TurnState M L D R)
    → new.steps ≡ old.steps → GrowsUpTo old.records new.records records true
    → StoppedShort None records old new
unfolding all_grown
records_short records old new same c =
    record {
      steps_are = all_grown old.steps new.steps [] true
          (grows_none old.steps new.steps same);
      records_are = c;
      steps_first = λ lt. refl;
    }

-- memory ran out before anything was handed on
pub nothing_done : {M L D R : Type 0} (step : Option (Step M L D)) (records : List R)
    (state : TurnState M L D R) → StoppedShort step records state state
unfolding none_yet
nothing_done step records state = record {
  steps_are = none_yet state.steps (option_to_list step);
  records_are = none_yet state.records records;
  steps_first = λ lt. absurd (omega arith);
}
