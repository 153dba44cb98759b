-- Passing over the frames of an earlier stream.
use Rattle.std.proofs.Common.{◌≡◌, ℕ, Bool, List, [], ◌∷◌, ◌++◌, Option, None, Some, refl, sym, ap}
use Rattle.std.proofs.Common.{◌∙◌, subst}
use Rattle.std.specs.Prelude.{IsTrue, Result, Ok, Err}
use Rattle.std.specs.List.{AllByRecursion}
use Rattle.std.proofs.lemmas.List.{append-nil}
use Rattle.std.proofs.lemmas.List.Concat.{flat_map-cons, flat_map-append}
use Rattle.std.specs.Io.KnownBytes.{Consumes}
use Rattle.std.proofs.KnownBytes.{Consumes-nil, Consumes-trans}
use Rattle.spf_view.specs.Frames.{FitsFrame, raw_text, frame_front}
use Rattle.spf_frame.specs.declared.error.FrameError.{FrameError}
use Rattle.spf_frame.specs.declared.error.FrameError.TheVariants as errors
use Rattle.spf_api.specs.Refused.{Refused}
use Rattle.spf_link.specs.Answers.{SaysAtStart, may_start, streams, IsAnswered, IsMissed}
use Rattle.spf_link.specs.Answers.{IsPassed, passed_text, StartRead}

-- what was taken so far are frames that are passed over
pub record SoFar (again : Bool) (old now : Option (List ℕ)) : Type 0 where
  pub passed : List (ℕ × List ℕ)
  pub are : IsPassed again passed
  pub over : Consumes old now (passed_text passed)

pub none_passed : (again : Bool) (old : Option (List ℕ)) → SoFar again old old
none_passed again old = record { passed = []; are = tt; over = Consumes-nil old }

all_more : {A : Type 0} (P : A → Type 0) (xs : List A) (x : A) → AllByRecursion P xs → P x
    → AllByRecursion P (xs ++ x ∷ [])
all_more P [] x all is = (is, tt)
all_more P (y ∷ xs) x all is = (all.0, all_more P xs x all.1 is)

pub passed_more : (again : Bool) (old now new : Option (List ℕ)) → SoFar again old now
    → IsAnswered (SaysAtStart again) now new None → SoFar again old new
passed_more again old now new far frame =
    let text : ℕ × List ℕ → List ℕ = λ (f : ℕ × List ℕ). raw_text f.0 f.1 in
    let one : ℕ × List ℕ = (frame.kind, frame.payload) in
    let same : passed_text (far.passed ++ one ∷ [])
    ≡ passed_text far.passed ++ raw_text frame.kind frame.payload =
    flat_map-append text far.passed (one ∷ [])
    ∙ ap (λ (l : List ℕ). passed_text far.passed ++ l)
    (flat_map-cons text one [] ∙ append-nil (raw_text frame.kind frame.payload)) in
    record {
      passed = far.passed ++ one ∷ [];
      are = all_more (λ (f : ℕ × List ℕ). IsTrue again × IsTrue (streams f.0) × FitsFrame f.1)
          far.passed one far.are (frame.says.0, frame.says.1, frame.short);
      over = subst (Consumes old new) (sym same)
          (Consumes-trans old now new _ _ far.over frame.taken);
    }

pub start_read : (again : Bool) (old now new : Option (List ℕ)) (answer : Result (Unit {0}) Refused)
    → SoFar again old now → IsAnswered (SaysAtStart again) now new (Some answer)
    → StartRead again old new (Ok answer)
start_read again old now new answer far is = record {
  passed = far.passed;
  are = far.are;
  middle = now;
  over = far.over;
  read = is;
}

pub start_missed : (again : Bool) (old now new : Option (List ℕ)) (e : FrameError)
    → SoFar again old now → IsMissed (SaysAtStart again) (may_start again) now new e
    → StartRead again old new (Err e)
start_missed again old now new e far missed = record {
  passed = far.passed;
  are = far.are;
  middle = now;
  over = far.over;
  read = missed;
}

pub start_stopped : (again : Bool) (old now : Option (List ℕ)) → SoFar again old now
    → StartRead again old now (Err errors.OutOfMemory)
unfolding frame_front
start_stopped again old now far = record {
  passed = far.passed;
  are = far.are;
  middle = now;
  over = far.over;
  read = ([], Consumes-nil now, refl);
}
