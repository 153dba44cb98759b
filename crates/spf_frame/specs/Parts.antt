-- Reading one part of a frame from a source.
use Rattle.std.specs.Prelude.{◌≡◌, ℕ, ◌≤◌, ◌<◌, List, ◌++◌, length, take, Option, IfSome, Result}
use Rattle.std.specs.Prelude.{MatchResult, IsErrOf}
use Rattle.std.specs.Io.KnownBytes.{Consumes, IsAtEnd}
use Rattle.spf_io.specs.Outside.{Rose}
use Rattle.spf_frame.specs.declared.error.FrameError.{FrameError}
use Rattle.spf_frame.specs.declared.error.FrameError.TheVariants as errors

-- the buffer was filled, or filled up to the end of the source; after a fault it is filled in part
abbrev pub Fills : {E : Type 0} → Option (List ℕ) → Option (List ℕ) → Result ℕ E → List ℕ → Type 0
Fills old new r buf = MatchResult r
    (λ n. (n ≤ length buf) × Consumes old new (take n buf) × (n < length buf → IsAtEnd new))
    (λ _. (n : ℕ) × (n < length buf) × Consumes old new (take n buf))

-- no part begins these bytes
abbrev pub NoPart : {X : Type 0} → (X → List ℕ) → (X → Type 0) → List ℕ → Type 0
NoPart {X} text Fits bytes = (x : X) (rest : List ℕ) → Fits x → bytes ≡ text x ++ rest → ⊥

-- bytes of which this holds were taken
abbrev pub Takes : Option (List ℕ) → Option (List ℕ) → (List ℕ → Type 0) → Type 0
Takes old new P = (given : List ℕ) × Consumes old new given × P given

-- Why no part is read: none begins what is left, of which exactly the
-- front is taken; or not all of the front could be read. `front` gives
-- as much of the bytes as is read to see which part begins them.
abbrev pub PartFails : {X : Type 0} → (X → List ℕ) → (X → Type 0) → (List ℕ → List ℕ)
    → Option (List ℕ) → Option (List ℕ) → FrameError → Type 0
PartFails text Fits front old new errors.TooLong = ⊥
PartFails text Fits front old new errors.BadFrame =
    Takes old new
    (λ given. (front given ≡ given)
    × IfSome old (λ bytes. NoPart text Fits bytes × (front bytes ≡ given)))
PartFails text Fits front old new errors.ReadFault =
    Takes old new (λ given. (front given ≡ given) × NoPart text Fits given)
PartFails text Fits front old new errors.OutOfMemory = Takes old new (λ given. front given ≡ given)

abbrev pub PartRead : {X : Type 0} → (X → List ℕ) → (X → Type 0) → (List ℕ → List ℕ)
    → Option (List ℕ) → Option (List ℕ) → Result X FrameError → Type 0
PartRead text Fits front old new r =
    MatchResult r (λ x. Fits x × Consumes old new (text x)) (PartFails text Fits front old new)

-- the same of a part that was put into a buffer
abbrev pub PartPut : {X : Type 0} → (X → List ℕ) → (X → Type 0) → (List ℕ → List ℕ)
    → Option (List ℕ) → Option (List ℕ) → Result (Unit {0}) FrameError → X → Type 0
PartPut text Fits front old new r x =
    MatchResult r (λ _. Fits x × Consumes old new (text x)) (PartFails text Fits front old new)

-- the count never falls, and `ReadFault` comes only where it rose
pub record FailureHasCause {T : Type 0} (before now : ℕ)
    (result : Result T FrameError) : Type 0 where
  pub later : before ≤ now
  pub failed : IsErrOf result errors.ReadFault → Rose before now
