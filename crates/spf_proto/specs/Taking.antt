-- Taking the octets of one message from a source.
use Rattle.std.specs.Prelude.{◌≡◌, ◌≢◌, ℕ, ◌+◌, ◌^◌, ◌<◌, ◌≤◌, List, [], ◌++◌, length, drop}
use Rattle.std.specs.Prelude.{Option, None, IfSome, Result, Ok, Err}
use Rattle.std.specs.Io.KnownBytes.{Consumes, IsAtEnd}
use Rattle.spf_io.specs.Outside.{Rose}
use Rattle.spf_proto.specs.declared.taking.Progress.{Progress}
use Rattle.spf_proto.specs.declared.taking.Progress.TheVariants as progress
use Rattle.spf_proto.specs.declared.taking.Stop.{Stop}
use Rattle.spf_proto.specs.declared.taking.Stop.TheVariants as stops
use Rattle.spf_proto.specs.Body.{message_at}
use Rattle.spf_proto.specs.Octets.{IsWhole}

-- what the source gave is added to what came before
pub record Came (left left' : Option (List ℕ)) (got got' : List ℕ) : Type 0 where
  pub given : List ℕ
  pub taken : Consumes left left' given
  pub added : got' ≡ got ++ given

-- at most `missing` octets more; none only at the end of the source, or after a failure
abbrev pub IsSome : ℕ → ℕ → ℕ → Option (List ℕ) → Result ℕ Stop → Type 0
IsSome before after missing left (Ok n) =
    (after ≡ before + n) × (n ≤ missing) × (n ≡ 0 → IsAtEnd left)
IsSome before after missing left (Err stops.SourceFailed) = after ≡ before
IsSome before after missing left (Err stops.OutOfMemory) = after ≡ before
IsSome before after missing left (Err _) = ⊥

-- the count never falls, and the source failed only where it rose
pub record StopHasCause {T : Type 0} (before after : ℕ) (r : Result T Stop) : Type 0 where
  pub later : before ≤ after
  pub failed : r ≡ Err stops.SourceFailed → Rose before after

-- where no octets follow but those of the source, there is no message
abbrev pub IsNoMessage : List ℕ → Option (List ℕ) → Type 0
IsNoMessage got left = IfSome left (λ bytes. message_at (got ++ bytes) ≡ None)

-- How far a message has come, where `allowed` more may come, and why none comes.
abbrev pub IsStep : ℕ → ℕ → List ℕ → Option (List ℕ) → Result Progress Stop → Type 0
IsStep allowed before got left (Ok progress.More) =
    (before < length got) × (length got ≤ 5 + 2 ^ 24)
IsStep allowed before got left (Ok progress.Whole) =
    IsWhole got (drop 5 got) × (5 ≤ length got) × (allowed ≢ 0)
IsStep allowed before got left (Ok progress.End) = (got ≡ []) × IsAtEnd left
IsStep allowed before got left (Err stops.BadMessage) =
    (got ≢ []) × (allowed ≢ 0) × IsNoMessage got left
IsStep allowed before got left (Err stops.TooManyMessages) = (got ≢ []) × (allowed ≡ 0)
IsStep allowed before got left (Err stops.SourceFailed) = Unit {0}
IsStep allowed before got left (Err stops.OutOfMemory) = Unit {0}
