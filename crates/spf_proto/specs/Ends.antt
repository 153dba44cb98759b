-- How the translation of a body ends.
use Rattle.std.specs.Prelude.{◌≡◌, ◌⊎◌, ℕ, ◌+◌, ◌-◌, true, false, List, [], Option, Some, None}
use Rattle.std.specs.Prelude.{Result, Ok, Err}
use Rattle.std.specs.Io.KnownBytes.{Keeps}
use Rattle.spf_proto.specs.declared.frame_end.FrameEnd.{FrameEnd}
use Rattle.spf_proto.specs.declared.frame_end.FrameEnd.TheVariants as ends
pub use Rattle.spf_proto.specs.FrameEnds.{result_of_end}
use Rattle.spf_feed.specs.declared.follow_error.FollowError.TheVariants as follow_errors
use Rattle.spf_proto.specs.declared.proto_error.ProtoError.{ProtoError}
use Rattle.spf_proto.specs.declared.proto_error.ProtoError.TheVariants as errors
use Rattle.spf_proto.specs.declared.taking.Stop.{Stop}
use Rattle.spf_proto.specs.declared.taking.Stop.TheVariants as stops
use Rattle.spf_proto.specs.Beginning.{Beginning}
use Rattle.spf_proto.specs.Translator.{Translating, IsStopped, left_of}

abbrev pub error_of : ℕ → ℕ → Stop → ProtoError
error_of max allowed stops.BadMessage = errors.BadMessage (max - allowed + 1)
error_of max allowed stops.TooManyMessages = errors.TooManyMessages
error_of max allowed stops.SourceFailed = errors.Follow follow_errors.ReadFault
error_of max allowed stops.OutOfMemory = errors.Follow follow_errors.OutOfMemory

-- the translation stopped for this reason, or memory ran out
abbrev pub IsReasonOf : {T : Type 0} → (T → Option (List ℕ)) → (T → ℕ) → Beginning → Translating T
    → Stop → Type 0
IsReasonOf left failures b t stop = IsStopped left failures b t (Some stop)

-- Octets are ready, or the source has ended; or the translation stopped, and the error says why.
abbrev pub IsEndedBy : {T : Type 0} → (T → Option (List ℕ)) → (T → ℕ) → Beginning
    → Option (List ℕ) → Translating T → Result ℕ ProtoError → Result ℕ ProtoError → Type 0
IsEndedBy left failures b before t end r =
    Keeps before (left_of left b.rules b.start t)
    × (((r ≡ end) × (t.ready ≡ [] → t.ended ≡ true))
    ⊎ ((stop : Stop) × (r ≡ Err (error_of b.max t.allowed stop))
    × IsReasonOf left failures b t stop))

-- a translation that has not begun
abbrev pub begun : {T : Type 0} → T → List ℕ → ℕ → Translating T
begun source ready allowed = record {
  source = source;
  ready = ready;
  got = [];
  allowed = allowed;
  standing = record { is_open = false; synced = false };
  ended = false;
  stop = None;
  failures = 0;
}

-- how following a body ends, where following its frames ends like this
abbrev pub IsResultOf : {T : Type 0} → (T → Option (List ℕ)) → (T → ℕ) → Beginning
    → Option (List ℕ) → Translating T → FrameEnd → Result ℕ ProtoError → Type 0
IsResultOf left failures b before t (ends.Whole count) r =
    IsEndedBy left failures b before t (Ok count) r
IsResultOf left failures b before t ends.NeverSynced r =
    IsEndedBy left failures b before t (Err (errors.Follow follow_errors.NeverSynced)) r
IsResultOf left failures b before t ends.ReadFault r =
    Keeps before (left_of left b.rules b.start t)
    × ((stop : Stop) × (r ≡ Err (error_of b.max t.allowed stop))
    × IsReasonOf left failures b t stop)
IsResultOf left failures b before t ends.WriteFault r =
    r ≡ Err (errors.Follow follow_errors.WriteFault)
IsResultOf left failures b before t ends.OutOfMemory r =
    r ≡ Err (errors.Follow follow_errors.OutOfMemory)
