-- How following a body ends, and what failed.
use Rattle.std.proofs.Common.{◌≡◌, ◌∙◌, ℕ, Option, List, Result, Ok, Err, refl}
use Rattle.std.proofs.Common.{sym}
use Rattle.std.proofs.Common.{inl, inr}
use Rattle.spf_io.specs.Outside.{Rose}
use Rattle.spf_feed.specs.declared.follow_error.FollowError.{FollowError}
use Rattle.spf_feed.specs.declared.follow_error.FollowError.TheVariants as follow_errors
use Rattle.spf_feed.specs.Following.{FailureCounts, FailuresHaveCauses}
use Rattle.spf_proto.specs.declared.frame_end.FrameEnd.{FrameEnd}
use Rattle.spf_proto.specs.declared.frame_end.FrameEnd.TheVariants as ends
use Rattle.spf_proto.specs.declared.proto_error.ProtoError.{ProtoError}
use Rattle.spf_proto.specs.declared.proto_error.ProtoError.TheVariants as errors
use Rattle.spf_proto.specs.declared.taking.Stop.{Stop}
use Rattle.spf_proto.specs.declared.taking.Stop.TheVariants as stops
use Rattle.spf_proto.specs.Beginning.{Beginning}
use Rattle.spf_proto.specs.Translator.{Translating, IsTranslator}
use Rattle.spf_proto.specs.Ends.{IsEndedBy, IsReasonOf, IsResultOf, error_of}
use Rattle.spf_proto.specs.FrameEnds.{end_by}
use Rattle.spf_proto.specs.Following.{HasCauses}

stop_rose : {T : Type 0} (left : T → Option (List ℕ)) (failures : T → ℕ) (b : Beginning)
    (t : Translating T) (r : Result ℕ ProtoError) (stop : Stop)
    → r ≡ Err (error_of b.max t.allowed stop) → IsReasonOf left failures b t stop
    → r ≡ Err (errors.Follow follow_errors.ReadFault) → Rose b.failures (failures t.source)
stop_rose left failures b t r stops.BadMessage is reason h = let no = sym is ∙ h in absurd cc
stop_rose left failures b t r stops.TooManyMessages is reason h = let no = sym is ∙ h in absurd cc
stop_rose left failures b t r stops.SourceFailed is reason h = reason
stop_rose left failures b t r stops.OutOfMemory is reason h = let no = sym is ∙ h in absurd cc

ended_rose : {T : Type 0} (left : T → Option (List ℕ)) (failures : T → ℕ) (b : Beginning)
    (before : Option (List ℕ)) (t : Translating T) (end r : Result ℕ ProtoError)
    → (end ≡ Err (errors.Follow follow_errors.ReadFault) → ⊥)
    → IsEndedBy left failures b before t end r
    → r ≡ Err (errors.Follow follow_errors.ReadFault) → Rose b.failures (failures t.source)
ended_rose left failures b before t end r other (keeps, inl both) h =
    absurd (other (sym both.0 ∙ h))
ended_rose left failures b before t end r other (keeps, inr (stop, is, reason)) h =
    stop_rose left failures b t r stop is reason h

read_rose : {T : Type 0} (left : T → Option (List ℕ)) (failures : T → ℕ) (b : Beginning)
    (before : Option (List ℕ)) (t : Translating T) (end : FrameEnd) (r : Result ℕ ProtoError)
    → IsResultOf left failures b before t end r
    → r ≡ Err (errors.Follow follow_errors.ReadFault) → Rose b.failures (failures t.source)
read_rose left failures b before t (ends.Whole n) r is h =
    ended_rose left failures b before t (Ok n) r (λ no. absurd cc) is h
read_rose left failures b before t ends.NeverSynced r is h =
    ended_rose left failures b before t (Err (errors.Follow follow_errors.NeverSynced)) r
    (λ no. absurd cc) is h
read_rose left failures b before t ends.ReadFault r is h =
    stop_rose left failures b t r is.1.0 is.1.1 is.1.2 h
read_rose left failures b before t ends.WriteFault r is h = let no = sym is ∙ h in absurd cc
read_rose left failures b before t ends.OutOfMemory r is h = let no = sym is ∙ h in absurd cc

stop_unwritten : (max allowed : ℕ) (r : Result ℕ ProtoError) (stop : Stop)
    → r ≡ Err (error_of max allowed stop) → r ≡ Err (errors.Follow follow_errors.WriteFault) → ⊥
stop_unwritten max allowed r stops.BadMessage is h = let no = sym is ∙ h in absurd cc
stop_unwritten max allowed r stops.TooManyMessages is h = let no = sym is ∙ h in absurd cc
stop_unwritten max allowed r stops.SourceFailed is h = let no = sym is ∙ h in absurd cc
stop_unwritten max allowed r stops.OutOfMemory is h = let no = sym is ∙ h in absurd cc

ended_unwritten : {T : Type 0} (left : T → Option (List ℕ)) (failures : T → ℕ) (b : Beginning)
    (before : Option (List ℕ)) (t : Translating T) (end r : Result ℕ ProtoError)
    → (end ≡ Err (errors.Follow follow_errors.WriteFault) → ⊥)
    → IsEndedBy left failures b before t end r
    → r ≡ Err (errors.Follow follow_errors.WriteFault) → ⊥
ended_unwritten left failures b before t end r other (keeps, inl both) h = other (sym both.0 ∙ h)
ended_unwritten left failures b before t end r other (keeps, inr (stop, is, reason)) h =
    stop_unwritten b.max t.allowed r stop is h

-- where an end is not a failure of a write, no result of it is one
write_is : {T : Type 0} (left : T → Option (List ℕ)) (failures : T → ℕ) (b : Beginning)
    (before : Option (List ℕ)) (t : Translating T) (end : FrameEnd) (r : Result ℕ ProtoError)
    → IsResultOf left failures b before t end r
    → r ≡ Err (errors.Follow follow_errors.WriteFault) → end ≡ ends.WriteFault
write_is left failures b before t (ends.Whole n) r is h =
    absurd (ended_unwritten left failures b before t (Ok n) r (λ no. absurd cc) is h)
write_is left failures b before t ends.NeverSynced r is h =
    absurd (ended_unwritten left failures b before t (Err (errors.Follow follow_errors.NeverSynced))
    r
    (λ no. absurd cc) is h)
write_is left failures b before t ends.ReadFault r is h =
    absurd (stop_unwritten b.max t.allowed r is.1.0 is.1.1 h)
write_is left failures b before t ends.WriteFault r is h = refl
write_is left failures b before t ends.OutOfMemory r is h = let no = sym is ∙ h in absurd cc

written : (followed : Result ℕ FollowError) → end_by followed ≡ ends.WriteFault
    → followed ≡ Err follow_errors.WriteFault
written (Ok n) is = absurd cc
written (Err follow_errors.OutOfMemory) is = absurd cc
written (Err follow_errors.ReadFault) is = absurd cc
written (Err follow_errors.WriteFault) is = refl
written (Err follow_errors.SessionTooLong) is = absurd cc
written (Err (follow_errors.BadFrame n)) is = absurd cc
written (Err (follow_errors.Source e)) is = absurd cc
written (Err (follow_errors.UnsupportedRpc e)) is = absurd cc
written (Err follow_errors.InitialSyncTimeout) is = absurd cc
written (Err follow_errors.Closed) is = absurd cc
written (Err follow_errors.NeverSynced) is = absurd cc

pub causes_of : {T : Type 0} (loan : T → ℕ) (left : T → Option (List ℕ)) (failures : T → ℕ)
    (b : Beginning) (before : Option (List ℕ)) (t : Translating T) (followed : Result ℕ FollowError)
    (end : FrameEnd) (r : Result ℕ ProtoError) (old new : FailureCounts) (source : T)
    → IsTranslator loan left failures b t → end ≡ end_by followed
    → IsResultOf left failures b before t end r → FailuresHaveCauses old new followed
    → source ≡ t.source → HasCauses b.failures (failures source) old.writes new.writes r
causes_of loan left failures b before t followed end r old new source i end_is is causes same =
    rw same (record {
      reads_later = i.later;
      writes_later = causes.writes_later;
      read = read_rose left failures b before t end r is;
      write = λ h.
          causes.write (written followed
          (sym end_is ∙ write_is left failures b before t end r is h));
    })
