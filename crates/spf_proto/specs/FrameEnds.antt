-- How following the frames of a body ends.
use Rattle.std.specs.Prelude.{ℕ, Result, Ok, Err}
use Rattle.spf_feed.specs.declared.follow_error.FollowError.{FollowError}
use Rattle.spf_feed.specs.declared.follow_error.FollowError.TheVariants as follow_errors
use Rattle.spf_proto.specs.declared.frame_end.FrameEnd.{FrameEnd}
use Rattle.spf_proto.specs.declared.frame_end.FrameEnd.TheVariants as ends
use Rattle.spf_proto.specs.declared.proto_error.ProtoError.{ProtoError}
use Rattle.spf_proto.specs.declared.proto_error.ProtoError.TheVariants as errors

abbrev pub end_by : Result ℕ FollowError → FrameEnd
end_by (Ok count) = ends.Whole count
end_by (Err follow_errors.NeverSynced) = ends.NeverSynced
end_by (Err follow_errors.ReadFault) = ends.ReadFault
end_by (Err follow_errors.WriteFault) = ends.WriteFault
end_by (Err _) = ends.OutOfMemory

abbrev pub result_of_end : FrameEnd → Result ℕ ProtoError
result_of_end (ends.Whole count) = Ok count
result_of_end ends.NeverSynced = Err (errors.Follow follow_errors.NeverSynced)
result_of_end ends.ReadFault = Err (errors.Follow follow_errors.ReadFault)
result_of_end ends.WriteFault = Err (errors.Follow follow_errors.WriteFault)
result_of_end ends.OutOfMemory = Err (errors.Follow follow_errors.OutOfMemory)
