-- The names and numbers of status codes, and what a message holds.
use Rattle.std.specs.Prelude.{ℕ, Bool, List, [], ◌∷◌, Option, Some, None, codes, ◌==◌, ◌||◌, nat_eq}
use Rattle.std.specs.Prelude.{if◌then◌else◌}
use Rattle.std.specs.List.{starts_with}
use Rattle.spf_api.specs.declared.status.GrpcStatusCode.{GrpcStatusCode}
use Rattle.spf_api.specs.declared.status.GrpcStatusCode.TheVariants as code

abbrev pub code_name : GrpcStatusCode → List ℕ
code_name code.Ok = codes "ok"
code_name code.Cancelled = codes "cancelled"
code_name code.Unknown = codes "unknown"
code_name code.InvalidArgument = codes "invalid_argument"
code_name code.DeadlineExceeded = codes "deadline_exceeded"
code_name code.NotFound = codes "not_found"
code_name code.AlreadyExists = codes "already_exists"
code_name code.PermissionDenied = codes "permission_denied"
code_name code.ResourceExhausted = codes "resource_exhausted"
code_name code.FailedPrecondition = codes "failed_precondition"
code_name code.Aborted = codes "aborted"
code_name code.OutOfRange = codes "out_of_range"
code_name code.Unimplemented = codes "unimplemented"
code_name code.Internal = codes "internal"
code_name code.Unavailable = codes "unavailable"
code_name code.DataLoss = codes "data_loss"
code_name code.Unauthenticated = codes "unauthenticated"

abbrev pub code_number : GrpcStatusCode → ℕ
code_number code.Ok = 0
code_number code.Cancelled = 1
code_number code.Unknown = 2
code_number code.InvalidArgument = 3
code_number code.DeadlineExceeded = 4
code_number code.NotFound = 5
code_number code.AlreadyExists = 6
code_number code.PermissionDenied = 7
code_number code.ResourceExhausted = 8
code_number code.FailedPrecondition = 9
code_number code.Aborted = 10
code_number code.OutOfRange = 11
code_number code.Unimplemented = 12
code_number code.Internal = 13
code_number code.Unavailable = 14
code_number code.DataLoss = 15
code_number code.Unauthenticated = 16

-- the code with that number
abbrev pub code_at : ℕ → Option GrpcStatusCode
code_at n =
    if n == 0 then Some code.Ok
    else (if n == 1 then Some code.Cancelled
    else (if n == 2 then Some code.Unknown
    else (if n == 3 then Some code.InvalidArgument
    else (if n == 4 then Some code.DeadlineExceeded
    else (if n == 5 then Some code.NotFound
    else (if n == 6 then Some code.AlreadyExists
    else (if n == 7 then Some code.PermissionDenied
    else (if n == 8 then Some code.ResourceExhausted
    else (if n == 9 then Some code.FailedPrecondition
    else (if n == 10 then Some code.Aborted
    else (if n == 11 then Some code.OutOfRange
    else (if n == 12 then Some code.Unimplemented
    else (if n == 13 then Some code.Internal
    else (if n == 14 then Some code.Unavailable
    else (if n == 15 then Some code.DataLoss
    else (if n == 16 then Some code.Unauthenticated
    else None))))))))))))))))

-- whether the text contains the needle
abbrev pub holds : List ℕ → List ℕ → Bool
holds needle [] = starts_with nat_eq [] needle
holds needle (x ∷ text) = starts_with nat_eq (x ∷ text) needle || holds needle text
