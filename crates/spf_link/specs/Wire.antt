-- How a link over the wire answers, over what its source gives and its sink holds.
use Rattle.std.specs.Prelude.{◌≡◌, ℕ, ◌^◌, ◌<◌, Bool, true, false, List, [], length, take}
use Rattle.std.specs.Prelude.{Option, None, Some, Result, Ok, Err}
use Rattle.std.specs.Io.KnownBytes.{Consumes, Appends}
use Rattle.spf_io.specs.Outside.{Rose}
use Rattle.spf_view.specs.Frames.{FitsFrame}
use Rattle.spf_frame.specs.declared.error.FrameError.{FrameError}
use Rattle.spf_frame.specs.declared.error.FrameError.TheVariants as errors
use Rattle.spf_api.specs.Refused.{Refused}
use Rattle.spf_api.specs.declared.link.LinkFault.{LinkFault}
use Rattle.spf_api.specs.declared.link.LinkFault.TheVariants as fault
use Rattle.spf_api.specs.declared.response.Response.{Response}
use Rattle.spf_api.specs.declared.response.ResponseKind.{ResponseKind}
use Rattle.spf_api.specs.declared.status.GrpcStatusCode.{GrpcStatusCode}
use Rattle.spf_api.specs.declared.status.GrpcStatusCode.TheVariants as code
use Rattle.spf_link.specs.Headers.{Header}
use Rattle.spf_link.specs.Links.{refusals_after}
use Rattle.spf_link.specs.Request.{answered_by}
use Rattle.spf_link.specs.declared.request.Request.{Request}
use Rattle.spf_link.specs.declared.wire_fault.WireFault.{WireFault}
use Rattle.spf_link.specs.declared.wire_fault.WireFault.TheVariants as wire
use Rattle.spf_link.specs.Answers.{StartRead, StreamRead}
use Rattle.spf_link.specs.Requests.{request_payload, request_text}

-- the source and the sink of a link: the bytes left and those
-- held, where they are known, and how many calls failed
pub record Ports : Type 0 where
  pub left : Option (List ℕ)
  pub held : Option (List ℕ)
  pub reads_failed : ℕ
  pub puts_failed : ℕ

-- A link: its ports; the kind of the responses to the request that was put last; how often it
-- refused; and whether it has lost its place, so that what comes next may be the middle of a frame.
pub record WireState : Type 0 where
  pub ports : Ports
  pub asked : Option ResponseKind
  pub refused : ℕ
  pub lost : Bool

-- ---- the refusals

-- a status with an empty message
abbrev pub refusal : GrpcStatusCode → LinkFault
refusal c = fault.Status (record { code = c; message = []; source = None })

-- The refusal by what stood in the way: RESOURCE_EXHAUSTED for a request that is too long,
-- UNAVAILABLE for a put or a read that failed, now or before, INTERNAL where no whole answer came
-- that is allowed there.
abbrev pub fault_of : WireFault → LinkFault
fault_of wire.RequestTooLong = refusal code.ResourceExhausted
fault_of wire.PutFault = refusal code.Unavailable
fault_of (wire.Unread errors.ReadFault) = refusal code.Unavailable
fault_of (wire.Unread errors.BadFrame) = refusal code.Internal
fault_of (wire.Unread errors.TooLong) = refusal code.Internal
fault_of (wire.Unread errors.OutOfMemory) = fault.OutOfMemory
fault_of wire.OutOfMemory = fault.OutOfMemory
fault_of wire.LostPlace = refusal code.Unavailable

-- what the other side said, or the refusal by what stood in the way
abbrev pub result_of : {A : Type 0} → Result (Result A Refused) WireFault → Result A LinkFault
result_of (Ok (Ok x)) = Ok x
result_of (Ok (Err s)) = Err (fault.Status s)
result_of (Err f) = Err (fault_of f)

-- ---- the place of a link

-- Whether a link loses its place: a put or a read failed, or memory ran out while it read, and a
-- part of a frame may have been put or read.
abbrev pub loses_place : {A : Type 0} → Result A WireFault → Bool
loses_place (Ok _) = false
loses_place (Err wire.RequestTooLong) = false
loses_place (Err wire.OutOfMemory) = false
loses_place (Err (wire.Unread errors.BadFrame)) = false
loses_place (Err (wire.Unread errors.TooLong)) = false
loses_place (Err (wire.Unread errors.ReadFault)) = true
loses_place (Err (wire.Unread errors.OutOfMemory)) = true
loses_place (Err wire.PutFault) = true
loses_place (Err wire.LostPlace) = true

-- ---- a start

-- a read is said to have failed only where the count of the source rose
abbrev pub HasReadCause : {A : Type 0} → Ports → Ports → Result A FrameError → Type 0
HasReadCause old new r = r ≡ Err errors.ReadFault → Rose old.reads_failed new.reads_failed

-- the request was put whole, and what came was read
pub record IsAsked (again : Bool) (headers : List Header) (request : Request) (old new : Ports)
    (r : Result (Result (Unit {0}) Refused) FrameError) : Type 0 where
  pub fits : FitsFrame (request_payload headers request)
  pub put : Appends old.held new.held (request_text headers request)
  pub read : StartRead again old.left new.left r
  pub cause : HasReadCause old new r

-- a put failed, before anything was read
pub record IsUnput (headers : List Header) (request : Request) (old new : Ports) : Type 0 where
  pub fits : FitsFrame (request_payload headers request)
  pub octets : ℕ
  pub put : Appends old.held new.held (take octets (request_text headers request))
  pub untaken : Consumes old.left new.left []
  pub cause : Rose old.puts_failed new.puts_failed

-- nothing was put or read
pub record IsUntouched (old new : Ports) : Type 0 where
  pub unput : Appends old.held new.held []
  pub untaken : Consumes old.left new.left []

abbrev pub StartAsked : Bool → List Header → Request → Ports → Ports
    → Result (Result (Unit {0}) Refused) WireFault → Type 0
StartAsked again headers request old new (Ok answer) =
    IsAsked again headers request old new (Ok answer)
StartAsked again headers request old new (Err wire.RequestTooLong) =
    (2 ^ 24 < length (request_payload headers request)) × IsUntouched old new
StartAsked again headers request old new (Err wire.PutFault) = IsUnput headers request old new
StartAsked again headers request old new (Err (wire.Unread e)) =
    IsAsked again headers request old new (Err e)
StartAsked again headers request old new (Err wire.OutOfMemory) = IsUntouched old new
StartAsked again headers request old new (Err wire.LostPlace) = ⊥

-- a link that has lost its place puts and reads nothing
abbrev pub Placed : {A : Type 0} → Bool → Ports → Ports → Result A WireFault → Type 0 → Type 0
Placed true old new answer Asked = (answer ≡ Err wire.LostPlace) × IsUntouched old new
Placed false old new answer Asked = Asked

-- the kind that was asked for last: that of this request, once anything of it may have been put
abbrev pub asked_after : {A : Type 0} → Result A WireFault → Option ResponseKind → ResponseKind
    → Option ResponseKind
asked_after (Err wire.RequestTooLong) before now = before
asked_after (Err wire.OutOfMemory) before now = before
asked_after (Err wire.LostPlace) before now = before
asked_after _ before now = Some now

-- a `start`, which is the first of its link unless `again`
pub record IsStarted (again : Bool) (headers : List Header) (request : Request)
    (old new : WireState) (result : Result (Unit {0}) LinkFault) : Type 0 where
  pub answer : Result (Result (Unit {0}) Refused) WireFault
  pub asked : Placed old.lost old.ports new.ports answer
      (StartAsked again headers request old.ports new.ports answer)
  pub is : result ≡ result_of answer
  pub kind : new.asked ≡ asked_after answer old.asked (answered_by request)
  pub refused : new.refused ≡ refusals_after result old.refused
  pub lost : new.lost ≡ loses_place answer

-- ---- a next

-- what came in the stream was read, and nothing was put
pub record IsStreamRead (asked : Option ResponseKind) (old new : Ports)
    (r : Result (Result (Option Response) Refused) FrameError) : Type 0 where
  pub read : StreamRead asked old.left new.left r
  pub cause : HasReadCause old new r
  pub unput : Appends old.held new.held []

abbrev pub NextRead : Option ResponseKind → Ports → Ports
    → Result (Result (Option Response) Refused) WireFault → Type 0
NextRead asked old new (Ok answer) = IsStreamRead asked old new (Ok answer)
NextRead asked old new (Err (wire.Unread e)) = IsStreamRead asked old new (Err e)
NextRead asked old new (Err _) = ⊥

-- a `next`, of the stream of the request that was asked for last
pub record IsNextResponse (old new : WireState) (result : Result (Option Response) LinkFault) :
    Type 0 where
  pub answer : Result (Result (Option Response) Refused) WireFault
  pub read : Placed old.lost old.ports new.ports answer
      (NextRead old.asked old.ports new.ports answer)
  pub is : result ≡ result_of answer
  pub kind : new.asked ≡ old.asked
  pub refused : new.refused ≡ refusals_after result old.refused
  pub lost : new.lost ≡ loses_place answer
