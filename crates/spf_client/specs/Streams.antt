-- What a call of a stream returns.
use Rattle.std.specs.Prelude.{◌≡◌, Bool, true, false, Option, None, Some, Result, Ok, Err}
use Rattle.spf_api.specs.declared.error.WorkloadApiError.{WorkloadApiError}
use Rattle.spf_api.specs.declared.link.LinkFault.{LinkFault}
use Rattle.spf_api.specs.declared.link.LinkFault.TheVariants as fault
use Rattle.spf_api.specs.declared.response.Response.{Response}
use Rattle.spf_link.specs.Asked.{Nexts}
use Rattle.spf_link.specs.declared.link.Link as links
use Rattle.spf_client.specs.Reading.{fault_reading, IsReadBy}

-- whether the stream has ended after an answer of the link: at its end, and after a refusal other
-- than out of memory
abbrev pub ends : Result (Option Response) LinkFault → Bool
ends (Ok None) = true
ends (Ok (Some response)) = false
ends (Err fault.OutOfMemory) = false
ends (Err f) = true

-- the response or the error that an answer of the link brings; none at the end of the stream
abbrev pub brought_by : Result (Option Response) LinkFault
    → Option (Result Response WorkloadApiError)
brought_by (Ok None) = None
brought_by (Ok (Some response)) = Some (Ok response)
brought_by (Err f) = Some (Err (fault_reading f))

-- where the stream has ended nothing is asked
pub record IsOver {S X : Type 0} (old : S) (result : Option X) (new : S) (after : Bool) :
    Type 0 where
  pub nothing : result ≡ None
  pub untouched : new ≡ old
  pub over : after ≡ true

-- one `next`, whose answer says what it brings, and whether the stream has ended
pub record IsAsked {S : Type 0} (link : links.Ghosts S) (old : S)
    (result : Option (Result Response WorkloadApiError)) (new : S) (after : Bool) : Type 0 where
  pub answer : Result (Option Response) LinkFault
  pub next : Nexts link old answer new
  pub brought : result ≡ brought_by answer
  pub ended : after ≡ ends answer

-- a call of a stream that has ended before it or not, and has ended after it or not
abbrev pub Brings : {S : Type 0} → links.Ghosts S → Bool → S
    → Option (Result Response WorkloadApiError) → S → Bool → Type 0
Brings link true old result new after = IsOver old result new after
Brings link false old result new after = IsAsked link old result new after

-- a response is read by the rule of its kind; an error, and the end of the stream, stay as they are
abbrev pub ReadsNext : {R X Y : Type 0} → (R → Response) → (R → Result Y WorkloadApiError) → (X → Y)
    → Option (Result Response WorkloadApiError) → Option (Result X WorkloadApiError) → Type 0
ReadsNext of_kind rule view None result = result ≡ None
ReadsNext of_kind rule view (Some (Err e)) result = result ≡ Some (Err e)
ReadsNext of_kind rule view (Some (Ok response)) None = ⊥
ReadsNext of_kind rule view (Some (Ok response)) (Some item) =
    IsReadBy of_kind rule view response item

-- the next item of a stream
pub record Streams {S R X Y : Type 0} (link : links.Ghosts S) (of_kind : R → Response)
    (rule : R → Result Y WorkloadApiError) (view : X → Y) (before : Bool) (old : S)
    (result : Option (Result X WorkloadApiError)) (new : S) (after : Bool) : Type 0 where
  pub brought : Option (Result Response WorkloadApiError)
  pub brings : Brings link before old brought new after
  pub reads : ReadsNext of_kind rule view brought result
