-- What a link answers, and what its count of refusals says.
use Rattle.std.specs.Prelude.{◌≡◌, ℕ, ◌≤◌, ◌⊎◌, Bool, true, false, List, [], ◌∷◌, ◌++◌, Option}
use Rattle.std.specs.Prelude.{None, Some, Result, Ok, Err, if◌then◌else◌}
use Rattle.spf_io.specs.Memory.{next_number}
use Rattle.spf_io.specs.Outside.{Rose}
use Rattle.spf_api.specs.Payload.{kind_of}
use Rattle.spf_api.specs.Refused.{Refused}
use Rattle.spf_api.specs.declared.link.LinkFault.{LinkFault}
use Rattle.spf_api.specs.declared.link.LinkFault.TheVariants as fault
use Rattle.spf_api.specs.declared.response.Response.{Response}
use Rattle.spf_api.specs.declared.response.ResponseKind.{ResponseKind}
use Rattle.spf_api.specs.declared.response.ResponseKind.TheVariants as kind
use Rattle.spf_api.specs.declared.status.GrpcStatusCode.TheVariants as code
use Rattle.spf_link.specs.declared.request.Start.{Start}
use Rattle.spf_link.specs.declared.answer.Answer.{Answer}
use Rattle.spf_link.specs.declared.answer.Answer.TheVariants as answer

-- what a `start` returns
abbrev pub Started : Type 0
Started = Result (Unit {0}) LinkFault

-- what a `next` returns
abbrev pub Answered : Type 0
Answered = Result (Option Response) LinkFault

-- the call was refused, and memory did not run out
abbrev pub IsRefusal : {T : Type 0} → Result T LinkFault → Type 0
IsRefusal (Ok _) = ⊥
IsRefusal (Err fault.OutOfMemory) = ⊥
IsRefusal (Err f) = Unit {0}

-- the count of refusals never falls, and a refusal comes only where it rose
pub record HasLinkCause {T : Type 0} (before now : ℕ) (result : Result T LinkFault) : Type 0 where
  pub later : before ≤ now
  pub refused : IsRefusal result → Rose before now

-- the count of refusals after a call, which stands still at 2^64 - 1
abbrev pub refusals_after : {T : Type 0} → Result T LinkFault → ℕ → ℕ
refusals_after (Ok _) n = n
refusals_after (Err fault.OutOfMemory) n = n
refusals_after (Err f) n = next_number n

-- what a `start` was given is appended, unless memory ran out
abbrev pub StartAppends : {T : Type 0} → Option (List Start) → Option (List Start)
    → Result T LinkFault → Start → Type 0
StartAppends None new result start = Unit {0}
StartAppends (Some old) new (Err fault.OutOfMemory) start = new ≡ Some old
StartAppends (Some old) new result start = new ≡ Some (old ++ start ∷ [])

-- UNAVAILABLE with an empty message, with which a link refuses where no answer fits
abbrev pub unavailable : Refused
unavailable = record { code = code.Unavailable; message = []; source = None }

-- the members after the first one
abbrev pub rest_of : {A : Type 0} → List A → List A
rest_of [] = []
rest_of (x ∷ xs) = xs

-- the next answer is taken, and the call returns what it says, unless memory ran out
abbrev pub Takes : {T : Type 0} → Option (List Answer) → Option (List Answer)
    → (List Answer → Result T LinkFault) → Result T LinkFault → Type 0
Takes None new by result = Unit {0}
Takes (Some answers) new by (Err fault.OutOfMemory) = (new ≡ Some answers)
    ⊎ (new ≡ Some (rest_of answers))
Takes (Some answers) new by result = (new ≡ Some (rest_of answers)) × (result ≡ by answers)

-- what a `start` returns for the answers to come: an answer that does not fit is a refusal, as
-- where there is none
abbrev pub started_by : List Answer → Result (Unit {0}) LinkFault
started_by (answer.Started ∷ answers) = Ok tt
started_by (answer.Refused f ∷ answers) = Err f
started_by _ = Err (fault.Status unavailable)

-- whether responses of this kind were asked for
abbrev pub is_kind : Option ResponseKind → ResponseKind → Bool
is_kind (Some kind.Context) kind.Context = true
is_kind (Some kind.Bundles) kind.Bundles = true
is_kind (Some kind.JwtSvids) kind.JwtSvids = true
is_kind (Some kind.JwtBundles) kind.JwtBundles = true
is_kind (Some kind.Validation) kind.Validation = true
is_kind _ _ = false

-- what a `next` returns for the answers to come, where responses of that kind were asked for
abbrev pub next_by : Option ResponseKind → List Answer → Result (Option Response) LinkFault
next_by asked (answer.End ∷ answers) = Ok None
next_by asked (answer.Refused f ∷ answers) = Err f
next_by asked (answer.Item r ∷ answers) = if is_kind asked (kind_of r) then Ok (Some r) else Err
    (fault.Status unavailable)
next_by asked _ = Err (fault.Status unavailable)
