-- What an item of an X.509 session brings, and the rules of a session.
use Rattle.std.specs.Prelude.{◌≡◌, IsErr, ℕ, ℤ, Bool, true, List, Option, None, Some, is_some}
use Rattle.std.specs.Prelude.{Result, Ok, Err}
use Rattle.std.specs.Option.{option_map}
use Rattle.spf_x509.specs.Svid.{Svid}
use Rattle.spf_x509.specs.Context.{Context}
use Rattle.spf_api.specs.declared.response.ContextResponse.{ContextResponse}
use Rattle.spf_api.specs.declared.error.WorkloadApiError.{WorkloadApiError}
use Rattle.spf_api.specs.declared.error.WorkloadApiError.TheVariants as api
use Rattle.spf_api.specs.Errors.{status_reading}
use Rattle.spf_api.specs.Reading.{context_at}
use Rattle.spf_api.specs.Parsed.{parsed_of}
use Rattle.spf_view.specs.Views.{Subject}
use Rattle.spf_feed.specs.declared.event.SessionEvent.{SessionEvent}
use Rattle.spf_feed.specs.declared.event.SessionEvent.TheVariants as events
use Rattle.spf_feed.specs.declared.limits.ResourceLimits.{ResourceLimits}
use Rattle.spf_feed.specs.declared.ready.Ready.{Ready}
use Rattle.spf_feed.specs.declared.ready.Ready.TheVariants as readiness
use Rattle.spf_feed.specs.declared.step.Denial.{Denial}
use Rattle.spf_feed.specs.declared.step.Denial.TheVariants as denial
use Rattle.spf_feed.specs.Pick.{pick_of}
use Rattle.spf_feed.specs.Pick.{usable}
use Rattle.spf_feed.specs.Steps.{Material, chosen_of, fits, same_material}

-- an event of an X.509 session
abbrev pub Event : Type 0
Event = SessionEvent ContextResponse

-- an event as it is received, with the context of its item, none where it breaks a rule
abbrev pub Received : Type 0
Received = SessionEvent (Option Context)

-- the value, where no rule is broken
abbrev pub value_of : {T E : Type 0} → Result T E → Option T
value_of (Ok x) = Some x
value_of (Err e) = None

-- the context of a response, none where it breaks a rule
unfoldable pub context_in : ContextResponse → Option Context
context_in r = value_of (parsed_of r)

-- the context that was read, where memory did not run out
abbrev pub IsReceived : {E : Type 0} → Result Context WorkloadApiError → Result (Option Context) E
    → Type 0
IsReceived (Ok context) r = r ≡ Ok (Some context)
IsReceived (Err api.OutOfMemory) r = IsErr r
IsReceived (Err e) r = r ≡ Ok None

-- the context of the response that a payload lays out
abbrev pub item_at : List ℕ → Option (Option Context)
item_at payload = option_map context_in (context_at payload)

-- The rules of a session, but for its limit of frames.
pub record Rules : Type 0 where
  pub limits : ResourceLimits
  pub deadline : Option ℤ
  pub ready : Ready
  -- the index of the choice among SVIDs
  pub pick : List Svid → Option ℕ

-- the rules of a session with a picker, where one is set
abbrev pub rules_with : ResourceLimits → Option ℤ → Ready → Option (List Svid → Option ℕ) → Rules
rules_with limits deadline ready picker = record {
  limits = limits;
  deadline = deadline;
  ready = ready;
  pick = pick_of picker;
}

-- a context with its choice
abbrev pub picked : Rules → Context → Material
picked rules context = record { context = context; choice = rules.pick context.svids }

-- the first accepted context needs a choice that is not expired at the last moment, or nothing more
abbrev pub may_sync : Ready → Material → Option ℤ → Bool
may_sync readiness.Usable material now = is_some (usable (chosen_of material) now)
may_sync readiness.Any material now = true

-- the denial that an error of the Workload API stands for
abbrev pub denial_in : WorkloadApiError → Option Denial
denial_in api.NoIdentityIssued = Some denial.NoIdentityIssued
denial_in (api.PermissionDenied message) = Some (denial.PermissionDenied message)
denial_in _ = None

-- the material of an item, where `read` gives its context
abbrev pub item_material : {I : Type 0} → (I → Option Context) → Rules → SessionEvent I
    → Option Material
item_material read rules (events.Item i) = option_map (picked rules) (read i)
item_material read rules _ = None

-- a status of the connection or of the stream that denies; a client failure never does
abbrev pub denial_of : {I : Type 0} → SessionEvent I → Option Denial
denial_of (events.ConnectStatus s) = denial_in (status_reading s)
denial_of (events.ItemStatus s) = denial_in (status_reading s)
denial_of _ = None

abbrev pub moment_of : {I : Type 0} → SessionEvent I → Option ℤ
moment_of (events.Moment m) = Some m
moment_of _ = None

-- what the events of a session say, where `read` gives the context of an item
abbrev pub subject_by : {I : Type 0} → (I → Option Context) → Rules
    → Subject (SessionEvent I) Material ResourceLimits Denial
subject_by read rules = record {
  parsed = item_material read rules;
  limits = rules.limits;
  is_within = fits;
  may_sync = may_sync rules.ready;
  denial = denial_of;
  moment = moment_of;
  is_same = same_material;
}

-- the subject of a session
abbrev pub subject : Rules → Subject Event Material ResourceLimits Denial
subject rules = subject_by context_in rules
