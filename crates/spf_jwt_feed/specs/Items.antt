-- What an item of a JWT session brings, and the rules of a session.
use Rattle.std.specs.Prelude.{◌≡◌, IsErr, ℤ, Bool, true, false, List, length, ◌==◌, ℕ, Option, None}
use Rattle.std.specs.Prelude.{Some, Result, Ok, Err, if◌then◌else◌}
use Rattle.std.specs.Option.{option_map}
use Rattle.spf_api.specs.declared.error.WorkloadApiError.{WorkloadApiError}
use Rattle.spf_api.specs.declared.error.WorkloadApiError.TheVariants as api
use Rattle.spf_api.specs.declared.response.BundlesResponse.{BundlesResponse}
use Rattle.spf_api.specs.declared.response.Response.{Response}
use Rattle.spf_api.specs.declared.response.Response.TheVariants as response
use Rattle.spf_api.specs.declared.response.ResponseKind.TheVariants as kinds
use Rattle.spf_api.specs.Payload.{Payload}
use Rattle.spf_api.specs.Reading.{bundles_at}
use Rattle.spf_jwt.specs.Bundle.{set_eq}
use Rattle.spf_jwt.specs.declared.limits.JwtResourceLimits.{JwtResourceLimits}
use Rattle.spf_jwt.specs.Responses.{jwt_bundle_set_of}
use Rattle.spf_view.specs.Views.{Subject}
use Rattle.spf_feed.specs.declared.event.SessionEvent.{SessionEvent}
use Rattle.spf_feed.specs.declared.event.SessionEvent.TheVariants as events
use Rattle.spf_feed.specs.declared.step.Denial.{Denial}
use Rattle.spf_feed.specs.Items.{denial_of, moment_of}
use Rattle.spf_jwt_feed.specs.declared.event.JwtItem.{JwtItem}
use Rattle.spf_jwt_feed.specs.declared.event.JwtItem.TheVariants as item
use Rattle.spf_jwt_feed.specs.Steps.{BundleSet, fits}

-- an event of a JWT session
abbrev pub Event : Type 0
Event = SessionEvent BundlesResponse

-- an event as it is received, with its item read
abbrev pub Received : Type 0
Received = SessionEvent JwtItem

-- the bundle set, where no rule is broken
abbrev pub item_by : {E : Type 0} → Result BundleSet E → JwtItem
item_by (Ok set) = item.Bundles set
item_by (Err e) = item.Broken

-- what the bundles of a response are
unfoldable pub item_in : BundlesResponse → JwtItem
item_in r = if length r.bundles == 0 then item.Empty else item_by (jwt_bundle_set_of r)

-- the item whose key sets were read, where memory did not run out
abbrev pub IsReceived : {E : Type 0} → Result BundleSet WorkloadApiError → Result JwtItem E → Type 0
IsReceived (Ok set) r = r ≡ Ok (item.Bundles set)
IsReceived (Err api.OutOfMemory) r = IsErr r
IsReceived (Err e) r = r ≡ Ok item.Broken

-- the response is one of key sets
abbrev pub HasKeySets : Response → Type 0
HasKeySets (response.JwtBundles r) = Unit {0}
HasKeySets _ = ⊥

-- the response that a payload lays out
abbrev pub response_at : List ℕ → Option BundlesResponse
response_at payload = option_map (λ l. record { bundles = l }) (bundles_at payload)

-- an item of a JWT session: the payload of a response
abbrev pub ItemText : List ℕ → BundlesResponse → Type 0
ItemText bytes r = Payload kinds.JwtBundles bytes (response.JwtBundles r)

-- the item that a payload lays out
abbrev pub item_at : List ℕ → Option JwtItem
item_at payload = option_map item_in (response_at payload)

-- the bundle set of an item that has bundles and breaks no rule
abbrev pub bundles_in : JwtItem → Option BundleSet
bundles_in (item.Bundles set) = Some set
bundles_in item.Empty = None
bundles_in item.Broken = None

-- an item that breaks no rule, or only the rule that it is not empty
abbrev pub keeps_stream : JwtItem → Bool
keeps_stream (item.Bundles set) = true
keeps_stream item.Empty = true
keeps_stream item.Broken = false

-- The rules of a session, but for its limit of frames.
pub record Rules : Type 0 where
  pub limits : JwtResourceLimits
  pub deadline : Option ℤ

-- the bundle set of an item, where `read` says what the item is
abbrev pub item_set : {I : Type 0} → (I → JwtItem) → SessionEvent I → Option BundleSet
item_set read (events.Item i) = bundles_in (read i)
item_set read _ = None

-- What the events of a session say, where `read` says what an item is. An item
-- is accepted where it keeps the limits: no choice and no moment are needed.
abbrev pub subject_by : {I : Type 0} → (I → JwtItem) → JwtResourceLimits
    → Subject (SessionEvent I) BundleSet JwtResourceLimits Denial
subject_by read limits = record {
  parsed = item_set read;
  limits = limits;
  is_within = fits;
  may_sync = λ set now. true;
  denial = denial_of;
  moment = moment_of;
  is_same = set_eq;
}

-- the subject of a session
abbrev pub subject : Rules → Subject Event BundleSet JwtResourceLimits Denial
subject rules = subject_by item_in rules.limits
