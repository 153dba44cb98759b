-- A kind of session, as a feeder sees it: what it asks a link for, what its events say, and what
-- they do to it.
use Rattle.std.specs.Prelude.{◌≡◌, ℤ, Bool, true, if◌then◌else◌, is_some, List, ◌∷◌, Option}
use Rattle.std.specs.Prelude.{None}
use Rattle.spf_view.specs.Views.{Subject}
use Rattle.spf_api.specs.Payload.{kind_of}
use Rattle.spf_api.specs.Refused.{Refused}
use Rattle.spf_api.specs.declared.link.ClientFault.{ClientFault}
use Rattle.spf_api.specs.declared.response.Response.{Response}
use Rattle.spf_feed.specs.declared.event.SessionEvent.{SessionEvent}
use Rattle.spf_feed.specs.declared.event.SessionEvent.TheVariants as events
use Rattle.spf_feed.specs.declared.limits.ResourceLimits.{ResourceLimits}
use Rattle.spf_feed.specs.declared.phase.Phase.{Phase}
use Rattle.spf_feed.specs.declared.phase.Phase.TheVariants as phases
use Rattle.spf_feed.specs.declared.record.MetricsRecord.{MetricsRecord}
use Rattle.spf_feed.specs.declared.step.Denial.{Denial}
use Rattle.spf_feed.specs.declared.turn.Terminal.{Terminal}
use Rattle.spf_feed.specs.Items.{Rules, context_in, subject}
use Rattle.spf_feed.specs.Run.{ask_of, outputs, stream}
use Rattle.spf_feed.specs.Steps.{Material}
use Rattle.spf_api.specs.declared.response.ContextResponse.{ContextResponse}
use Rattle.spf_feeder.specs.Asking.{Wanted, contexts, kind_wanted}

-- I are its items, M is the material of an accepted one, B are its limits, and R its records.
pub record Kind (I M B R : Type 0) : Type 0 where
  pub wanted : Wanted I
  pub subject : Subject (SessionEvent I) M B Denial
  -- what is asked after a history
  pub ask : List (SessionEvent I) → Phase
  -- how an event after a history ends the session
  pub refusal : List (SessionEvent I) → SessionEvent I → Option Terminal
  -- what an event after a history records
  pub records : List (SessionEvent I) → SessionEvent I → List R

-- what is asked next follows from the last event that is not a moment
pub record FollowsEvents {I : Type 0} (ask : List (SessionEvent I) → Phase) : Type 0 where
  pub keeps : List (SessionEvent I) → I → Bool
  pub made : (past : List (SessionEvent I)) → ask (events.ClientMade ∷ past) ≡ phases.Connect
  pub failed : (past : List (SessionEvent I)) (f : ClientFault)
      → ask (events.ClientFailed f ∷ past) ≡ phases.Client
  pub connected : (past : List (SessionEvent I)) → ask (events.Connected ∷ past) ≡ phases.Next
  pub refused : (past : List (SessionEvent I)) (s : Refused)
      → ask (events.ConnectStatus s ∷ past) ≡ phases.Client
  pub item : (past : List (SessionEvent I)) (i : I)
      → ask (events.Item i ∷ past) ≡ (if keeps past i then phases.Next else phases.Client)
  pub broken : (past : List (SessionEvent I)) (s : Refused)
      → ask (events.ItemStatus s ∷ past) ≡ phases.Client
  pub ended : (past : List (SessionEvent I)) → ask (events.StreamEnd ∷ past) ≡ phases.Client
  pub moment : (past : List (SessionEvent I)) (m : ℤ) → ask (events.Moment m ∷ past) ≡ ask past

-- What holds of each kind: events say what is asked next, a moment is not an item, and each
-- response of the kind that is asked for holds an item.
pub record IsLawful {I M B R : Type 0} (k : Kind I M B R) : Type 0 where
  pub follows : FollowsEvents k.ask
  pub unread : (m : ℤ) → k.subject.parsed (events.Moment m) ≡ None
  pub holds : (r : Response) → kind_of r ≡ kind_wanted k.wanted
      → is_some (k.wanted.item r) ≡ true

-- X.509 sessions, by their rules
abbrev pub x509 : Rules → Kind ContextResponse Material ResourceLimits MetricsRecord
x509 rules = record {
  wanted = contexts;
  subject = subject rules;
  ask = ask_of context_in rules;
  refusal = (stream rules).refusal;
  records = (outputs rules).records;
}
