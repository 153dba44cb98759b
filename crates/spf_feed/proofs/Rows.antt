-- The definitions of sessions at named rows, with small contexts.
use Rattle.std.proofs.Common.{◌≡◌, ℕ, true, false, List, [], ◌∷◌, Option, None, Some, Ok, Err, refl}
use Rattle.std.specs.Prelude.{ℤ, pos, codes}
use Rattle.std.specs.Ordering.{nat_cmp}
use Rattle.spf_id.specs.Id.{id_text}
use Rattle.std.specs.Cmp.Lexicographic.{slice_cmp}
use Rattle.spf_x509.specs.Bag.{in_order}
use Rattle.spf_api.specs.declared.link.ClientFault.TheVariants as fault
use Rattle.spf_x509.specs.Svid.{Svid}
use Rattle.spf_x509.specs.Context.{Context}
use Rattle.spf_api.specs.Refused.{Refused}
use Rattle.spf_api.specs.declared.status.GrpcStatusCode.TheVariants as code
use Rattle.spf_view.specs.Views.{View, Waiting, Withdrawn, Permitted, outcomes, view_of}
use Rattle.spf_view.specs.Views.{revision_of, last_moment}
use Rattle.spf_view.specs.Sessions.{TooLong, BadFrame, Refused as SessionRefused, NeverSynced}
use Rattle.spf_view.specs.Sessions.{end_of, refusal_of, closed_of, onto}
use Rattle.spf_feed.specs.declared.event.SessionEvent.TheVariants as events
use Rattle.spf_feed.specs.declared.phase.Phase.TheVariants as phases
use Rattle.spf_feed.specs.declared.limits.LimitKind.TheVariants.{MaxSvids}
use Rattle.spf_feed.specs.declared.limits.ResourceLimits.{ResourceLimits}
use Rattle.spf_feed.specs.declared.ready.Ready.TheVariants as readiness
use Rattle.spf_feed.specs.declared.record.MetricsErrorKind.TheVariants as kinds
use Rattle.spf_feed.specs.declared.record.MetricsRecord.TheVariants as records
use Rattle.spf_feed.specs.declared.turn.Terminal.TheVariants as terminal
use Rattle.spf_feed.specs.Events.{moment_at, status_at, event_at}
use Rattle.spf_feed.specs.Frames.{allows}
use Rattle.spf_feed.specs.Items.{Received, Rules, subject_by}
use Rattle.spf_feed.specs.Limits.{within}
use Rattle.spf_feed.specs.declared.phase.Phase.{Phase}
use Rattle.spf_feed.specs.declared.step.Denial.{Denial}
use Rattle.spf_feed.specs.declared.step.Denial.TheVariants as denials
use Rattle.spf_feed.specs.Material.{Material, chosen_of, same_material}
use Rattle.spf_feed.specs.Pick.{usable}
use Rattle.spf_feed.specs.Pick.{pick_of}
use Rattle.spf_feed.specs.Run.{ask_of, terminal_of, records_by, stream_by}
use Rattle.spf_feed.specs.Shown.{view_line, shown_text}

-- an SVID with a chain of one octet, which expires at 1000
abbrev svid_of : List ℕ → ℕ → Svid
svid_of path octet = record {
  id = record { domain = codes "example.org"; path = path };
  hint = None;
  chain = (octet ∷ []) ∷ [];
  key = [];
  expiry = pos 1000;
}

-- the SVIDs, and the authorities of example.org
abbrev context_of : List Svid → List (List ℕ) → Context
context_of svids authorities = record {
  svids = svids;
  bundles = (
    codes "example.org",
    record { domain = codes "example.org"; authorities = authorities },
  ) ∷ [];
  crls = [];
}

abbrev one : Context
one = context_of (svid_of (codes "/w") 1 ∷ []) ((2 ∷ []) ∷ [])

abbrev shuffled : Context
shuffled = context_of (svid_of (codes "/v") 1 ∷ svid_of (codes "/w") 3 ∷ [])
    ((4 ∷ []) ∷ (2 ∷ []) ∷ [])

abbrev reshuffled : Context
reshuffled =
    context_of (svid_of (codes "/v") 1 ∷ svid_of (codes "/w") 3 ∷ []) ((2 ∷ []) ∷ (4 ∷ []) ∷ [])

abbrev unlimited : ResourceLimits
unlimited = record {
  max_svids = None;
  max_bundles = None;
  max_bundle_der_bytes = None;
  max_crl_bytes = None;
}

abbrev rules : Rules
rules = record {
  limits = unlimited;
  deadline = None;
  ready = readiness.Usable;
  pick = pick_of None;
}

-- what is visible after a history, its revision, and the last moment
abbrev behind : List Received → View Material Denial × ℕ × Option ℤ
behind past = (
  view_of (outcomes (subject_by (λ o. o) rules) past),
  revision_of same_material (outcomes (subject_by (λ o. o) rules) past),
  last_moment (subject_by (λ o. o) rules) past,
)

-- a context with its first SVID chosen
abbrev first_of : Context → Material
first_of context = record { context = context; choice = Some 0 }

abbrev asked_after : List Received → Phase
asked_after past = ask_of (λ (o : Option Context). o) rules past

abbrev denied : Refused
denied = record { code = code.PermissionDenied; message = codes "no"; source = None }

abbrev unavailable : Refused
unavailable = record { code = code.Unavailable; message = codes "x"; source = None }

-- a moment, a client, a connection
abbrev connected : List Received → List Received
connected past = events.Connected ∷ events.ClientMade ∷ past

abbrev synced : List Received
synced = connected (events.Moment (pos 999) ∷ [])

-- ---- what is visible

waiting : behind synced ≡ (Waiting, 0, Some (pos 999))
unfolding within
waiting = refl

first_run : behind (events.Item (Some one) ∷ synced) ≡ (Permitted (first_of one), 0, Some (pos 999))
unfolding within same_material
first_run = refl

no_moment_yet : behind (events.Item (Some one) ∷ connected []) ≡ (Waiting, 0, None)
unfolding within
no_moment_yet = refl

denial : behind (events.ItemStatus denied ∷ connected (events.Item (Some one) ∷ synced))
    ≡ (Withdrawn (denials.PermissionDenied (codes "no")), 1, Some (pos 999))
unfolding within same_material
denial = refl

rejected_restores_nothing : behind
    (events.Item None
    ∷ connected (events.ItemStatus denied ∷ connected (events.Item (Some one) ∷ synced)))
    ≡ (Withdrawn (denials.PermissionDenied (codes "no")), 1, Some (pos 999))
unfolding within same_material
rejected_restores_nothing = refl

recovery : behind
    (events.Item (Some one)
    ∷ connected (events.ItemStatus denied ∷ connected (events.Item (Some one) ∷ synced)))
    ≡ (Permitted (first_of one), 2, Some (pos 999))
unfolding within same_material
recovery = refl

unavailable_keeps : behind
    (events.ItemStatus unavailable ∷ connected (events.Item (Some one) ∷ synced))
    ≡ (Permitted (first_of one), 0, Some (pos 999))
unfolding within same_material
unavailable_keeps = refl

client_failure_keeps : behind
    (events.ClientFailed (fault.Status denied) ∷ events.Item (Some one) ∷ synced)
    ≡ (Permitted (first_of one), 0, Some (pos 999))
unfolding within same_material
client_failure_keeps = refl

reshuffled_material : behind (events.Item (Some reshuffled) ∷ events.Item (Some shuffled) ∷ synced)
    ≡ (Permitted (first_of reshuffled), 0, Some (pos 999))
unfolding within same_material id_text
reshuffled_material = refl

other_material : behind (events.Item (Some shuffled) ∷ events.Item (Some one) ∷ synced)
    ≡ (Permitted (first_of shuffled), 1, Some (pos 999))
unfolding within same_material id_text
other_material = refl

-- ---- lines

authorities_in_order : in_order (slice_cmp nat_cmp) ((4 ∷ []) ∷ (2 ∷ 9 ∷ []) ∷ (2 ∷ []) ∷ [])
    ≡ (2 ∷ []) ∷ (2 ∷ 9 ∷ []) ∷ (4 ∷ []) ∷ []
authorities_in_order = refl

expires_at_its_moment : usable (chosen_of (first_of one)) (Some (pos 1000)) ≡ None
expires_at_its_moment = refl

usable_before_it : usable (chosen_of (first_of one)) (Some (pos 999))
    ≡ Some (svid_of (codes "/w") 1)
usable_before_it = refl

waiting_line : shown_text Waiting 7 None ≡ codes " waiting\n"
unfolding shown_text view_line
waiting_line = refl

-- ---- what comes next

asks_client : asked_after [] ≡ phases.Client
asks_client = refl

asks_connect : asked_after (events.ClientMade ∷ []) ≡ phases.Connect
asks_connect = refl

asks_next : asked_after synced ≡ phases.Next
asks_next = refl

moment_keeps_the_ask : asked_after (events.Moment (pos 0) ∷ synced) ≡ phases.Next
moment_keeps_the_ask = refl

first_item_asks_client : asked_after (events.Item (Some one) ∷ synced) ≡ phases.Client
unfolding within
first_item_asks_client = refl

later_item_asks_next : asked_after
    (events.Item (Some one) ∷ connected (events.Item (Some one) ∷ synced)) ≡ phases.Next
unfolding within
later_item_asks_next = refl

item_needs_a_connection : allows phases.Client 5 ≡ false
item_needs_a_connection = refl

-- ---- ends

short_frame : end_of (stream_by (λ (o : Option Context). o) (λ b. None) rules) 1000000
    (events.Moment (pos 999) ∷ events.ClientMade ∷ events.Connected ∷ []) (5 ∷ 0 ∷ 0 ∷ [])
    ≡ BadFrame 4
unfolding refusal_of closed_of onto
short_frame = refl

frame_bound : end_of (stream_by (λ (o : Option Context). o) (λ b. None) rules) 3
    (events.Moment (pos 0) ∷ events.ClientMade ∷ events.Connected ∷ []) (5 ∷ []) ≡ TooLong
unfolding refusal_of closed_of onto
frame_bound = refl

closed_at_the_bound : end_of (stream_by (λ (o : Option Context). o) (λ b. None) rules) 3
    (events.ClientMade ∷ events.Connected ∷ events.Close ∷ []) [] ≡ SessionRefused terminal.Closed
unfolding refusal_of closed_of onto
closed_at_the_bound = refl

never_synced : end_of (stream_by (λ (o : Option Context). o) (λ b. None) rules) 9
    (events.ClientMade ∷ []) [] ≡ NeverSynced
unfolding refusal_of closed_of onto
never_synced = refl

abbrev five : Received
five = events.Moment (pos 5)

abbrev four : Received
four = events.Moment (pos 4)

at_the_deadline : terminal_of (Some (pos 5)) five ≡ Some terminal.InitialSyncTimeout
at_the_deadline = refl

before_the_deadline : terminal_of (Some (pos 5)) four ≡ None
before_the_deadline = refl

-- ---- payloads, limits, records

moment_payload : event_at (λ b. Some b) 8 (0 ∷ 0 ∷ 0 ∷ 0 ∷ 0 ∷ 0 ∷ 3 ∷ 231 ∷ [])
    ≡ Some (events.Moment (pos 999))
unfolding event_at moment_at
moment_payload = refl

moment_too_great : event_at (λ b. Some b) 8 (128 ∷ 0 ∷ 0 ∷ 0 ∷ 0 ∷ 0 ∷ 0 ∷ 0 ∷ []) ≡ None
unfolding event_at moment_at
moment_too_great = refl

code_too_great : event_at (λ b. Some b) 6 (17 ∷ 0 ∷ 0 ∷ 0 ∷ 0 ∷ []) ≡ None
unfolding event_at status_at
code_too_great = refl

close_holds_nothing : event_at (λ b. Some b) 9 (0 ∷ []) ≡ None
unfolding event_at
close_holds_nothing = refl

limit_itself : within
    (record {
      max_svids = Some 1;
      max_bundles = None;
      max_bundle_der_bytes = None;
      max_crl_bytes = None;
    }) one ≡ Ok tt
unfolding within
limit_itself = refl

above_the_limit : within
    (record {
      max_svids = Some 0;
      max_bundles = None;
      max_bundle_der_bytes = None;
      max_crl_bytes = None;
    }) one ≡ Err (record { kind = MaxSvids; limit = 0; actual = 1 })
unfolding within
above_the_limit = refl

rejected_item_is_recorded : records_by (λ (o : Option Context). o) true unlimited (events.Item None)
    ≡ records.Error kinds.StreamError ∷ records.Reconnect ∷ []
rejected_item_is_recorded = refl
