-- What the loop of `follow_jwt` keeps, and what each of its exits gives.
use Rattle.std.proofs.Common.{◌≡◌, ℕ, ◌+◌, Bool, true, false, cond, ltb, List, [], ◌∷◌, ◌++◌, take}
use Rattle.std.proofs.Common.{length, Option, None, Some, Result, Ok, Err, inl, inr, refl, sym, ap}
use Rattle.std.proofs.Common.{◌∙◌, subst, arith}
use Rattle.std.specs.Prelude.{ℤ, is_some, ◌⊎◌, decimal}
use Rattle.std.specs.Option.{option_or}
use Rattle.std.specs.Io.KnownBytes.{Consumes, IsAtEnd, Appends}
use Rattle.std.proofs.lemmas.Bool.{ltb-true, ltb-false}
use Rattle.spf_view.specs.Views.{Waiting, outcome_with, outcome, outcomes, view_of, revision_of}
use Rattle.spf_view.specs.Views.{has_synced}
use Rattle.spf_view.specs.Steps.{step_in, step_with}
use Rattle.spf_view.specs.Standing.{Kept, is_change, shown_by, raised}
use Rattle.spf_view.specs.Sessions.{Ports, Grows, Followed, Whole, OutOfMemory, WriteFault, Refused}
use Rattle.spf_view.specs.Sessions.{NeverSynced}
use Rattle.spf_view.specs.Keeping.{kept_with_any, IsAt}
use Rattle.spf_view.proofs.FollowLemmas.{SoFar, OnlyRead, begins, IsNext, followed_end}
use Rattle.spf_view.proofs.FollowLemmas.{followed_long, followed_bad, followed_failure}
use Rattle.spf_view.proofs.FollowLemmas.{followed_no_frame, followed_refused, followed_stopped}
use Rattle.spf_view.proofs.FollowLemmas.{followed_unput, followed_closed, goes_on, AddsAll}
use Rattle.spf_view.proofs.SessionLemmas.{length-onto}
use Rattle.spf_view.proofs.KeepingLemmas.{at_start, synced_at, outcome_at, revision_at, view_at}
use Rattle.spf_view.proofs.KeepingLemmas.{waiting_at, at_more}
use Rattle.spf_frame.specs.declared.error.FrameError.{FrameError}
use Rattle.spf_frame.specs.declared.error.FrameError.TheVariants as errors
use Rattle.spf_jwt.specs.Bundle.{set_eq}
use Rattle.spf_jwt.specs.Laws.{set_equiv}
use Rattle.spf_feed.specs.declared.event.SessionEvent.TheVariants as events
use Rattle.spf_feed.specs.declared.follow_error.FollowError.{FollowError}
use Rattle.spf_feed.specs.declared.follow_error.FollowError.TheVariants as follow_errors
use Rattle.spf_feed.specs.declared.following.Change.TheVariants as change
use Rattle.spf_feed.specs.declared.phase.Phase.{Phase}
use Rattle.spf_feed.specs.declared.phase.Phase.TheVariants as phases
use Rattle.spf_feed.specs.declared.step.Denial.{Denial}
use Rattle.spf_feed.specs.declared.turn.Terminal.{Terminal}
use Rattle.spf_feed.specs.declared.turn.Terminal.TheVariants as terminal
use Rattle.spf_feed.specs.Events.{closes, map_item}
use Rattle.spf_feed.specs.Following.{answer_to, is_changed, error_at}
use Rattle.spf_feed.specs.Items.{moment_of}
use Rattle.spf_feed.specs.Run.{refusal_by, end_for}
use Rattle.spf_feed.proofs.HandLemmas.{none_since, all_grown}
use Rattle.spf_feed.proofs.TurnLemmas.{closes-map_item}
use Rattle.spf_jwt_feed.specs.declared.record.JwtMetricsRecord.{JwtMetricsRecord}
use Rattle.spf_jwt_feed.specs.declared.turn.Turn.{Turn}
use Rattle.spf_feed.specs.Following.{IsEventRead, IsEventUnread}
use Rattle.spf_jwt_feed.specs.Following.{changes_any, TurnState}
use Rattle.spf_jwt_feed.specs.Following.{TurnTaken, IsLineOf, IsShownAfter}
use Rattle.spf_jwt_feed.specs.Items.{Event, Received, Rules, subject, subject_by, item_in}
use Rattle.spf_jwt_feed.specs.Received.{received_ask, received_refusal, received_outcome}
use Rattle.spf_jwt_feed.specs.Received.{received_records, received_close}
use Rattle.spf_jwt_feed.specs.Run.{asked_by, ask_of, records_by, stream, outputs}
use Rattle.spf_jwt_feed.specs.Shown.{shown_text}
use Rattle.spf_jwt_feed.specs.Steps.{BundleSet, PlainStep}
use Rattle.spf_jwt_feed.specs.Turns.{IsTurn}
use Rattle.spf_jwt_feed.proofs.ShownLemmas.{waiting_text, shown_seen}
use Rattle.spf_jwt_feed.proofs.TurnLemmas.{asked-map_item}
use Rattle.spf_jwt_feed.proofs.Turned.{turn_at, step_after, IsThrough, went, IsRefused, IsStopped}
use Rattle.spf_jwt_feed.proofs.Turned.{ended_by}

-- what surrounds a run
abbrev pub Sides : Type 0
Sides = Ports PlainStep JwtMetricsRecord

abbrev pub Held : Type 0
Held = Option (Kept BundleSet Denial)

-- what a turn may change, of these surroundings
abbrev pub state_of : Held → Sides → TurnState
state_of kept ports = record { kept = kept; steps = ports.steps; records = ports.records }

pub record LoopAt (rules : Rules) (max_frames : ℕ) (old cur : Sides) (count : ℕ) (kept : Held)
    (phase : Phase) (line : List ℕ) : Type 0 where
  pub past : List Event
  pub moment : Option ℤ
  pub so_far : SoFar (stream rules) (outputs rules) max_frames old cur past count
  pub at : IsAt (subject rules) past moment kept
  pub asks : ask_of item_in rules past ≡ phase
  pub line_is : IsLineOf line kept

pub loop_begins : (rules : Rules) (max_frames : ℕ) (old : Sides) (line : List ℕ)
    → line ≡ shown_text Waiting 0 → LoopAt rules max_frames old old 0 None phases.Client line
loop_begins rules max_frames old line is = record {
  past = [];
  moment = None;
  so_far = begins (stream rules) (outputs rules) max_frames old;
  at = at_start (subject rules);
  asks = refl;
  line_is = is;
}

-- ---- the exits before an event

whole_end : (b : Bool) (n : ℕ)
    → end_for (cond b (Ok n) (Err follow_errors.NeverSynced)) ≡ cond b (Whole n) NeverSynced
whole_end true n = refl
whole_end false n = refl

pub exit_end : (rules : Rules) (max_frames : ℕ) (old cur new : Sides) (count : ℕ) (kept : Held)
    (phase : Phase) (line : List ℕ) (r : Result ℕ FollowError)
    → LoopAt rules max_frames old cur count kept phase line → OnlyRead cur new
    → Consumes cur.left new.left [] → IsAtEnd cur.left
    → r ≡ cond (is_some kept) (Ok count) (Err follow_errors.NeverSynced)
    → Followed (stream rules) (outputs rules) max_frames old new (end_for r)
exit_end rules max_frames old cur new count kept phase line r at same took end is =
    followed_end (stream rules) (outputs rules) max_frames old cur new at.past count (end_for r)
    at.so_far same took end
    (ap end_for is ∙ whole_end (is_some kept) count
    ∙ ap (λ b. cond b (Whole count) NeverSynced)
    (sym (synced_at (subject rules) at.past at.moment kept at.at)))

-- why no event was read, and what was taken
pub exit_unread : (rules : Rules) (max_frames : ℕ) (old cur new : Sides) (count : ℕ) (kept : Held)
    (phase : Phase) (line : List ℕ) (e : FrameError)
    (at : LoopAt rules max_frames old cur count kept phase line) → OnlyRead cur new
    → IsEventUnread (stream rules) at.past (ltb count max_frames) cur.left new.left e
    → Followed (stream rules) (outputs rules) max_frames old new (end_for (Err (error_at count e)))
exit_unread rules max_frames old cur new count kept phase line errors.TooLong at same h =
    followed_long (stream rules) (outputs rules) max_frames old cur new at.past count h.1.0
    at.so_far same (ltb-false count max_frames h.0) h.1.1
exit_unread rules max_frames old cur new count kept phase line errors.BadFrame at same h =
    followed_bad (stream rules) (outputs rules) max_frames old cur new at.past count h.1.0 at.so_far
    same (ltb-true count max_frames h.0) h.1.1 h.1.2.0 h.1.2.1 h.1.2.2
exit_unread rules max_frames old cur new count kept phase line errors.ReadFault at same h =
    followed_failure (stream rules) (outputs rules) max_frames old cur new at.past count h.0
    at.so_far same h.1 h.2.0 h.2.1 h.2.2
exit_unread rules max_frames old cur new count kept phase line errors.OutOfMemory at same h =
    followed_no_frame (stream rules) (outputs rules) max_frames old cur new at.past count h.1.0
    at.so_far same (ltb-true count max_frames h.0) h.1.1 h.1.2

-- ---- one more event

pub next_of : (rules : Rules) (max_frames : ℕ) (old cur : Sides) (count : ℕ) (kept : Held)
    (phase : Phase) (line : List ℕ) (after : Option (List ℕ)) (received : Received)
    (at : LoopAt rules max_frames old cur count kept phase line)
    (read : IsEventRead item_in (stream rules) at.past (ltb count max_frames) cur.left after
    received)
    → IsNext (stream rules) max_frames cur.left after at.past count read.event
next_of rules max_frames old cur count kept phase line after received at read =
    record {
      room = ltb-true count max_frames read.leave;
      front = read.front;
      frame = read.frame;
      took = read.taken;
    }

-- a refusal
exit_refused : (rules : Rules) (max_frames : ℕ) (old cur new : Sides) (count : ℕ)
    (kept kept' : Held) (phase : Phase) (line : List ℕ) (e : Event) (x : FollowError)
    (at : LoopAt rules max_frames old cur count kept phase line)
    → IsNext (stream rules) max_frames cur.left new.left at.past count e → new.held ≡ cur.held
    → IsRefused rules at.past e (state_of kept cur) (state_of kept' new) x
    → Followed (stream rules) (outputs rules) max_frames old new (end_for (Err x))
exit_refused rules max_frames old cur new count kept kept' phase line e x at next held refused =
    let ends : end_for (Err x) ≡ Refused refused.end =
    ap (λ a. end_for (Err a)) refused.answer ∙ refused_end refused.end in
    subst (λ r. Followed (stream rules) (outputs rules) max_frames old new r) (sym ends)
    (followed_refused (stream rules) (outputs rules) max_frames old cur new at.past count e
    refused.end at.so_far next
    (record { held = held; steps = refused.steps_same; records = refused.records_same })
    refused.refused)
  where
    refused_end : (t : Terminal) → end_for (Err (answer_to t)) ≡ Refused t
    refused_end (terminal.Source a) = refl
    refused_end (terminal.UnsupportedRpc a) = refl
    refused_end terminal.InitialSyncTimeout = refl
    refused_end terminal.Closed = refl

-- memory ran out over a turn
exit_stopped : (rules : Rules) (max_frames : ℕ) (old cur new : Sides) (count : ℕ)
    (kept kept' : Held) (phase : Phase) (line : List ℕ) (e : Event) (x : FollowError)
    (at : LoopAt rules max_frames old cur count kept phase line)
    → IsNext (stream rules) max_frames cur.left new.left at.past count e → new.held ≡ cur.held
    → IsStopped rules at.past e (state_of kept cur) (state_of kept' new) x
    → Followed (stream rules) (outputs rules) max_frames old new (end_for (Err x))
unfolding none_since
exit_stopped rules max_frames old cur new count kept kept' phase line e x at next held stopped =
    subst (λ r. Followed (stream rules) (outputs rules) max_frames old new r)
    (sym (ap (λ a. end_for (Err a)) stopped.answer))
    (followed_stopped (stream rules) (outputs rules) max_frames old cur new at.past count e
    at.so_far next stopped.none (record {
      line = none_since cur.held new.held ((outputs rules).line at.past e) held;
      steps = stopped.short.steps_are;
      records = stopped.short.records_are;
      steps_first = stopped.short.steps_first;
      line_last = λ lt. absurd (omega arith);
    }))

-- what is kept after the event
kept_after : (rules : Rules) (past : List Event) (moment : Option ℤ) (kept kept' : Held) (e : Event)
    → IsAt (subject rules) past moment kept
    → kept' ≡ kept_with_any set_eq kept (step_in rules.limits (outcome (subject rules) e past))
    → IsAt (subject rules) (e ∷ past) (option_or (moment_of e) moment) kept'
kept_after rules past moment kept kept' e at is =
    let step : step_in rules.limits (outcome (subject rules) e past)
    ≡ step_with (subject rules) (is_some kept) moment e =
    ap (step_in rules.limits) (outcome_at (subject rules) past moment kept e at) in
    let same : kept_with_any set_eq kept (step_with (subject rules) (is_some kept) moment e)
    ≡ kept' = sym (is ∙ ap (kept_with_any set_eq kept) step) in
    subst (λ k. IsAt (subject rules) (e ∷ past) (option_or (moment_of e) moment) k) same
    (at_more (subject rules) set_equiv past e moment kept at)

-- ---- the line after the event

unchanged : (k0 k : Kept BundleSet Denial) (step : PlainStep) (b : Bool) → b ≡ false
    → Some k ≡ Some (cond b (record { revision = raised k0.revision; view = shown_by step }) k0)
    → k0 ≡ k
unchanged k0 k step true e h = absurd cc
unchanged k0 k step false e h = cc

stays : (b : Bool) → is_changed (cond b change.Changed change.Unchanged) ≡ false → b ≡ false
stays true e = cc
stays false e = refl

-- a line that was written anew or stayed, with what is kept
line_stays : (k0 k : Kept BundleSet Denial) (line line' : List ℕ) (changed : Bool)
    → line ≡ shown_text k0.view k0.revision → (changed ≡ false → k0 ≡ k)
    → line' ≡ cond changed (shown_text k.view k.revision) line
    → line' ≡ shown_text k.view k.revision
line_stays k0 k line line' true is same shown = shown
line_stays k0 k line line' false is same shown =
    shown ∙ is ∙ ap (λ (x : Kept BundleSet Denial). shown_text x.view x.revision) (same refl)

line_after : (kept kept' : Held) (step : Option PlainStep) (line line' : List ℕ) (changed : Bool)
    → IsLineOf line kept → kept' ≡ kept_with_any set_eq kept step
    → changed ≡ changes_any kept step → IsShownAfter line line' kept' changed
    → IsLineOf line' kept'
line_after None None None line line' changed is k c shown = shown ∙ is
line_after None None (Some step) line line' changed is k c shown = absurd cc
line_after (Some k0) None None line line' changed is k c shown = absurd cc
line_after (Some k0) None (Some step) line line' changed is k c shown = absurd cc
line_after None (Some x) None line line' changed is k c shown = absurd cc
line_after None (Some x) (Some step) line line' changed is k c shown =
    shown ∙ ap (λ b. cond b (shown_text x.view x.revision) line) c
line_after (Some k0) (Some x) None line line' changed is k c shown =
    line_stays k0 x line line' changed is (λ e. cc) shown
line_after (Some k0) (Some x) (Some step) line line' changed is k c shown =
    line_stays k0 x line line' changed is
    (λ e. unchanged k0 x step (is_change set_eq k0.view step)
    (stays (is_change set_eq k0.view step) (sym c ∙ e)) k) shown

-- the line is that of the view that the events make visible
line_seen : (rules : Rules) (past : List Event) (now : Option ℤ) (kept : Held) (line : List ℕ)
    → IsAt (subject rules) past now kept → IsLineOf line kept
    → line
    ≡ shown_text (view_of (outcomes (subject rules) past))
    (revision_of set_eq (outcomes (subject rules) past))
line_seen rules past now None line at is =
    is ∙ sym (waiting_text (revision_of set_eq (outcomes (subject rules) past)))
    ∙ ap (λ v. shown_text v (revision_of set_eq (outcomes (subject rules) past)))
    (sym (waiting_at (subject rules) past now at))
line_seen rules past now (Some k) line at is =
    is
    ∙ shown_seen k.view (view_of (outcomes (subject rules) past)) k.revision
    (view_at (subject rules) set_equiv past now k at)
    ∙ ap (shown_text (view_of (outcomes (subject rules) past)))
    (revision_at (subject rules) past now k at)

-- A turn that went through, and the line after it.
pub record IsLined (rules : Rules) (past : List Event) (e : Event) (count : ℕ) (kept : Held)
    (line : List ℕ) : Type 0 where
  pub moment : Option ℤ
  pub at : IsAt (subject rules) (e ∷ past) moment kept
  pub line_is : IsLineOf line kept
  pub text : decimal (count + 1) ++ line ≡ (outputs rules).line past e

pub lined : (rules : Rules) (max_frames : ℕ) (old cur : Sides) (count : ℕ) (kept : Held)
    (phase : Phase) (line line' : List ℕ) (e : Event) (new : TurnState) (changed : Bool)
    (at : LoopAt rules max_frames old cur count kept phase line)
    → IsThrough rules at.past e (state_of kept cur) new changed
    → IsShownAfter line line' new.kept changed → IsLined rules at.past e count new.kept line'
lined rules max_frames old cur count kept phase line line' e new changed at through shown =
    let now = option_or (moment_of e) at.moment in
    let after = kept_after rules at.past at.moment kept new.kept e at.at through.went.kept_is in
    let is = line_after kept new.kept (step_after rules at.past e) line line' changed
    at.line_is through.went.kept_is through.went.changed_is shown in
    let number : count + 1 ≡ length at.past + 1 =
    omega (arith, length-onto [] at.so_far.es, ap length at.so_far.history, at.so_far.count_is) in
    record {
      moment = now;
      at = after;
      line_is = is;
      text = ap (λ n. decimal n ++ line') number
          ∙ ap (λ t. decimal (length at.past + 1) ++ t)
          (line_seen rules (e ∷ at.past) now new.kept line' after is);
    }

-- ---- the exits after a turn

-- memory ran out over the line
pub exit_no_line : (rules : Rules) (max_frames : ℕ) (old cur new : Sides) (count : ℕ)
    (kept kept' : Held) (phase : Phase) (line : List ℕ) (e : Event) (b : Bool)
    (at : LoopAt rules max_frames old cur count kept phase line)
    → IsNext (stream rules) max_frames cur.left new.left at.past count e → new.held ≡ cur.held
    → IsThrough rules at.past e (state_of kept cur) (state_of kept' new) b
    → Followed (stream rules) (outputs rules) max_frames old new OutOfMemory
unfolding none_since all_grown
exit_no_line rules max_frames old cur new count kept kept' phase line e b at next held through =
    followed_stopped (stream rules) (outputs rules) max_frames old cur new at.past count e at.so_far
    next through.none (record {
      line = none_since cur.held new.held ((outputs rules).line at.past e) held;
      steps = all_grown cur.steps new.steps ((outputs rules).steps at.past e) true
          through.went.steps_are;
      records = all_grown cur.records new.records ((outputs rules).records at.past e) true
          through.went.records_are;
      steps_first = λ lt. refl;
      line_last = λ lt. (refl, refl);
    })

grows_of : (old new : Option (List ℕ)) (more : List ℕ) → Appends old new more → Grows old new more
grows_of None new more h = tt
grows_of (Some old) None more h = absurd h
grows_of (Some old) (Some new) more h = h

-- a fault of the sink
pub exit_unput : (rules : Rules) (max_frames : ℕ) (old cur new : Sides) (count : ℕ)
    (kept kept' : Held) (phase : Phase) (line line' : List ℕ) (e : Event) (b : Bool) (n : ℕ)
    (at : LoopAt rules max_frames old cur count kept phase line)
    → IsNext (stream rules) max_frames cur.left new.left at.past count e
    → IsThrough rules at.past e (state_of kept cur) (state_of kept' new) b
    → IsLined rules at.past e count kept' line'
    → Appends cur.held new.held (take n (decimal (count + 1) ++ line'))
    → Followed (stream rules) (outputs rules) max_frames old new WriteFault
unfolding all_grown
exit_unput rules max_frames old cur new count kept kept' phase line line' e b n at next through
    lined put =
    followed_unput (stream rules) (outputs rules) max_frames old cur new at.past count e at.so_far
    next through.none (record {
      line = record {
        count = n;
        grows = grows_of cur.held new.held (take n ((outputs rules).line at.past e))
            (subst (λ t. Appends cur.held new.held (take n t)) lined.text put);
        all = λ is. absurd cc;
      };
      steps = all_grown cur.steps new.steps ((outputs rules).steps at.past e) false
          through.went.steps_are;
      records = all_grown cur.records new.records ((outputs rules).records at.past e) false
          through.went.records_are;
      steps_first = λ lt. refl;
      line_last = λ lt. (refl, refl);
    })

added : (rules : Rules) (past : List Event) (e : Event) (cur new : Sides) (count : ℕ)
    (kept kept' : Held) (line : List ℕ) (b : Bool)
    → IsThrough rules past e (state_of kept cur) (state_of kept' new) b
    → IsLined rules past e count kept' line
    → Appends cur.held new.held (decimal (count + 1) ++ line)
    → AddsAll (outputs rules) past e cur new
added rules past e cur new count kept kept' line b through lined put = record {
  line = grows_of cur.held new.held ((outputs rules).line past e)
      (subst (Appends cur.held new.held) lined.text put);
  steps = through.went.steps_are;
  records = through.went.records_are;
}

-- a close that is not refused comes after an accepted item
synced_past : (rules : Rules) (past : List Event) (b : Bool) → has_synced (subject rules) past ≡ b
    → cond b None (Some terminal.Closed) ≡ None → b ≡ true
synced_past rules past true is none = refl
synced_past rules past false is none = absurd cc

synced_close : (rules : Rules) (past : List Event) (e : Event) → closes e ≡ true
    → (stream rules).refusal past e ≡ None → has_synced (subject rules) (e ∷ past) ≡ true
synced_close rules past events.Close is none =
    synced_past rules past (has_synced (subject rules) past) refl none
synced_close rules past events.ClientMade is none = absurd cc
synced_close rules past (events.ClientFailed x) is none = absurd cc
synced_close rules past events.Connected is none = absurd cc
synced_close rules past (events.ConnectStatus x) is none = absurd cc
synced_close rules past (events.Item x) is none = absurd cc
synced_close rules past (events.ItemStatus x) is none = absurd cc
synced_close rules past events.StreamEnd is none = absurd cc
synced_close rules past (events.Moment x) is none = absurd cc

pub exit_close : (rules : Rules) (max_frames : ℕ) (old cur new : Sides) (count : ℕ)
    (kept kept' : Held) (phase : Phase) (line line' : List ℕ) (b : Bool) (received : Received)
    (at : LoopAt rules max_frames old cur count kept phase line)
    (read : IsEventRead item_in (stream rules) at.past (ltb count max_frames) cur.left new.left
    received)
    → IsThrough rules at.past read.event (state_of kept cur) (state_of kept' new) b
    → IsLined rules at.past read.event count kept' line'
    → Appends cur.held new.held (decimal (count + 1) ++ line') → received_close received ≡ true
    → Followed (stream rules) (outputs rules) max_frames old new (Whole (count + 1))
exit_close rules max_frames old cur new count kept kept' phase line line' b received at read through
    lined put closed =
    let e = read.event in
    let closing : closes e ≡ true =
    closes-map_item item_in e ∙ ap closes (sym read.is) ∙ closed in
    followed_closed (stream rules) (outputs rules) max_frames old cur new at.past count e
    (Whole (count + 1)) at.so_far
    (next_of rules max_frames old cur count kept phase line new.left received at read) through.none
    closing (added rules at.past e cur new count kept kept' line' b through lined put)
    (sym (ap (λ x. cond x (Whole (count + 1)) NeverSynced)
    (synced_close rules at.past e closing through.none)))

-- ---- a turn, as the loop has it

received_turn : (rules : Rules) (kept : Held) (synced : Bool) (received b : Received) (turn : Turn)
    → synced ≡ is_some kept → received ≡ b
    → IsTurn (received_refusal rules.deadline synced received)
    (received_outcome rules.limits synced received) (received_records synced rules.limits received)
    turn
    → IsTurn (refusal_by rules.deadline (is_some kept) b)
    (outcome_with (subject_by (λ i. i) rules.limits) (is_some kept) None b)
    (records_by (λ i. i) (is_some kept) rules.limits b) turn
received_turn rules kept synced received b turn began same h =
    subst (λ r.
    IsTurn (refusal_by rules.deadline (is_some kept) r)
    (outcome_with (subject_by (λ i. i) rules.limits) (is_some kept) None r)
    (records_by (λ i. i) (is_some kept) rules.limits r) turn) same
    (subst (λ x.
    IsTurn (received_refusal rules.deadline x received) (received_outcome rules.limits x received)
    (received_records x rules.limits received) turn) began h)

-- the turn that was taken went through
pub went_through : (rules : Rules) (max_frames : ℕ) (old cur : Sides) (count : ℕ) (kept : Held)
    (phase : Phase) (line : List ℕ) (after : Option (List ℕ)) (allowed : Bool) (received : Received)
    (new : TurnState) (b synced : Bool) (turn : Turn)
    (at : LoopAt rules max_frames old cur count kept phase line)
    (read : IsEventRead item_in (stream rules) at.past allowed cur.left after received)
    → synced ≡ is_some kept
    → IsTurn (received_refusal rules.deadline synced received)
    (received_outcome rules.limits synced received) (received_records synced rules.limits received)
    turn
    → TurnTaken rules.limits turn (state_of kept cur) new (Ok b)
    → IsThrough rules at.past read.event (state_of kept cur) new b
went_through rules max_frames old cur count kept phase line after allowed received new b synced turn
    at read began is taken =
    went set_equiv rules at.past at.moment read.event (state_of kept cur) new b turn at.at
    (turn_at rules at.past at.moment kept read.event turn at.at
    (received_turn rules kept synced received (map_item item_in read.event) turn began read.is is))
    taken

-- the turn that was taken ends the session
pub exit_turn : (rules : Rules) (max_frames : ℕ) (old cur new : Sides) (count : ℕ)
    (kept kept' : Held) (phase : Phase) (line : List ℕ) (allowed : Bool) (received : Received)
    (x : FollowError) (synced : Bool) (turn : Turn)
    (at : LoopAt rules max_frames old cur count kept phase line)
    (read : IsEventRead item_in (stream rules) at.past allowed cur.left new.left received)
    → IsNext (stream rules) max_frames cur.left new.left at.past count read.event
    → synced ≡ is_some kept
    → IsTurn (received_refusal rules.deadline synced received)
    (received_outcome rules.limits synced received) (received_records synced rules.limits received)
    turn
    → new.held ≡ cur.held
    → TurnTaken rules.limits turn (state_of kept cur) (state_of kept' new) (Err x)
    → Followed (stream rules) (outputs rules) max_frames old new (end_for (Err x))
exit_turn rules max_frames old cur new count kept kept' phase line allowed received x synced turn at
    read next began is held taken =
    by_cases (ended_by set_equiv rules at.past at.moment read.event (state_of kept cur)
    (state_of kept' new) x turn at.at
    (turn_at rules at.past at.moment kept read.event turn at.at
    (received_turn rules kept synced received (map_item item_in read.event) turn began read.is is))
    taken)
  where
    by_cases : IsRefused rules at.past read.event (state_of kept cur) (state_of kept' new) x
        ⊎ IsStopped rules at.past read.event (state_of kept cur) (state_of kept' new) x
        → Followed (stream rules) (outputs rules) max_frames old new (end_for (Err x))
    by_cases (inl refused) =
        exit_refused rules max_frames old cur new count kept kept' phase line read.event x at next
        held refused
    by_cases (inr stopped) =
        exit_stopped rules max_frames old cur new count kept kept' phase line read.event x at next
        held stopped

-- on to the next event, with the line that was put
pub loop_on : (rules : Rules) (max_frames : ℕ) (old cur new : Sides) (count : ℕ)
    (kept kept' : Held) (phase phase' : Phase) (line line' put_line : List ℕ) (b synced : Bool)
    (received : Received) (at : LoopAt rules max_frames old cur count kept phase line)
    (read : IsEventRead item_in (stream rules) at.past (ltb count max_frames) cur.left new.left
    received)
    → IsThrough rules at.past read.event (state_of kept cur) (state_of kept' new) b
    → IsLined rules at.past read.event count kept' line'
    → Appends cur.held new.held (decimal (count + 1) ++ line')
    → received_close received ≡ false → synced ≡ is_some kept
    → phase' ≡ received_ask phase synced received → put_line ≡ line'
    → LoopAt rules max_frames old new (count + 1) kept' phase' put_line
loop_on rules max_frames old cur new count kept kept' phase phase' line line' put_line b synced
    received at read through lined put going began asks text =
    let e = read.event in
    let going_on : closes e ≡ false =
    closes-map_item item_in e ∙ ap closes (sym read.is) ∙ going in
    let asked : phase' ≡ asked_by (λ i. i) phase (is_some kept) (map_item item_in e) =
    asks ∙ ap (λ x. received_ask phase x received) began
    ∙ ap (received_ask phase (is_some kept)) read.is in
    record {
      past = e ∷ at.past;
      moment = lined.moment;
      so_far = goes_on (stream rules) (outputs rules) max_frames old cur new at.past count e
          at.so_far
          (next_of rules max_frames old cur count kept phase line new.left received at read)
          through.none going_on
          (added rules at.past e cur new count kept kept' line' b through lined put);
      at = lined.at;
      asks = (λ i.
          asked_by item_in (at.asks i)
          (synced_at (subject rules) at.past at.moment kept at.at i) e)
          ∙ asked-map_item item_in phase (is_some kept) e ∙ sym asked;
      line_is = subst (λ l. IsLineOf l kept') (sym text) lined.line_is;
    }
