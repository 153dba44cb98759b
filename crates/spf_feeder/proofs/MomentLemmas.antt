-- A moment of the clock accepts nothing and ends no attempt.
use Rattle.std.proofs.Common.{◌≡◌, true, false, not, ◌||◌, ◌&&◌, List, [], ◌∷◌, ◌++◌, reverse}
use Rattle.std.proofs.Common.{None, refl, sym, ap, ◌∙◌, subst}
use Rattle.std.specs.Prelude.{ℤ, if◌then◌else◌, is_some}
use Rattle.spf_system.specs.declared.pace.Pace.{Pace}
use Rattle.spf_view.specs.Views.{Subject, brings, has_synced, keep_if, last_moment, outcome}
use Rattle.spf_view.proofs.ViewLemmas.{last_first}
use Rattle.spf_feed.specs.declared.event.SessionEvent.{SessionEvent}
use Rattle.spf_feed.specs.declared.event.SessionEvent.TheVariants as events
use Rattle.spf_feed.specs.declared.phase.Phase.TheVariants as phases
use Rattle.spf_feeder.specs.Asking.{is_client}
use Rattle.spf_feeder.specs.Attempts.{attempt_end_by, is_accepted}
use Rattle.spf_feeder.specs.Kinds.{IsLawful, Kind}
use Rattle.spf_feeder.specs.Orderly.{IsAboutToAsk, IsOpening, IsTimedOf, ends_with_moment}
use Rattle.spf_feeder.specs.Pacing.{KeepsPaceOf, opens_by}
use Rattle.spf_feeder.proofs.OrderLemmas.{NoMomentIsRead, unread_moment}
use Rattle.spf_feeder.proofs.PaceLemmas.{accepted_brings, passes_on}

moment_passes : {I M L D : Type 0} (s : Subject (SessionEvent I) M L D)
    (past : List (SessionEvent I)) (m : ℤ) → NoMomentIsRead s
    → is_accepted (outcome s (events.Moment m) past) ≡ false
moment_passes s past m unread =
    accepted_brings (has_synced s past)
    (brings s (has_synced s past) (last_moment s past) (events.Moment m))
    (s.denial (events.Moment m))
    ∙ ap (λ o. is_some (keep_if (λ x. has_synced s past || s.may_sync x (last_moment s past))
    (keep_if (s.is_within s.limits) o))) (unread m)

-- one more moment, where a client is asked for next
pub about_moment : {I M B R : Type 0} (k : Kind I M B R) → IsLawful k
    → (run run' : List (SessionEvent I)) (m : ℤ) → run' ≡ run ++ events.Moment m ∷ []
    → IsTimedOf k (reverse run) → has_synced k.subject (reverse run) ≡ false
    → ends_with_moment (reverse run) ≡ false → is_client (k.ask (reverse run)) ≡ true
    → IsAboutToAsk k run'
unfolding IsTimedOf
about_moment k law run run' m longer timed unsynced ends client =
    let past = reverse run in
    let more = sym (last_first run (events.Moment m)) in
    subst (IsAboutToAsk k) (sym longer) (record {
      timed = subst (IsTimedOf k) more
          ((λ i. not (ends i || unsynced i)), timed);
      unsynced = subst (λ l. has_synced k.subject l ≡ false) more
          (unread_moment k.subject past m law.unread ∙ unsynced);
      ends = subst (λ l. ends_with_moment l ≡ is_client (k.ask l)) more
          (sym (ap is_client (law.follows.moment past m) ∙ client));
    })

-- the first event of all
pub opening_moment : {I M B R : Type 0} (k : Kind I M B R) → IsLawful k
    → (run : List (SessionEvent I)) (m : ℤ) → run ≡ events.Moment m ∷ []
    → k.ask [] ≡ phases.Client → IsOpening k run
unfolding IsTimedOf
opening_moment k law run m is client =
    let about = about_moment k law [] run m is tt refl refl (ap is_client client) in record {
      timed = about.timed;
      unsynced = about.unsynced;
      ends = λ t. sym about.ends ∙ t;
    }

pub paces_moment : {I M B R : Type 0} (k : Kind I M B R) → IsLawful k
    → (run run' : List (SessionEvent I)) (m : ℤ) (pace : Pace)
    → run' ≡ run ++ events.Moment m ∷ [] → KeepsPaceOf k run pace → KeepsPaceOf k run' pace
unfolding KeepsPaceOf
paces_moment k law run run' m pace longer keeps =
    let passes = moment_passes k.subject (reverse run) m law.unread in
    let ends_none : attempt_end_by k.subject k.ask (reverse run) (events.Moment m) ≡ None =
    λ i. if passes i then None else None in
    let shut : opens_by k.subject (reverse run) (events.Moment m) ≡ false =
    λ i. passes i && not (has_synced k.subject (reverse run)) in
    subst (λ l. KeepsPaceOf k l pace) (sym longer)
    (passes_on k.subject k.ask run (events.Moment m) pace ends_none shut keeps)
