-- How an initial synchronisation stops.
use Rattle.std.proofs.Common.{◌≡◌, List, [], ◌∷◌, ◌++◌, Option, None, Some, refl, sym}
use Rattle.std.proofs.Common.{ap, ◌∙◌, reverse, subst}
use Rattle.std.specs.Prelude.{ℤ, ◌||◌}
use Rattle.std.proofs.lemmas.List.{append-nil}
use Rattle.spf_link.specs.Connecting.{Member}
use Rattle.spf_feed.specs.declared.event.SessionEvent.{SessionEvent}
use Rattle.spf_feed.specs.declared.event.SessionEvent.TheVariants as events
use Rattle.spf_feeder.specs.declared.session.Stop.{Stop}
use Rattle.spf_feeder.specs.declared.session.Stop.TheVariants as stops
use Rattle.spf_feeder.specs.Fed.{EndsFor, StopsFor}
use Rattle.spf_feeder.specs.Kinds.{Kind}
use Rattle.spf_feeder.specs.Opened.{StopsAt}
use Rattle.spf_feeder.specs.Orderly.{IsAboutToAsk, IsOpening, IsTimedOf, does_answer}
use Rattle.spf_feeder.specs.Times.{GivesMoments, moments_in}
use Rattle.spf_feeder.proofs.OrderLemmas.{no_moment}
use Rattle.spf_feeder.proofs.TimeLemmas.{gives_more, gives_still}

-- nothing was given, and no moment was taken
pub gives_none : {I : Type 0} (clock : Option (List (Option ℤ))) (run : List (SessionEvent I))
    → GivesMoments clock clock run run
gives_none None run = tt
gives_none (Some moments) run = ([], refl, sym (append-nil (moments_in run)))

-- by the same rules, over the same connector
pub opens_as : {G S I M B R : Type 0} (kind : G → Kind I M B R) (members : S → Option (List Member))
    (g h : G) (first first' : S) (a b : Option (List (Option ℤ)))
    (before before' : List (SessionEvent I)) (stop : Stop) → h ≡ g → first' ≡ first
    → before' ≡ before → StopsAt (kind h) (members first') a b before' stop
    → StopsAt (kind g) (members first) a b before stop
opens_as {G} {S} {I} kind members g h first first' a b before before' stop same had ran stops =
    subst (λ (x : G × S × List (SessionEvent I)).
    StopsAt (kind x.0) (members x.1) a b x.2 stop) (λ i. (same i, had i, ran i)) stops

pub asks_as : {G S I M B R : Type 0} (kind : G → Kind I M B R) (members : S → Option (List Member))
    (g h : G) (first first' : S) (run : List (SessionEvent I)) (stop : Stop) → h ≡ g
    → first' ≡ first → StopsFor (kind h) (members first') run stop
    → StopsFor (kind g) (members first) run stop
asks_as {G} {S} kind members g h first first' run stop same had stops =
    subst (λ (x : G × S). StopsFor (kind x.0) (members x.1) run stop) (λ i. (same i, had i)) stops

pub ends_as : {G S I M B R : Type 0} (kind : G → Kind I M B R) (members : S → Option (List Member))
    (g h : G) (first first' : S) (run run' : List (SessionEvent I)) (event : SessionEvent I)
    (stop : Stop) → h ≡ g → first' ≡ first → run' ≡ run
    → EndsFor (kind h) (members first') run' event stop
    → EndsFor (kind g) (members first) run event stop
ends_as {G} {S} {I} kind members g h first first' run run' event stop same had ran ends =
    subst (λ (x : G × S × List (SessionEvent I)).
    EndsFor (kind x.0) (members x.1) x.2 event stop) (λ i. (same i, had i, ran i)) ends

module _ {I M B R : Type 0} (k : Kind I M B R) (members : Option (List Member)) where
  -- at a moment of the clock
  pub stops_at_moment : (clock clock' : Option (List (Option ℤ))) (before : List (SessionEvent I))
      (run : List (SessionEvent I)) (m : ℤ) (stop : Stop)
      → EndsFor k members run (events.Moment m) stop → IsOpening k run
      → GivesMoments clock clock' before (run ++ events.Moment m ∷ [])
      → StopsAt k members clock clock' before stop
  stops_at_moment clock clock' before run m (stops.Terminal end) ends opening gives = record {
    run = run;
    event = events.Moment m;
    ends = ends;
    answers = refl;
    timed = opening.timed;
    unsynced = opening.unsynced;
    clock_is = gives;
  }
  stops_at_moment clock clock' before run m stops.OutOfMemory ends opening gives = tt

  -- at the first moment
  pub stops_at_first : (clock : Option (List (Option ℤ))) (m : ℤ) (stop : Stop)
      → EndsFor k members [] (events.Moment m) stop
      → StopsAt k members clock clock (events.Moment m ∷ []) stop
  unfolding IsTimedOf
  stops_at_first clock m (stops.Terminal end) ends = record {
    run = [];
    event = events.Moment m;
    ends = ends;
    answers = refl;
    timed = tt;
    unsynced = refl;
    clock_is = gives_none clock (events.Moment m ∷ []);
  }
  stops_at_first clock m stops.OutOfMemory ends = tt

  -- at what an ask yielded
  pub stops_at_ask : (clock clock' : Option (List (Option ℤ))) (before run : List (SessionEvent I))
      (stop : Stop) → GivesMoments clock clock' before run → IsAboutToAsk k run
      → StopsFor k members run stop → StopsAt k members clock clock' before stop
  stops_at_ask clock clock' before run (stops.Terminal end) gives about (e, answers, ends) =
      let none = no_moment (k.ask (reverse run)) e answers in
      record {
        run = run;
        event = e;
        ends = ends;
        answers = ap (λ b. b || does_answer (k.ask (reverse run)) e) none ∙ answers;
        timed = about.timed;
        unsynced = about.unsynced;
        clock_is = gives_still clock clock' before run (run ++ e ∷ []) e none refl gives;
      }
  stops_at_ask clock clock' before run stops.OutOfMemory gives about h = tt

  -- after an earlier part of the run
  pub stops_later : (a b c : Option (List (Option ℤ))) (before run : List (SessionEvent I))
      (stop : Stop) → GivesMoments a b before run → StopsAt k members b c run stop
      → StopsAt k members a c before stop
  stops_later a b c before run (stops.Terminal end) gives h = record {
    run = h.run;
    event = h.event;
    ends = h.ends;
    answers = h.answers;
    timed = h.timed;
    unsynced = h.unsynced;
    clock_is = gives_more a b c before run (h.run ++ h.event ∷ []) gives h.clock_is;
  }
  stops_later a b c before run stops.OutOfMemory gives h = tt
