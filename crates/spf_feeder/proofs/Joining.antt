-- What holds of rules and a run holds where they are the same.
use Rattle.std.proofs.Common.{◌≡◌, [], ◌∷◌, true, List, Option, ap, reverse, subst, sym}
use Rattle.std.specs.Prelude.{IfSome, ℤ}
use Rattle.spf_link.specs.Connecting.{Member}
use Rattle.spf_link.specs.declared.connector.Connector as connectors
use Rattle.spf_link.specs.declared.link.Link as links
use Rattle.spf_system.specs.declared.pace.Pace.{Pace}
use Rattle.spf_view.specs.Steps.{Step, steps_of}
use Rattle.spf_view.specs.Views.{has_synced}
use Rattle.spf_feed.specs.declared.event.SessionEvent.{SessionEvent}
use Rattle.spf_feed.specs.declared.event.SessionEvent.TheVariants as events
use Rattle.spf_feed.specs.declared.step.Denial.{Denial}
use Rattle.spf_feeder.specs.Asking.{Asked}
use Rattle.spf_feeder.specs.Fed.{IsFed}
use Rattle.spf_feeder.specs.Kept.{Progress}
use Rattle.spf_feeder.specs.Kinds.{Kind}
use Rattle.spf_feeder.specs.Opened.{IsOpened}
use Rattle.spf_feeder.specs.Coming.{AllYieldedOf}
use Rattle.spf_feeder.specs.Orderly.{IsFirstStep, IsOrderlyOf, IsSyncedOf, IsTimedOf}
use Rattle.spf_feeder.specs.Pacing.{KeepsPaceOf}
use Rattle.spf_feeder.specs.Times.{GivesMoments, TakesMoment}
use Rattle.spf_feeder.proofs.TimeLemmas.{gives_moment, gives_more}

pub synced_as : {G I M B R : Type 0} (kind : G → Kind I M B R) (g h : G)
    (run more : List (SessionEvent I)) → h ≡ g → more ≡ run
    → IsSyncedOf (kind g) (reverse run) → IsSyncedOf (kind h) (reverse more)
synced_as {G} {I} kind g h run more a b synced =
    subst (λ (x : G × List (SessionEvent I)). IsSyncedOf (kind x.0) (reverse x.1))
    (λ i. (sym a i, sym b i)) synced

pub orderly_as : {G I M B R : Type 0} (kind : G → Kind I M B R) (g h : G)
    (run more : List (SessionEvent I)) → h ≡ g → more ≡ run → IsOrderlyOf (kind g) (reverse run)
    → IsOrderlyOf (kind h) (reverse more)
orderly_as {G} {I} kind g h run more a b orderly =
    subst (λ (x : G × List (SessionEvent I)). IsOrderlyOf (kind x.0) (reverse x.1))
    (λ i. (sym a i, sym b i)) orderly

pub yielded_as : {G I M B R : Type 0} (kind : G → Kind I M B R) (members : Option (List Member))
    (g h : G) (run more : List (SessionEvent I)) → h ≡ g → more ≡ run
    → IfSome members (λ m. AllYieldedOf (kind g) m (reverse run))
    → IfSome members (λ m. AllYieldedOf (kind h) m (reverse more))
yielded_as {G} {I} kind members g h run more a b yielded =
    subst (λ (x : G × List (SessionEvent I)).
    IfSome members (λ m. AllYieldedOf (kind x.0) m (reverse x.1))) (λ i. (sym a i, sym b i)) yielded

pub paces_as : {G I M B R : Type 0} (kind : G → Kind I M B R) (g h : G)
    (run more : List (SessionEvent I)) (pace : Pace) → h ≡ g → more ≡ run
    → KeepsPaceOf (kind g) run pace → KeepsPaceOf (kind h) more pace
paces_as {G} {I} kind g h run more pace a b paces =
    subst (λ (x : G × List (SessionEvent I)). KeepsPaceOf (kind x.0) x.1 pace)
    (λ i. (sym a i, sym b i)) paces

pub steps_as : {G I M B R : Type 0} (kind : G → Kind I M B R) (g h : G)
    (run more : List (SessionEvent I)) (steps : List (Step M B Denial)) → h ≡ g → more ≡ run
    → steps ≡ steps_of (kind g).subject run → steps ≡ steps_of (kind h).subject more
steps_as {G} {I} kind g h run more steps a b is =
    subst (λ (x : G × List (SessionEvent I)). steps ≡ steps_of (kind x.0).subject x.1)
    (λ i. (sym a i, sym b i)) is

pub fed_as : {S L I M B R N : Type 0} {k later : Kind I M B R} {connector : connectors.Ghosts S L}
    {link : links.Ghosts L} {p q : Progress N I} {a b : Asked S L} {f h : S} → later ≡ k → q ≡ p
    → b ≡ a → h ≡ f → IsFed k connector link p a f → IsFed later connector link q b h
fed_as {S = S} {L = L} {I = I} {M = M} {B = B} {R = R} {N = N} {connector = connector} {link = link}
    same run asked first fed =
    subst (λ (x : Kind I M B R × Progress N I × Asked S L × S).
    IsFed x.0 connector link x.1 x.2 x.3)
    (λ i. (sym same i, sym run i, sym asked i, sym first i)) fed

-- an initial synchronisation that began with this moment of the clock
pub opened_of : {G I M B R : Type 0} (kind : G → Kind I M B R) (g h : G)
    (members members' : Option (List Member)) (clock between clock' : Option (List (Option ℤ)))
    (first m : ℤ) (run : List (SessionEvent I)) (pace : Pace) → h ≡ g → members' ≡ members
    → m ≡ first → TakesMoment clock between first
    → has_synced (kind g).subject (reverse run) ≡ true → IsTimedOf (kind g) (reverse run)
    → IsOrderlyOf (kind g) (reverse run)
    → IfSome members' (λ x. AllYieldedOf (kind g) x (reverse run))
    → IsFirstStep (kind g) run → GivesMoments between clock' (events.Moment m ∷ []) run
    → KeepsPaceOf (kind g) run pace → IsOpened (kind h) members clock clock' run pace
opened_of {G} kind g h members members' clock between clock' first m run pace same had moment takes
    synced timed orderly yielded once gives paces =
    subst (λ (x : G × Option (List Member)). IsOpened (kind x.0) x.1 clock clock' run pace)
    (λ i. (sym same i, had i))
    (record {
      orderly = orderly;
      yielded = yielded;
      synced = record { timed = timed; synced = synced };
      once = once;
      clock_is = gives_more clock between clock' [] (events.Moment m ∷ []) run
          (gives_moment clock between first [] (events.Moment m ∷ []) takes
          (ap (λ (n : ℤ). events.Moment n ∷ []) moment)) gives;
      paces = paces;
    })
