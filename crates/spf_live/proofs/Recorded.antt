-- The record of a run.
use Rattle.std.proofs.Common.{◌≡◌, ap, ◌∙◌, refl, subst, ℕ, false, List, [], ◌∷◌, map}
use Rattle.std.proofs.Common.{◌++◌, reverse, Option, None, Some, Result, Ok, Err}
use Rattle.std.specs.Prelude.{ℤ, IfSome, IfOk}
use Rattle.std.specs.Option.{option_map}
use Rattle.std.proofs.lemmas.List.{append-nil}
use Rattle.spf_board.specs.Lists.{steps_of}
use Rattle.spf_link.specs.Connecting.{Member}
use Rattle.spf_x509.specs.Svid.{Svid}
use Rattle.spf_feed.specs.Items.{Event}
use Rattle.spf_feed.specs.Steps.{plain}
use Rattle.spf_feed.specs.declared.event.SessionEvent.TheVariants as events
use Rattle.spf_feeder.specs.Coming.{AllYielded}
use Rattle.spf_feeder.specs.Governed.{rules_by}
use Rattle.spf_feeder.specs.declared.x509_rules.X509Rules.{X509Rules}
use Rattle.spf_feeder.specs.Orderly.{GoesOn, has_moment}
use Rattle.spf_feeder.specs.Times.{GivesMoments, moments_in}
use Rattle.spf_feeder.proofs.TimeLemmas.{moments_append}
use Rattle.spiffe.specs.declared.builder.Settings.{Settings}
use Rattle.spiffe.specs.Building.{IsAssigned}
use Rattle.spiffe.specs.Records.{Assigned, IsOf, IsRecord, Recorded}
use Rattle.spf_program.specs.Live.{LiveSetting}
use Rattle.spf_live.specs.Printing.{Moments}
use Rattle.spiffe.specs.Passes.{Seen}
use Rattle.spf_live.specs.Runs.{Follows, IsRecordOf, IsSetTo, Runs}
use Rattle.spf_live.specs.declared.error.LiveError.{LiveError}

no_moments : (run : List Event) → has_moment run ≡ false → moments_in run ≡ []
no_moments [] timeless = refl
no_moments (events.Moment m ∷ run) timeless = absurd (cc)
no_moments (events.ClientMade ∷ run) timeless = no_moments run timeless
no_moments (events.ClientFailed f ∷ run) timeless = no_moments run timeless
no_moments (events.Connected ∷ run) timeless = no_moments run timeless
no_moments (events.ConnectStatus s ∷ run) timeless = no_moments run timeless
no_moments (events.Item i ∷ run) timeless = no_moments run timeless
no_moments (events.ItemStatus s ∷ run) timeless = no_moments run timeless
no_moments (events.StreamEnd ∷ run) timeless = no_moments run timeless
no_moments (events.Close ∷ run) timeless = no_moments run timeless

same_moments : (old new : List Event) → GoesOn old new → moments_in new ≡ moments_in old
same_moments old new on =
    ap moments_in on.run_is ∙ moments_append old on.later
    ∙ ap (λ (l : List ℤ). moments_in old ++ l) (no_moments on.later on.timeless)
    ∙ append-nil (moments_in old)

gives_on : (clock clock' : Moments) (old new : List Event) → GoesOn old new
    → GivesMoments clock clock' [] old → GivesMoments clock clock' [] new
gives_on None clock' old new on gives = tt
gives_on (Some a) None old new on gives = gives
gives_on (Some a) (Some b) old new on gives =
    (gives.0, gives.1, same_moments old new on ∙ gives.2)

yielded_by : {K : Type 0} (picks : K → List Svid → Option ℕ) (r : Recorded K)
    (a b : Option (List Member)) → a ≡ b
    → IfSome a (λ m. AllYielded (rules_by picks r.rules) m (reverse r.run))
    → IfSome b (λ m. AllYielded (rules_by picks r.rules) m (reverse r.run))
yielded_by picks r a b same =
    subst (λ (o : Option (List Member)).
    IfSome o (λ m. AllYielded (rules_by picks r.rules) m (reverse r.run))) same

record_of : {S K : Type 0} (members : S → Option (List Member)) (picks : K → List Svid → Option ℕ)
    (setting : LiveSetting) (set : Settings K) (connector : S) (clock between : Moments)
    (job : Assigned S K) (last : Seen) (found : Recorded K) → IsSetTo picks setting set
    → IsAssigned members picks set connector clock between job → IsRecord picks found
    → IsOf members picks job found → map plain found.steps ≡ steps_of last
    → IsRecordOf (members connector) picks setting clock between last found
record_of {K = K} members picks setting set connector clock between job last found is assigned
    kept of steps =
    record {
      kept = kept;
      limits = ap (λ (x : X509Rules K). x.settings.limits) of.rules ∙ assigned.rules.limits
          ∙ is.limits;
      ready = ap (λ (x : X509Rules K). x.settings.ready) of.rules ∙ assigned.rules.ready ∙ is.ready;
      picker = ap (λ (x : X509Rules K). option_map picks x.picker) of.rules
          ∙ ap (option_map picks) assigned.rules.picker ∙ is.picker;
      moments = gives_on clock between job.run found.run of.goes_on assigned.clock_is;
      yielded = yielded_by picks found (members job.first) (members connector) assigned.members_are
          of.yielded;
      steps_are = steps;
    }

recorded_of : {S K : Type 0} (members : S → Option (List Member)) (picks : K → List Svid → Option ℕ)
    (setting : LiveSetting) (set : Settings K) (connector : S) (clock between : Moments)
    (job : Assigned S K) (last : Seen) (r : Result (Unit {0}) LiveError) → IsSetTo picks setting set
    → IsAssigned members picks set connector clock between job
    → IfOk r (λ _. (found : Recorded K) × IsRecord picks found
    × IsOf members picks job found × (map plain found.steps ≡ steps_of last))
    → IfOk r (λ _. (found : Recorded K)
    × IsRecordOf (members connector) picks setting clock between last found)
recorded_of members picks setting set connector clock between job last (Err e) is assigned f = tt
recorded_of members picks setting set connector clock between job last (Ok done) is assigned f = (
  f.0,
  record_of members picks setting set connector clock between job last f.0 is assigned f.1 f.2 f.3,
)

-- a source that was built by these arguments is followed
pub runs_by : {S K : Type 0} (members : S → Option (List Member)) (picks : K → List Svid → Option ℕ)
    (setting : LiveSetting) (set : Settings K) (connector : S) (clock between clock' : Moments)
    (held held' : Option (List ℕ)) (job : Assigned S K) (r : Result (Unit {0}) LiveError)
    → IsSetTo picks setting set
    → IsAssigned members picks set connector clock between job
    → Follows members picks job setting.lines between clock' held held' r
    → Runs (members connector) picks setting clock clock' held held' r
runs_by members picks setting set connector clock between clock' held held' job r is assigned f =
    record {
      first = f.first;
      last = f.last;
      between = between;
      prints = f.prints;
      recorded = recorded_of members picks setting set connector clock between job f.last r is
          assigned
          f.recorded;
    }
