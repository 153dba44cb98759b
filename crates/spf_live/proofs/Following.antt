-- A source is followed, closed and joined.
use Rattle.std.proofs.Common.{◌≡◌, ◌∙◌, ap, refl, subst, sym, ℕ, Bool, true, List, Option, None}
use Rattle.std.proofs.Common.{Some, Result, Ok, Err, map}
use Rattle.std.specs.Prelude.{IfSome, IfOk, is_ok}
use mathlib.Core.List.{IsPrefix}
use Rattle.spf_board.specs.Lists.{is_ended, steps_of}
use Rattle.spf_io.specs.declared.memory.OutOfMemory.{OutOfMemory}
use Rattle.spf_link.specs.Connecting.{Member}
use Rattle.spf_x509.specs.Svid.{Svid}
use Rattle.spf_feed.specs.Steps.{plain}
use Rattle.spiffe.specs.declared.builder.Settings.{Settings}
use Rattle.spiffe.specs.Building.{IsAssigned}
use Rattle.spiffe.specs.Records.{Assigned, IsLeftBy, IsOf, IsRecord, Left, Recorded}
use Rattle.spf_feeder.specs.Governed.{kind_by}
use Rattle.spf_feeder.proofs.Unyielded.{assigned_as}
use Rattle.spf_program.specs.Live.{LiveSetting}
use Rattle.spf_live.specs.Ends.{end_of}
use Rattle.spf_live.specs.Printing.{Moments, PrintsTo}
use Rattle.spiffe.specs.Passes.{Seen}
use Rattle.spf_live.specs.Runs.{Follows, IsSetTo, Runs}
use Rattle.spf_live.specs.declared.error.LiveError.{LiveError}
use Rattle.spf_live.proofs.Followed.{prints_unrecorded, prints_until}
use Rattle.spf_live.proofs.Printed.{prefix_self}
use Rattle.spf_live.proofs.Recorded.{runs_by}

-- of a connector of which nothing is known
unyielded_of : {S K : Type 0} (members : S → Option (List Member)) (picks : K → List Svid → Option
    ℕ)
    (job : Assigned S K) (r : Recorded K) → IsOf members picks job r
    → IsOf (λ connector. None) picks job r
unyielded_of members picks job r of = record {
  goes_on = of.goes_on;
  rules = of.rules;
  bounds = of.bounds;
  yielded = tt;
  cell = of.cell;
}

pub unyielded : {S K : Type 0} (members : S → Option (List Member))
    (picks : K → List Svid → Option ℕ) (job : Assigned S K) (count : ℕ)
    (clock clock' : Moments) (held held' : Option (List ℕ)) (r : Result (Unit {0}) LiveError)
    → Follows members picks job count clock clock' held held' r
    → Follows (λ connector. None) picks job count clock clock' held held' r
unyielded members picks job count clock clock' held held' (Ok done) so =
    let r = so.recorded in record {
      first = so.first;
      last = so.last;
      prints = so.prints;
      recorded = (r.0, r.1, unyielded_of members picks job r.0 r.2, r.3);
    }
unyielded members picks job count clock clock' held held' (Err e) so = record {
  first = so.first;
  last = so.last;
  prints = so.prints;
  recorded = tt;
}

-- how printing and joining end: where printing failed, whatever was recorded, and where all lines
-- are printed, with a record or out of memory
followed_so : {S K : Type 0} (members : S → Option (List Member))
    (picks : K → List Svid → Option ℕ) (job : Assigned S K) (count : ℕ)
    (clock clock' : Moments) (held held' : Option (List ℕ)) (r : Result (Unit {0}) LiveError)
    (seen last : Seen) (joined : Result (Recorded K) OutOfMemory) (left : Left K)
    → PrintsTo seen count clock clock' held held' r → IsPrefix seen last
    → IsLeftBy members picks job left → IfOk joined (λ x. left.recorded ≡ Some x)
    → IfOk joined (IsRecord picks)
    → IfOk joined (λ x. (map plain x.steps ≡ steps_of last) × (is_ended last ≡ true))
    → Follows members picks job count clock clock' held held' (end_of r (is_ok joined))
followed_so members picks job count clock clock' held held' (Err e) seen last joined left prints
    grows from recorded kept settled =
    record {
      first = prints.0;
      last = seen;
      prints = prints.1;
      recorded = tt;
    }
followed_so members picks job count clock clock' held held' (Ok done) seen last (Err e) left prints
    grows from recorded kept settled =
    record {
      first = prints.0;
      last = seen;
      prints = prints_unrecorded prints.0 seen seen count clock clock' held held' prints.1
          (prefix_self seen);
      recorded = tt;
    }
followed_so {K = K} members picks job count clock clock' held held' (Ok done) seen last (Ok found)
    left prints grows from recorded kept settled =
    let of = subst (λ (x : Option (Recorded K)). IfSome x (IsOf members picks job)) recorded
    from.record_is in
    record {
      first = prints.0;
      last = last;
      prints = prints_until prints.0 seen last count clock clock' held held' (Ok tt) prints.1 grows;
      recorded = (found, kept, of, settled.0);
    }

-- the same by the function that tells the end
pub followed : {S K : Type 0} (members : S → Option (List Member))
    (picks : K → List Svid → Option ℕ) (job : Assigned S K) (count : ℕ)
    (clock clock' : Moments) (held held' : Option (List ℕ)) (r : Result (Unit {0}) LiveError)
    (seen last : Seen) (joined : Result (Recorded K) OutOfMemory) (recorded : Bool)
    (end : Result (Unit {0}) LiveError) (left : Left K)
    → PrintsTo seen count clock clock' held held' r → IsPrefix seen last
    → IsLeftBy members picks job left → IfOk joined (λ x. left.recorded ≡ Some x)
    → IfOk joined (IsRecord picks)
    → IfOk joined (λ x. (map plain x.steps ≡ steps_of last) × (is_ended last ≡ true))
    → recorded ≡ is_ok joined → end ≡ end_of r recorded
    → Follows members picks job count clock clock' held held' end
followed members picks job count clock clock' held held' r seen last joined recorded end left prints
    grows from found kept settled recorded_is end_is =
    subst (λ (x : Result (Unit {0}) LiveError).
    Follows members picks job count clock clock' held held' x)
    (sym (end_is ∙ ap (end_of r) recorded_is))
    (followed_so members picks job count clock clock' held held' r seen last joined left prints
    grows from found kept settled)

-- a source that was built by these arguments was followed by the handle of its job
pub runs_unyielded : {S K : Type 0} (members : S → Option (List Member))
    (picks : K → List Svid → Option ℕ) (setting : LiveSetting) (set : Settings K) (connector : S)
    (clock between clock' : Moments) (held held' : Option (List ℕ)) (job followed : Assigned S K)
    (r : Result (Unit {0}) LiveError) (count : ℕ) → IsSetTo picks setting set
    → IsAssigned members picks set connector clock between job → followed ≡ job
    → count ≡ setting.lines
    → Follows (λ connector. None) picks followed count between clock' held held' r
    → Runs None picks setting clock clock' held held' r
runs_unyielded {S} {K} members picks setting set connector clock between clock' held held' job
    followed r count is assigned same lines follows =
    let of_job = subst (λ (j : Assigned S K).
    Follows (λ connector. None) picks j count between clock' held held' r) same follows in
    runs_by (λ connector. None) picks setting set connector clock between clock' held held' job r is
    (assigned_as members (kind_by picks) _ _ connector clock between job job refl assigned)
    (subst (λ (n : ℕ). Follows (λ connector. None) picks job n between clock' held held' r) lines
    of_job)

-- a source that was built by these arguments was followed by the handle of its job, over a
-- connector of which the builder's own is one
pub runs_yielded : {S K : Type 0} (members : S → Option (List Member))
    (picks : K → List Svid → Option ℕ) (setting : LiveSetting) (set : Settings K)
    (connector own : S) (clock between clock' : Moments) (held held' : Option (List ℕ))
    (job followed : Assigned S K) (r : Result (Unit {0}) LiveError) (count : ℕ) → own ≡ connector
    → IsSetTo picks setting set → IsAssigned members picks set own clock between job
    → followed ≡ job → count ≡ setting.lines
    → Follows members picks followed count between clock' held held' r
    → Runs (members connector) picks setting clock clock' held held' r
runs_yielded {S} {K} members picks setting set connector own clock between clock' held held' job
    followed r count by is assigned same lines follows =
    let of_job = subst (λ (j : Assigned S K).
    Follows members picks j count between clock' held held' r) same follows in
    subst (λ (x : S). Runs (members x) picks setting clock clock' held held' r) by
    (runs_by members picks setting set own clock between clock' held held' job r is assigned
    (subst (λ (n : ℕ). Follows members picks job n between clock' held held' r) lines of_job))
