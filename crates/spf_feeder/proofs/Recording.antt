-- A record that a supervisor left is one of what it was given.
use Rattle.std.proofs.Common.{◌≡◌, ◌∙◌, List, None, Option, Some, ap, reverse, subst, sym}
use Rattle.std.specs.Prelude.{IfSome}
use Rattle.spf_system.specs.Marks.{Mark}
use Rattle.spf_link.specs.Connecting.{Member}
use Rattle.spf_system.specs.declared.pace.Pace.{Pace}
use Rattle.spf_feed.specs.declared.event.SessionEvent.{SessionEvent}
use Rattle.spf_feeder.specs.Coming.{AllYieldedOf}
use Rattle.spf_feeder.specs.Kinds.{Kind}
use Rattle.spf_view.specs.Steps.{Step}
use Rattle.spf_feed.specs.declared.step.Denial.{Denial}
use Rattle.spf_feeder.specs.Orderly.{GoesOn, IsOrderlyOf}
use Rattle.spf_feeder.specs.Connectors.{unyielded}
use Rattle.spf_feeder.specs.Records.{AssignedOf, IsLeftByOf, IsOfBy, IsPublishedBy, LeftOf}
use Rattle.spf_feeder.specs.Records.{RecordedOf, WentThroughBy, task_of}

pub recorded_of_job : {S G I X M B R : Type 0} (members : S → Option (List Member))
    (kind : G → Kind I M B R) (job : AssignedOf S G I) (first : S) (run : List (SessionEvent I))
    (rules : G) (pace : Pace) (closed : Mark) (o : Option (RecordedOf G I X))
    → IfSome o (λ r. (r.run ≡ run) × (r.rules ≡ rules) × (r.pace ≡ pace) × (r.closed ≡ closed))
    → IfSome (members first) (λ m. AllYieldedOf (kind rules) m (reverse run))
    → first ≡ job.first → GoesOn job.run run → rules ≡ job.rules
    → pace.bounds ≡ job.bounds → closed.cell ≡ job.cell → IfSome o (IsOfBy members kind job)
recorded_of_job members kind job first run rules pace closed None is yielded at goes given bounds
    cell =
    tt
recorded_of_job {G = G} {I = I} members kind job first run rules pace closed (Some r) is yielded
    at goes given bounds cell =
    record {
      goes_on = subst (GoesOn job.run) (sym is.0) goes;
      rules = is.1 ∙ given;
      bounds = ap (λ (p : Pace). p.bounds) is.2 ∙ bounds;
      yielded = subst (λ f. IfSome (members f) (λ m. AllYieldedOf (kind r.rules) m (reverse r.run)))
          at
          (subst (λ (x : G × List (SessionEvent I)).
          IfSome (members first) (λ m. AllYieldedOf (kind x.0) m (reverse x.1)))
          (λ i. (sym is.1 i, sym is.0 i)) yielded);
      cell = ap (λ (k : Mark). k.cell) is.3 ∙ cell;
    }

pub went_of_job : {S G I X P M B R : Type 0} (members : S → Option (List Member))
    (kind : G → Kind I M B R) (plain : X → Step M B Denial) (shown : X → P) (job : AssignedOf S G I)
    (first : S) (run : List (SessionEvent I)) (rules : G) (published : List P) → first ≡ job.first
    → GoesOn job.run run → rules ≡ job.rules → IsOrderlyOf (kind rules) (reverse run)
    → IfSome (members first) (λ m. AllYieldedOf (kind rules) m (reverse run))
    → IsPublishedBy plain shown (kind rules) run published
    → WentThroughBy members kind plain shown job published
went_of_job {S = S} {G = G} members kind plain shown job first run rules published at goes given
    orderly yielded published_is =
    record {
      run = run;
      goes_on = goes;
      orderly = subst (λ (r : G). IsOrderlyOf (kind r) (reverse run)) given orderly;
      yielded = subst (λ (x : S × G).
          IfSome (members x.0) (λ m. AllYieldedOf (kind x.1) m (reverse run)))
          (λ i. (at i, given i)) yielded;
      published_is = subst (λ (r : G). IsPublishedBy plain shown (kind r) run published) given
          published_is;
    }

-- the same, where it is not known what the connector had to yield
unyielded_record : {S G I X M B R : Type 0} (members : S → Option (List Member))
    (kind : G → Kind I M B R) (job : AssignedOf S G I) (o : Option (RecordedOf G I X))
    → IfSome o (IsOfBy members kind job) → IfSome o (IsOfBy unyielded kind (task_of job))
unyielded_record members kind job None is = tt
unyielded_record members kind job (Some r) is = record {
  goes_on = is.goes_on;
  rules = is.rules;
  bounds = is.bounds;
  yielded = tt;
  cell = is.cell;
}

pub left_unyielded : {S G I X P M B R : Type 0} (members : S → Option (List Member))
    (kind : G → Kind I M B R) (plain : X → Step M B Denial) (shown : X → P) (job : AssignedOf S G I)
    (done : LeftOf G I X P) → IsLeftByOf members kind plain shown job done
    → IsLeftByOf unyielded kind plain shown (task_of job) done
left_unyielded members kind plain shown job done is = record {
  board = is.board;
  went = record {
    run = is.went.run;
    goes_on = is.went.goes_on;
    orderly = is.went.orderly;
    yielded = tt;
    published_is = is.went.published_is;
  };
  record_is = unyielded_record members kind job done.recorded is.record_is;
}

-- ---- where a task promises, of a connector of which nothing is known, what its job leaves

promised_record : {S G I X M B R : Type 0} (members : S → Option (List Member))
    (kind : G → Kind I M B R) (job : AssignedOf S G I) (o : Option (RecordedOf G I X))
    → members job.first ≡ None → IfSome o (IsOfBy unyielded kind (task_of job))
    → IfSome o (IsOfBy members kind job)
promised_record members kind job None none is = tt
promised_record members kind job (Some r) none is = record {
  goes_on = is.goes_on;
  rules = is.rules;
  bounds = is.bounds;
  yielded = subst (λ (o : Option (List Member)).
      IfSome o (λ m. AllYieldedOf (kind r.rules) m (reverse r.run))) (sym none) tt;
  cell = is.cell;
}

left_of_task : {S G I X P M B R : Type 0} (members : S → Option (List Member))
    (kind : G → Kind I M B R) (plain : X → Step M B Denial) (shown : X → P) (job : AssignedOf S G I)
    (done : LeftOf G I X P) → members job.first ≡ None
    → IsLeftByOf unyielded kind plain shown (task_of job) done
    → IsLeftByOf members kind plain shown job done
left_of_task members kind plain shown job done none is = record {
  board = is.board;
  went = record {
    run = is.went.run;
    goes_on = is.went.goes_on;
    orderly = is.went.orderly;
    yielded = subst (λ (o : Option (List Member)).
        IfSome o (λ m. AllYieldedOf (kind job.rules) m (reverse is.went.run))) (sym none) tt;
    published_is = is.went.published_is;
  };
  record_is = promised_record members kind job done.recorded none is.record_is;
}

pub left_as_promised : {S G I X P M B R : Type 0} (members : S → Option (List Member))
    (kind : G → Kind I M B R) (plain : X → Step M B Denial) (shown : X → P) (job : AssignedOf S G I)
    (task : AssignedOf (Unit {0}) G I) (done : LeftOf G I X P) → members job.first ≡ None
    → task ≡ task_of job → IsLeftByOf unyielded kind plain shown task done
    → IsLeftByOf members kind plain shown job done
left_as_promised {G} {I} members kind plain shown job task done none same is =
    left_of_task members kind plain shown job done none
    (subst (λ (t : AssignedOf (Unit {0}) G I). IsLeftByOf unyielded kind plain shown t done) same is)
