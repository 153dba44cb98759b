-- What a run does whose source was built.
use Rattle.std.proofs.Common.{◌≡◌, sym, ap, ◌∙◌, refl, subst, ℕ, Bool, true, false, List}
use Rattle.std.proofs.Common.{map, reverse, Option, None, Some, Result, Ok, Err}
use Rattle.std.specs.Prelude.{ℤ, IfErr, IfSome, IfOk, is_ok}
use mathlib.Core.List.{IsPrefix}
use Rattle.spf_board.specs.Lists.{is_ended, steps_of}
use Rattle.spf_io.specs.declared.memory.OutOfMemory.{OutOfMemory}
use Rattle.spf_link.specs.Connecting.{Member}
use Rattle.spf_x509.specs.Svid.{Svid}
use Rattle.spf_feed.specs.Steps.{plain}
use Rattle.spf_feeder.specs.Coming.{AllYielded}
use Rattle.spf_feeder.specs.Governed.{rules_by}
use Rattle.spf_feeder.specs.declared.x509_rules.X509Rules.{X509Rules}
use Rattle.spiffe.specs.declared.builder.Settings.{Settings}
use Rattle.spiffe.specs.Building.{IsAssigned, IsDefault}
use Rattle.spiffe.specs.Records.{Assigned, IsLeftBy, IsOf, IsRecord, Left, Recorded}
use Rattle.spf_gate.specs.declared.gate_error.GateError.{GateError}
use Rattle.spf_gate.specs.declared.gate_error.GateError.TheVariants as gate
use Rattle.spf_gate.specs.Serving.{Serves, ServesPart, cuts, is_cut}
use Rattle.spf_gate.proofs.CutLemmas.{cut_at_last}
use Rattle.spiffe.specs.Passes.{PassView, Seen}
use Rattle.spf_gate_live.specs.Ends.{end_of}
use Rattle.spf_gate_live.specs.Runs.{AnswersAll, IsRecordOf, Runs, max_lines}
use Rattle.spf_gate_live.specs.declared.live_error.LiveGateError.{LiveGateError}
use Rattle.spf_gate_live.specs.declared.live_error.LiveGateError.TheVariants as errors

yielded_by : {K : Type 0} (picks : K → List Svid → Option ℕ) (r : Recorded K)
    (a b : Option (List Member)) → a ≡ b
    → IfSome a (λ m. AllYielded (rules_by picks r.rules) m (reverse r.run))
    → IfSome b (λ m. AllYielded (rules_by picks r.rules) m (reverse r.run))
yielded_by picks r a b same =
    subst (λ (o : Option (List Member)).
    IfSome o (λ m. AllYielded (rules_by picks r.rules) m (reverse r.run))) same

-- the record of a job that was assigned by a builder with the defaults
record_of : {S K : Type 0} (members : S → Option (List Member)) (picks : K → List Svid → Option ℕ)
    (set : Settings K) (connector : S) (clock clock' : Option (List (Option ℤ)))
    (job : Assigned S K) (published : Seen) (found : Recorded K) → IsDefault set
    → IsAssigned members picks set connector clock clock' job → IsRecord picks found
    → IsOf members picks job found → map plain found.steps ≡ steps_of published
    → is_ended published ≡ true → IsRecordOf (members connector) picks published found
record_of {K = K} members picks set connector clock clock' job published found is assigned kept
    of steps ended =
    record {
      kept = kept;
      limits = ap (λ (x : X509Rules K). x.settings.limits) of.rules ∙ assigned.rules.limits
          ∙ is.limits;
      ready = ap (λ (x : X509Rules K). x.settings.ready) of.rules ∙ assigned.rules.ready ∙ is.ready;
      picker = ap (λ (x : X509Rules K). x.picker) of.rules ∙ assigned.rules.picker ∙ is.picker;
      yielded = yielded_by picks found (members job.first) (members connector) assigned.members_are
          of.yielded;
      steps_are = steps;
      ended = ended;
    }

-- how answering and joining end
answered_so : {S K : Type 0} (members : S → Option (List Member))
    (picks : K → List Svid → Option ℕ) (set : Settings K) (connector : S)
    (clock clock' : Option (List (Option ℤ))) (job : Assigned S K)
    (left left' held held' : Option (List ℕ)) (first last : PassView) (published : Seen)
    (served : Result ℕ GateError)
    (done : Left K) (joined : Result (Recorded K) OutOfMemory) → IsDefault set
    → IsAssigned members picks set connector clock clock' job
    → (is_cut served ≡ false → Serves max_lines left left' first last held held' served)
    → IfErr served (λ e. cuts e ≡ true → ServesPart max_lines left first last held held' e)
    → IsPrefix last.seen published → IsLeftBy members picks job done
    → IfOk joined (λ r. done.recorded ≡ Some r) → IfOk joined (IsRecord picks)
    → IfOk joined (λ r. (map plain r.steps ≡ steps_of published) × (is_ended published ≡ true))
    → Runs (members connector) picks left left' held held' (end_of served (is_ok joined))
answered_so members picks set connector clock clock' job left left' held held' first last published
    (Ok count) done (Ok found) is assigned serves part begins leaves recorded kept settled =
    let of = subst (λ (o : Option (Recorded _)). IfSome o (IsOf members picks job)) recorded
    leaves.record_is in
    record {
      first = first;
      last = last;
      count = count;
      serves = serves refl;
      published = published;
      begins = begins;
      found = found;
      is_record = record_of members picks set connector clock clock' job published found is
          assigned kept of settled.0 settled.1;
    }
answered_so members picks set connector clock clock' job left left' held held' first last published
    (Ok count) done (Err e) is assigned serves part begins leaves recorded kept settled = (
      first,
      last,
      (λ uncut. absurd (cc)),
      λ is.
          cut_at_last max_lines left left' first last held held' count gate.OutOfMemory
          (serves refl),
    )
answered_so members picks set connector clock clock' job left left' held held' first last published
    (Err e) done joined is assigned serves part begins leaves recorded kept settled =
    (first, last, serves, part)

-- the same for the handle's job, over the connector that was handed in
pub answered : {S K : Type 0} (members : S → Option (List Member))
    (picks : K → List Svid → Option ℕ) (set : Settings K) (connector own : S)
    (clock clock' : Option (List (Option ℤ))) (job started : Assigned S K)
    (left left' held held' : Option (List ℕ)) (first last : PassView) (published : Seen)
    (served : Result ℕ GateError)
    (done : Left K) (joined : Result (Recorded K) OutOfMemory) (recorded : Bool)
    (end : Result (Unit {0}) LiveGateError) → own ≡ connector → IsDefault set
    → IsAssigned members picks set own clock clock' job → started ≡ job
    → (is_cut served ≡ false → Serves max_lines left left' first last held held' served)
    → IfErr served (λ e. cuts e ≡ true → ServesPart max_lines left first last held held' e)
    → IsPrefix last.seen published → IsLeftBy members picks started done
    → IfOk joined (λ r. done.recorded ≡ Some r) → IfOk joined (IsRecord picks)
    → IfOk joined (λ r. (map plain r.steps ≡ steps_of published) × (is_ended published ≡ true))
    → recorded ≡ is_ok joined → end ≡ end_of served recorded
    → Runs (members connector) picks left left' held held' end
answered {S} {K} members picks set connector own clock clock' job started left left' held held'
    first last published served done joined recorded end by is assigned same serves part begins
    leaves found kept settled recorded_is end_is =
    let of_job = subst (λ (j : Assigned S K). IsLeftBy members picks j done) same leaves in
    subst (λ (x : S × Result (Unit {0}) LiveGateError).
    Runs (members x.0) picks left left' held held' x.1)
    (λ i. (by i, sym (end_is ∙ ap (end_of served) recorded_is) i))
    (answered_so members picks set own clock clock' job left left' held held' first last
    published served done joined is assigned serves part begins of_job found kept settled)

unyielded_all : {K : Type 0} (members : Option (List Member)) (picks : K → List Svid → Option ℕ)
    (left left' held held' : Option (List ℕ)) → AnswersAll members picks left left' held held'
    → AnswersAll None picks left left' held held'
unyielded_all members picks left left' held held' so = record {
  first = so.first;
  last = so.last;
  count = so.count;
  serves = so.serves;
  published = so.published;
  begins = so.begins;
  found = so.found;
  is_record = record {
    kept = so.is_record.kept;
    limits = so.is_record.limits;
    ready = so.is_record.ready;
    picker = so.is_record.picker;
    yielded = tt;
    steps_are = so.is_record.steps_are;
    ended = so.is_record.ended;
  };
}

-- of a connector of which nothing is known
pub unyielded : {K : Type 0} (members : Option (List Member)) (picks : K → List Svid → Option ℕ)
    (left left' held held' : Option (List ℕ)) (end : Result (Unit {0}) LiveGateError)
    → Runs members picks left left' held held' end → Runs None picks left left' held held' end
unyielded members picks left left' held held' (Ok done) so =
    unyielded_all members picks left left' held held' so
unyielded members picks left left' held held' (Err (errors.Gate e)) so = so
unyielded members picks left left' held held' (Err errors.BadArguments) so = so
unyielded members picks left left' held held' (Err errors.Rejected) so = so
unyielded members picks left left' held held' (Err errors.Unsupported) so = so
unyielded members picks left left' held held' (Err errors.NoSupervisor) so = so
unyielded members picks left left' held held' (Err errors.NoPlace) so = so
