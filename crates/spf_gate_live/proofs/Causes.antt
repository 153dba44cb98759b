-- Why runs fail, from the causes of their parts.
use Rattle.std.proofs.Common.{◌≡◌, refl, sym, subst, ℕ, Bool, true, false, List, [], Option}
use Rattle.std.proofs.Common.{None, Result, Ok, Err}
use Rattle.std.specs.Prelude.{IfErr}
use Rattle.spf_api.specs.declared.endpoint_error.EndpointError.{EndpointError}
use Rattle.spf_io.specs.Outside.{Rose}
use Rattle.spf_link.specs.Connecting.{Member}
use Rattle.spf_x509.specs.Svid.{Svid}
use Rattle.spf_feed.specs.declared.state.X509SourceError.{X509SourceError}
use Rattle.spf_feed.specs.declared.state.X509SourceError.TheVariants as source
use Rattle.spf_feeder.specs.Opened.{Meeting}
use Rattle.spiffe.specs.declared.builder.Settings.{Settings}
use Rattle.spiffe.specs.Building.{IsDefault, PrepareFails}
use Rattle.spiffe.specs.Passes.{PassView}
use Rattle.spf_gate.specs.declared.gate_error.GateError.{GateError}
use Rattle.spf_gate.specs.declared.gate_error.GateError.TheVariants as gate
use Rattle.spf_gate.specs.Serving.{HasCauses}
use Rattle.spf_gate.proofs.CutLemmas.{cut_at_first}
use Rattle.spf_gate_live.specs.Ends.{end_of, error_of}
use Rattle.spf_gate_live.specs.Runs.{AnswersUntil, FailsBy, Runs, max_lines}
use Rattle.spf_gate_live.specs.declared.live_error.LiveGateError.{LiveGateError}

served_by : {K : Type 0} (members : Option (List Member)) (picks : K → List Svid → Option ℕ)
    (valid : Result (Unit {0}) EndpointError) (supervisor place : Type 0)
    (reads reads' writes writes' : ℕ) (served : Result ℕ GateError) (recorded : Bool)
    → HasCauses reads reads' writes writes' served
    → IfErr (end_of served recorded)
    (FailsBy members picks valid supervisor place (Rose reads reads') (Rose writes writes'))
served_by members picks valid supervisor place reads reads' writes writes' (Ok count) true causes = tt
served_by members picks valid supervisor place reads reads' writes writes' (Ok count) false causes = tt
served_by members picks valid supervisor place reads reads' writes writes' (Err gate.ReadFault) recorded
    causes = causes.read refl
served_by members picks valid supervisor place reads reads' writes writes' (Err gate.WriteFault) recorded
    causes = causes.write refl
served_by members picks valid supervisor place reads reads' writes writes' (Err (gate.BadRule line))
    recorded causes = tt
served_by members picks valid supervisor place reads reads' writes writes' (Err gate.NoPolicyEnd) recorded
    causes = tt
served_by members picks valid supervisor place reads reads' writes writes' (Err (gate.LineTooLong line))
    recorded causes = tt
served_by members picks valid supervisor place reads reads' writes writes' (Err (gate.NotText line))
    recorded causes = tt
served_by members picks valid supervisor place reads reads' writes writes' (Err gate.TooManyLines) recorded
    causes = tt
served_by members picks valid supervisor place reads reads' writes writes' (Err gate.OutOfMemory) recorded
    causes = tt

-- why answering fails
pub served_fails : {K : Type 0} (members : Option (List Member)) (picks : K → List Svid → Option ℕ)
    (valid : Result (Unit {0}) EndpointError) (supervisor place : Type 0)
    (reads reads' writes writes' : ℕ) (served : Result ℕ GateError) (recorded : Bool)
    (end : Result (Unit {0}) LiveGateError) → end ≡ end_of served recorded
    → HasCauses reads reads' writes writes' served
    → IfErr end (FailsBy members picks valid supervisor place (Rose reads reads') (Rose writes writes'))
served_fails members picks valid supervisor place reads reads' writes writes' served recorded end is
    causes =
    subst (λ (r : Result (Unit {0}) LiveGateError).
    IfErr r (FailsBy members picks valid supervisor place (Rose reads reads') (Rose writes writes')))
    (sym is)
    (served_by members picks valid supervisor place reads reads' writes writes' served recorded causes)

prepared_by : {K : Type 0} (picks : K → List Svid → Option ℕ) (set : Settings K) (met : Meeting)
    (before now : ℕ) (supervisor place input output : Type 0) (e : X509SourceError)
    → IsDefault set → (Rose before now → place) → PrepareFails picks set met before now e
    → FailsBy met.members picks met.valid supervisor place input output (error_of e)
prepared_by picks set met before now supervisor place input output (source.Source e) is f why =
    (e, (set, met.clock, met.clock_after, is, why))
prepared_by picks set met before now supervisor place input output (source.UnsupportedRpc e) is
    f why = (e, (set, met.clock, met.clock_after, is, why))
prepared_by picks set met before now supervisor place input output source.NoPlace is f why =
    f why.1
prepared_by picks set met before now supervisor place input output source.NoSupervisor is f why =
    absurd why
prepared_by picks set met before now supervisor place input output source.InitialSyncTimeout is f
    why = tt
prepared_by picks set met before now supervisor place input output source.OutOfMemory is f why =
    tt
prepared_by picks set met before now supervisor place input output source.NoSuitableSvid is f why
    = tt
prepared_by picks set met before now supervisor place input output (source.Withdrawn d) is f why =
    tt
prepared_by picks set met before now supervisor place input output source.Closed is f why = tt
prepared_by picks set met before now supervisor place input output source.StreamEnded is f why =
    tt
prepared_by picks set met before now supervisor place input output
    (source.ResourceLimitExceeded k l a) is f why = tt
prepared_by picks set met before now supervisor place input output (source.ShutdownTimeout s t) is
    f why = tt

-- why a source is not built
pub prepare_fails : {K : Type 0} (members : Option (List Member)) (picks : K → List Svid → Option ℕ)
    (set : Settings K) (valid : Result (Unit {0}) EndpointError) (met : Meeting) (before now : ℕ)
    (supervisor place input output : Type 0) (e : X509SourceError) (error : LiveGateError)
    → met.members ≡ members → met.valid ≡ valid → error ≡ error_of e → IsDefault set
    → (Rose before now → place) → PrepareFails picks set met before now e
    → FailsBy members picks valid supervisor place input output error
prepare_fails members picks set valid met before now supervisor place input output e error
    members_are valid_is error_is is f why =
    subst (λ (x : Option (List Member) × Result (Unit {0}) EndpointError × LiveGateError).
    FailsBy x.0 picks x.1 supervisor place input output x.2)
    (λ i. (members_are i, valid_is i, sym error_is i))
    (prepared_by picks set met before now supervisor place input output e is f why)

-- a pass that has read nothing
nothing_read : PassView
nothing_read = record {
  book = record { number = 0; log_name = 0; cells_name = 0 };
  seen = [];
  entered = [];
  missed = 0;
  enters = 0;
  entries = 0;
  closed = None;
}

-- memory runs out before a source is built
unanswered : (left held : Option (List ℕ)) → AnswersUntil left left held held gate.OutOfMemory
unanswered left held = (
  nothing_read,
  nothing_read,
  (λ uncut. absurd (cc)),
  λ is. cut_at_first max_lines left nothing_read held gate.OutOfMemory,
)

unbuilt_so : {K : Type 0} (members : Option (List Member)) (picks : K → List Svid → Option ℕ)
    (left held : Option (List ℕ)) (e : X509SourceError)
    → Runs members picks left left held held (Err (error_of e))
unbuilt_so members picks left held (source.Source e) = (refl, refl)
unbuilt_so members picks left held (source.UnsupportedRpc e) = (refl, refl)
unbuilt_so members picks left held source.NoPlace = (refl, refl)
unbuilt_so members picks left held source.NoSupervisor = (refl, refl)
unbuilt_so members picks left held source.InitialSyncTimeout = unanswered left held
unbuilt_so members picks left held source.OutOfMemory = unanswered left held
unbuilt_so members picks left held source.NoSuitableSvid = unanswered left held
unbuilt_so members picks left held (source.Withdrawn d) = unanswered left held
unbuilt_so members picks left held source.Closed = unanswered left held
unbuilt_so members picks left held source.StreamEnded = unanswered left held
unbuilt_so members picks left held (source.ResourceLimitExceeded k l a) = unanswered left held
unbuilt_so members picks left held (source.ShutdownTimeout s t) = unanswered left held

-- where no source is built, nothing is read or written
pub unbuilt : {K : Type 0} (members : Option (List Member)) (picks : K → List Svid → Option ℕ)
    (left left' held held' : Option (List ℕ)) (e : X509SourceError) (error : LiveGateError)
    → error ≡ error_of e → left' ≡ left → held' ≡ held
    → Runs members picks left left' held held' (Err error)
unbuilt members picks left left' held held' e error error_is unread unwritten =
    subst (λ (x : LiveGateError × Option (List ℕ) × Option (List ℕ)).
    Runs members picks left x.1 held x.2 (Err x.0))
    (λ i. (sym error_is i, sym unread i, sym unwritten i)) (unbuilt_so members picks left held e)
