-- Why runs fail, from the causes of their parts.
use Rattle.std.proofs.Common.{◌≡◌, ◌≤◌, ℕ, Bool, true, false, List, Option}
use Rattle.std.proofs.Common.{Result, Ok, Err, subst, sym}
use Rattle.std.specs.Prelude.{IfErr}
use Rattle.spf_feeder.specs.Opened.{Meeting}
use Rattle.spf_io.specs.Outside.{Rose}
use Rattle.spf_x509.specs.Svid.{Svid}
use Rattle.spf_feed.specs.declared.state.X509SourceError.{X509SourceError}
use Rattle.spf_feed.specs.declared.state.X509SourceError.TheVariants as source
use Rattle.spiffe.specs.declared.builder.Settings.{Settings}
use Rattle.spiffe.specs.Building.{PrepareFails}
use Rattle.spiffe.specs.Reads.{HasPlaceCause}
use Rattle.spf_program.specs.Live.{LiveSetting}
use Rattle.spf_live.specs.Ends.{end_of, error_of}
use Rattle.spf_live.specs.Runs.{FailsBy, FollowFails, IsSetTo}
use Rattle.spf_live.specs.declared.error.LiveError.{LiveError}
use Rattle.spf_live.specs.declared.error.LiveError.TheVariants as errors

-- weaker causes
pub fails_more : (place place' output output' : Type 0) (e : LiveError) → (place → place')
    → (output → output') → FollowFails place output e → FollowFails place' output' e
fails_more place place' output output' errors.OutOfMemory f g why = tt
fails_more place place' output output' errors.WriteFailed f g why = g why
fails_more place place' output output' errors.NoPlace f g why = f why
fails_more place place' output output' errors.BadArguments f g why = absurd why
fails_more place place' output output' errors.Rejected f g why = absurd why
fails_more place place' output output' errors.Unsupported f g why = absurd why
fails_more place place' output output' errors.TimedOut f g why = absurd why
fails_more place place' output output' errors.NoSupervisor f g why = absurd why

-- no place, or no memory, for the updates
pub updated_fails : (before now : ℕ) (output : Type 0) (e : X509SourceError)
    → HasPlaceCause {T = Unit {0}} before now (Err e)
    → (before ≤ now) × FollowFails (Rose before now) output (error_of e)
updated_fails before now output source.NoPlace why = why
updated_fails before now output source.OutOfMemory why = (why, tt)
updated_fails before now output (source.Source e) why = absurd why
updated_fails before now output (source.UnsupportedRpc e) why = absurd why
updated_fails before now output source.NoSuitableSvid why = absurd why
updated_fails before now output (source.Withdrawn d) why = absurd why
updated_fails before now output source.Closed why = absurd why
updated_fails before now output source.InitialSyncTimeout why = absurd why
updated_fails before now output source.StreamEnded why = absurd why
updated_fails before now output (source.ResourceLimitExceeded k l a) why = absurd why
updated_fails before now output (source.ShutdownTimeout s e) why = absurd why
updated_fails before now output source.NoSupervisor why = absurd why

pub run_fails : {K : Type 0} (picks : K → List Svid → Option ℕ) (setting : LiveSetting)
    (met : Meeting) (supervisor place place' output : Type 0)
    (e : LiveError) → (place → place') → FollowFails place output e
    → FailsBy picks setting met supervisor place' output e
run_fails picks setting met supervisor place place' output errors.OutOfMemory f why = tt
run_fails picks setting met supervisor place place' output errors.WriteFailed f why = why
run_fails picks setting met supervisor place place' output errors.NoPlace f why = f why
run_fails picks setting met supervisor place place' output errors.BadArguments f why = absurd why
run_fails picks setting met supervisor place place' output errors.Rejected f why = absurd why
run_fails picks setting met supervisor place place' output errors.Unsupported f why = absurd why
run_fails picks setting met supervisor place place' output errors.TimedOut f why = absurd why
run_fails picks setting met supervisor place place' output errors.NoSupervisor f why = absurd why

-- why a preparation fails, whatever a supervisor and a place come from
pub prepare_fails : {K : Type 0} (picks : K → List Svid → Option ℕ) (setting : LiveSetting)
    (set : Settings K) (met : Meeting) (before now : ℕ)
    (supervisor place output : Type 0) (e : X509SourceError) → IsSetTo picks setting set
    → (Rose before now → place) → PrepareFails picks set met before now e
    → FailsBy picks setting met supervisor place output (error_of e)
prepare_fails picks setting set met before now supervisor place output (source.Source e) is f
    why = (set, is, e, why)
prepare_fails picks setting set met before now supervisor place output (source.UnsupportedRpc
    e) is f why = (set, is, e, why)
prepare_fails picks setting set met before now supervisor place output
    source.InitialSyncTimeout is f why = (set, is, why)
prepare_fails picks setting set met before now supervisor place output source.NoPlace is f why =
    f why.1
prepare_fails picks setting set met before now supervisor place output source.OutOfMemory is f
    why = tt
prepare_fails picks setting set met before now supervisor place output source.NoSupervisor is
    f why = absurd why
prepare_fails picks setting set met before now supervisor place output source.NoSuitableSvid
    is f why = tt
prepare_fails picks setting set met before now supervisor place output (source.Withdrawn d) is
    f why = tt
prepare_fails picks setting set met before now supervisor place output source.Closed is f why = tt
prepare_fails picks setting set met before now supervisor place output source.StreamEnded is f
    why = tt
prepare_fails picks setting set met before now supervisor place output
    (source.ResourceLimitExceeded k l a) is f why = tt
prepare_fails picks setting set met before now supervisor place output (source.ShutdownTimeout
    s t) is f why = tt

-- where the cause of a place is none
pub fails_outside : (place output : Type 0) (r : Result (Unit {0}) LiveError)
    → IfErr r (FollowFails ⊥ output) → IfErr r (FollowFails place output)
fails_outside place output (Ok done) why = tt
fails_outside place output (Err e) why =
    fails_more ⊥ place output output e (λ none. absurd none) (λ rose. rose) why

-- whatever the cause of a place
pub fails_somehow : (place output : Type 0) (r : Result (Unit {0}) LiveError)
    → IfErr r (FollowFails place output) → IfErr r (FollowFails (Unit {0}) output)
fails_somehow place output (Ok done) why = tt
fails_somehow place output (Err e) why =
    fails_more place (Unit {0}) output output e (λ _. tt) (λ rose. rose) why

ends_so : (place output : Type 0) (r : Result (Unit {0}) LiveError) (recorded : Bool)
    → IfErr r (FollowFails place output) → IfErr (end_of r recorded) (FollowFails place output)
ends_so place output (Ok done) true why = tt
ends_so place output (Ok done) false why = tt
ends_so place output (Err e) recorded why = why

-- printing failed, or there is no record
pub ends_fail : (place output : Type 0) (r : Result (Unit {0}) LiveError) (recorded : Bool)
    (end : Result (Unit {0}) LiveError) → end ≡ end_of r recorded
    → IfErr r (FollowFails place output) → IfErr end (FollowFails place output)
ends_fail place output r recorded end is why =
    subst (λ (x : Result (Unit {0}) LiveError). IfErr x (FollowFails place output)) (sym is)
    (ends_so place output r recorded why)

pub runs_fail : {K : Type 0} (picks : K → List Svid → Option ℕ) (setting : LiveSetting)
    (met : Meeting) (supervisor place place' output : Type 0)
    (r : Result (Unit {0}) LiveError) → (place → place') → IfErr r (FollowFails place output)
    → IfErr r (FailsBy picks setting met supervisor place' output)
runs_fail picks setting met supervisor place place' output (Ok done) f why = tt
runs_fail picks setting met supervisor place place' output (Err e) f why =
    run_fails picks setting met supervisor place place' output e f why

pub prepare_fails_by : {K : Type 0} (picks : K → List Svid → Option ℕ) (setting : LiveSetting)
    (set : Settings K) (met : Meeting) (before now : ℕ)
    (output : Type 0) (e : X509SourceError) (found : LiveError) → found ≡ error_of e
    → IsSetTo picks setting set → PrepareFails picks set met before now e
    → FailsBy picks setting met (Unit {0}) (Unit {0}) output found
prepare_fails_by picks setting set met before now output e found is set_to why =
    subst (λ (x : LiveError). FailsBy picks setting met (Unit {0}) (Unit {0}) output x) (sym is)
    (prepare_fails picks setting set met before now (Unit {0}) (Unit {0}) output e set_to
    (λ refused. tt) why)

-- the same over the endpoint that was handed in
pub prepare_fails_so : {K : Type 0} (picks : K → List Svid → Option ℕ) (setting : LiveSetting)
    (set : Settings K) (met own : Meeting) (before now : ℕ)
    (supervisor place output : Type 0) (e : X509SourceError) (found : LiveError) → own ≡ met
    → found ≡ error_of e → IsSetTo picks setting set → (Rose before now → place)
    → PrepareFails picks set own before now e
    → FailsBy picks setting met supervisor place output found
prepare_fails_so picks setting set met own before now supervisor place output e found met_is
    found_is is f why =
    subst (λ (x : Meeting × LiveError).
    FailsBy picks setting x.0 supervisor place output x.1) (λ i. (met_is i, sym found_is i))
    (prepare_fails picks setting set own before now supervisor place output e is f why)
