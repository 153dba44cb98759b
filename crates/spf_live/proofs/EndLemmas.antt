-- What the arguments of a run and its end say of each other.
use Rattle.std.proofs.Common.{◌≡◌, sym, ap, ◌∙◌, refl, subst, ℕ, List, [], Option, None, Some}
use Rattle.std.proofs.Common.{Result, Ok, Err}
use Rattle.std.specs.Prelude.{◌↔◌, IfErr}
use Rattle.spf_api.specs.declared.endpoint_error.EndpointError.{EndpointError}
use Rattle.spf_feeder.specs.Opened.{Meeting, meeting}
use Rattle.spf_link.specs.Connecting.{Member}
use Rattle.spf_x509.specs.Svid.{Svid}
use Rattle.spf_program.specs.Live.{LiveSetting}
use Rattle.spf_live.specs.Ends.{end_status}
use Rattle.spf_live.specs.Printing.{Moments}
use Rattle.spf_live.specs.Runs.{Does, FailsBy, Runs}
use Rattle.spf_live.specs.declared.error.LiveError.{LiveError}
use Rattle.spf_live.specs.declared.error.LiveError.TheVariants as errors
use Rattle.spf_live.proofs.Followed.{prints_none}

-- before a source is built nothing is printed
pub runs_none : {K : Type 0} (members : Option (List Member)) (picks : K → List Svid → Option ℕ)
    (setting : LiveSetting) (clock clock' : Moments) (held held' : Option (List ℕ))
    (e : LiveError) → held' ≡ held → Runs members picks setting clock clock' held held' (Err e)
runs_none members picks setting clock clock' held held' e same = record {
  first = [];
  last = [];
  between = clock;
  prints = prints_none [] setting.lines clock clock' held held' e same;
  recorded = tt;
}

pub does_by : {K : Type 0} (members : Option (List Member)) (picks : K → List Svid → Option ℕ)
    (valid : Result (Unit {0}) EndpointError) (supervisor place output : Type 0)
    (said : Option LiveSetting) (setting : LiveSetting) (clock clock' : Moments)
    (held held' : Option (List ℕ)) (r : Result (Unit {0}) LiveError) → Some setting ≡ said
    → Runs members picks setting clock clock' held held' r
    → IfErr r (FailsBy picks setting (meeting valid members clock clock') supervisor place output)
    → Does members picks valid supervisor place output said clock clock' held held' r
does_by members picks valid supervisor place output said setting clock clock' held held' r is
    runs fails =
    subst (λ (o : Option LiveSetting).
    Does members picks valid supervisor place output o clock clock' held held' r) is (runs, fails)

pub does_none : {K : Type 0} (members : Option (List Member)) (picks : K → List Svid → Option ℕ)
    (valid : Result (Unit {0}) EndpointError) (supervisor place output : Type 0)
    (said : Option LiveSetting) (clock clock' : Moments) (held held' : Option (List ℕ))
    → None ≡ said → held' ≡ held
    → Does members picks valid supervisor place output said clock clock' held held'
    (Err errors.BadArguments)
does_none members picks valid supervisor place output said clock clock' held held' is same =
    subst (λ (o : Option LiveSetting).
    Does members picks valid supervisor place output o clock clock' held held'
    (Err errors.BadArguments)) is (refl, same)

-- where a run ends before its source is followed
pub does_early : {K : Type 0} (members : Option (List Member)) (picks : K → List Svid → Option ℕ)
    (valid : Result (Unit {0}) EndpointError) (supervisor place output : Type 0)
    (said : Option LiveSetting) (setting : LiveSetting) (clock clock' : Moments)
    (held held' : Option (List ℕ)) (e : LiveError) → Some setting ≡ said → held' ≡ held
    → FailsBy picks setting (meeting valid members clock clock') supervisor place output e
    → Does members picks valid supervisor place output said clock clock' held held' (Err e)
does_early members picks valid supervisor place output said setting clock clock' held held' e is
    same fails =
    does_by members picks valid supervisor place output said setting clock clock' held held' (Err e)
    is (runs_none members picks setting clock clock' held held' e same) fails

bad_arguments : {K : Type 0} (picks : K → List Svid → Option ℕ)
    (met : Meeting) (supervisor place output : Type 0)
    (setting : LiveSetting) (e : LiveError) (r : Result (Unit {0}) LiveError)
    → FailsBy picks setting met supervisor place output e → r ≡ Err e
    → r ≡ Err errors.BadArguments → ⊥
bad_arguments picks met supervisor place output setting errors.BadArguments r fails is same =
    fails
bad_arguments picks met supervisor place output setting errors.OutOfMemory r fails is same = cc
bad_arguments picks met supervisor place output setting errors.WriteFailed r fails is same = cc
bad_arguments picks met supervisor place output setting errors.Rejected r fails is same = cc
bad_arguments picks met supervisor place output setting errors.Unsupported r fails is same = cc
bad_arguments picks met supervisor place output setting errors.TimedOut r fails is same = cc
bad_arguments picks met supervisor place output setting errors.NoSupervisor r fails is same = cc
bad_arguments picks met supervisor place output setting errors.NoPlace r fails is same = cc

unlike_bad : (r : Result (Unit {0}) LiveError) (done : Unit {0}) → r ≡ Ok done
    → r ≡ Err errors.BadArguments → ⊥
unlike_bad r done is same = cc

some_setting : (setting : LiveSetting) → Some setting ≡ None → ⊥
some_setting setting same = cc

-- the arguments are refused exactly where they say nothing
pub refused_arguments : {K : Type 0} (members : Option (List Member))
    (picks : K → List Svid → Option ℕ) (valid : Result (Unit {0}) EndpointError)
    (supervisor place output : Type 0) (said : Option LiveSetting) (clock clock' : Moments)
    (held held' : Option (List ℕ)) (r : Result (Unit {0}) LiveError)
    → Does members picks valid supervisor place output said clock clock' held held' r
    → (r ≡ Err errors.BadArguments) ↔ (said ≡ None)
refused_arguments members picks valid supervisor place output None clock clock' held held' r does =
    ((λ _. refl), (λ _. does.0))
refused_arguments members picks valid supervisor place output (Some setting) clock clock' held held'
    (Ok done) does = (
      (λ same. absurd (unlike_bad (Ok done) done refl same)),
      (λ none. absurd (some_setting
          setting none)),
    )
refused_arguments members picks valid supervisor place output (Some setting) clock clock' held held'
    (Err e) does = (
      (λ same. absurd (bad_arguments picks (meeting valid members clock clock')
          supervisor place output setting e (Err e) does.1 refl same)),
      (λ none. absurd (some_setting setting none)),
    )

by_status : (r : Result (Unit {0}) LiveError) → end_status r ≡ 1 → r ≡ Err errors.BadArguments
by_status (Ok done) one = cc
by_status (Err errors.BadArguments) one = refl
by_status (Err errors.OutOfMemory) one = cc
by_status (Err errors.WriteFailed) one = cc
by_status (Err errors.Rejected) one = cc
by_status (Err errors.Unsupported) one = cc
by_status (Err errors.TimedOut) one = cc
by_status (Err errors.NoSupervisor) one = cc
by_status (Err errors.NoPlace) one = cc

-- the same by the status
pub status_of_arguments : (status : ℕ) (r : Result (Unit {0}) LiveError) (said : Option LiveSetting)
    → status ≡ end_status r → (r ≡ Err errors.BadArguments) ↔ (said ≡ None)
    → (status ≡ 1) ↔ (said ≡ None)
status_of_arguments status r said is arguments = (
  (λ one. arguments.0 (by_status r (sym is ∙ one))),
  (λ none. is ∙ ap end_status (arguments.1 none)),
)
