-- What a live run does, and why it fails.
use Rattle.std.specs.Prelude.{◌≡◌, ℕ, ◌*◌, List, [], map, reverse, Option, None}
use Rattle.std.specs.Prelude.{Some, IfSome, Result, Err, IfOk, IfErr}
use Rattle.std.specs.Duration.{as_nanos}
use Rattle.std.specs.Option.{option_map}
use Rattle.spf_api.specs.declared.endpoint_error.EndpointError.{EndpointError}
use Rattle.spf_api.specs.declared.error.WorkloadApiError.{WorkloadApiError}
use Rattle.spf_board.specs.Lists.{steps_of}
use Rattle.spf_link.specs.Connecting.{Member}
use Rattle.spf_x509.specs.Svid.{Svid}
use Rattle.spf_feed.specs.Pick.{first_with_hint}
use Rattle.spf_feed.specs.Steps.{plain}
use Rattle.spf_feed.specs.declared.state.X509SourceError.TheVariants as source
use Rattle.spf_feeder.specs.Coming.{AllYielded}
use Rattle.spf_feeder.specs.Governed.{rules_by}
use Rattle.spf_feeder.specs.Times.{GivesMoments}
use Rattle.spf_feeder.specs.Opened.{Meeting, meeting}
use Rattle.spiffe.specs.declared.builder.Settings.{Settings}
use Rattle.spiffe.specs.Building.{SyncFails}
use Rattle.spiffe.specs.Records.{Assigned, IsOf, IsRecord, Recorded}
use Rattle.spf_program.specs.Live.{LiveSetting}
use Rattle.spf_program.specs.Reports.{IsEndReported}
use Rattle.spf_program.specs.Streams.{Side}
use Rattle.spf_live.specs.Ends.{end_status, error_line}
use Rattle.spf_live.specs.Printing.{Moments, Prints}
use Rattle.spiffe.specs.Passes.{Seen}
use Rattle.spf_live.specs.declared.error.LiveError.{LiveError}
use Rattle.spf_live.specs.declared.error.LiveError.TheVariants as errors

-- ---- what a run does

-- Lines are printed. Where all went well there is a record of the job, whose steps are those of
-- what is seen last, and so begin with those of the list of each line.
pub record Follows {S K : Type 0} (members : S → Option (List Member))
    (picks : K → List Svid → Option ℕ) (job : Assigned S K) (count : ℕ) (clock clock' : Moments)
    (held held' : Option (List ℕ)) (r : Result (Unit {0}) LiveError) : Type 0 where
  pub first : Seen
  pub last : Seen
  pub prints : Prints first last count clock clock' held held' r
  pub recorded : IfOk r (λ _. (found : Recorded K) × IsRecord picks found
      × IsOf members picks job found × (map plain found.steps ≡ steps_of last))

-- A record of a run by these arguments, whose steps are those of what is seen last: its events are
-- those that the connector yielded, and its moments those that the clock gave before the lines.
pub record IsRecordOf {K : Type 0} (members : Option (List Member))
    (picks : K → List Svid → Option ℕ) (setting : LiveSetting) (clock between : Moments)
    (last : Seen) (r : Recorded K) : Type 0 where
  pub kept : IsRecord picks r
  pub limits : r.rules.settings.limits ≡ setting.limits
  pub ready : r.rules.settings.ready ≡ setting.ready
  pub picker : option_map picks r.rules.picker ≡ option_map first_with_hint setting.hint
  pub moments : GivesMoments clock between [] r.run
  pub yielded : IfSome members (λ m. AllYielded (rules_by picks r.rules) m (reverse
      r.run))
  pub steps_are : map plain r.steps ≡ steps_of last

-- Lines are printed, by the clock after the initial synchronisation. Where all went well there is a
-- record of the run.
pub record Runs {K : Type 0} (members : Option (List Member)) (picks : K → List Svid → Option ℕ)
    (setting : LiveSetting) (clock clock' : Moments) (held held' : Option (List ℕ))
    (r : Result (Unit {0}) LiveError) : Type 0 where
  pub first : Seen
  pub last : Seen
  pub between : Moments
  pub prints : Prints first last setting.lines between clock' held held' r
  pub recorded : IfOk r (λ _. (found : Recorded K)
      × IsRecordOf members picks setting clock between last found)

-- ---- why a run fails

-- a builder is set to what the arguments say
pub record IsSetTo {K : Type 0} (picks : K → List Svid → Option ℕ) (setting : LiveSetting)
    (set : Settings K) : Type 0 where
  pub limits : set.limits ≡ setting.limits
  pub ready : set.ready ≡ setting.ready
  pub picker : option_map picks set.picker ≡ option_map first_with_hint setting.hint
  pub timeout : option_map as_nanos set.timeout
      ≡ option_map (λ seconds. seconds * 1_000_000_000) setting.timeout

-- Why a run of a setting fails, by what its initial synchronisation met, and by what the refusal of
-- a supervisor, of a place and of the output comes from.
abbrev pub FailsBy : {K : Type 0} → (K → List Svid → Option ℕ) → LiveSetting
    → Meeting → Type 0 → Type 0 → Type 0 → LiveError → Type 0
FailsBy picks setting met supervisor place output errors.BadArguments = ⊥
FailsBy picks setting met supervisor place output errors.OutOfMemory = Unit {0}
FailsBy picks setting met supervisor place output errors.WriteFailed = output
FailsBy {K} picks setting met supervisor place output errors.Rejected =
    (set : Settings K) × IsSetTo picks setting set
    × (e : WorkloadApiError) × SyncFails picks set met (source.Source e)
FailsBy {K} picks setting met supervisor place output errors.Unsupported =
    (set : Settings K) × IsSetTo picks setting set
    × (e : WorkloadApiError) × SyncFails picks set met (source.UnsupportedRpc e)
FailsBy {K} picks setting met supervisor place output errors.TimedOut =
    (set : Settings K) × IsSetTo picks setting set
    × SyncFails picks set met source.InitialSyncTimeout
FailsBy picks setting met supervisor place output errors.NoSupervisor = supervisor
FailsBy picks setting met supervisor place output errors.NoPlace = place

-- why printing and joining fail, by what the refusal of a place and of the output comes from
abbrev pub FollowFails : Type 0 → Type 0 → LiveError → Type 0
FollowFails place output errors.OutOfMemory = Unit {0}
FollowFails place output errors.WriteFailed = output
FollowFails place output errors.NoPlace = place
FollowFails place output _ = ⊥

-- ---- the whole

-- What is done by what the arguments say: where they are not those of a live run, nothing is
-- printed.
abbrev pub Does : {K : Type 0} → Option (List Member) → (K → List Svid → Option ℕ)
    → Result (Unit {0}) EndpointError → Type 0 → Type 0 → Type 0 → Option LiveSetting
    → Moments → Moments → Option (List ℕ) → Option (List ℕ) → Result (Unit {0}) LiveError → Type 0
Does members picks valid supervisor place output None clock clock' held held' r =
    (r ≡ Err errors.BadArguments) × (held' ≡ held)
Does members picks valid supervisor place output (Some setting) clock clock' held held' r =
    Runs members picks setting clock clock' held held' r
    × IfErr r (FailsBy picks setting (meeting valid members clock clock') supervisor place output)

-- A run did this, ended with this status, and reported it.
pub record Ended {K : Type 0} (members : Option (List Member)) (picks : K → List Svid → Option ℕ)
    (valid : Result (Unit {0}) EndpointError) (supervisor place output : Type 0)
    (setting : Option LiveSetting) (clock clock' : Moments) (held held' : Option (List ℕ))
    (stderr stderr' : Side) (status : ℕ) : Type 0 where
  pub end : Result (Unit {0}) LiveError
  pub does : Does members picks valid supervisor place output setting clock clock' held held' end
  pub status_is : status ≡ end_status end
  pub reported : IsEndReported error_line stderr stderr' end
