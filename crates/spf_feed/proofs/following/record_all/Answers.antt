use Rattle.std.proofs.Common.{Ok, refl}
use Rattle.std.proofs.lemmas.List.{append-nil}
use Rattle.std.specs.Option.{option_map, option_to_list}
use Rattle.spf_view.specs.Sessions.{Grows}
use Rattle.spf_view.proofs.FollowLemmas.{grows_none, grows_trans}
use Rattle.spf_feed.specs.declared.record.MetricsRecord.TheVariants as records
use Rattle.spf_feed.proofs.HandLemmas.{none_since, one_more, refused_same, stopped_after}
use Rattle.spf_feed.proofs.HandLemmas.{stopped_there}
use Rattle.spf_feed.proofs.following.record_all.Given.{Over}
use Rattle.spf_feed.proofs.following.record_all.Goals.{in-Some+in_ok-record_error, in_default}
use Rattle.spf_feed.proofs.following.record_all.Goals.{Joined-records}
use Rattle.spf_feed.proofs.following.record_all.Goals as goal

-- the error was recorded, where there is one
first : (g : Over) (c : Joined-records g)
    → Grows (g.M.MetricsRecorder.records c.args.recorder.now)
    (g.M.MetricsRecorder.records c.match-records.recorder)
    (option_to_list (option_map records.Error c.args.records.error))
first g c =
    elim c.match-records.branch [
      | in-Some+in_ok-record_error w ↦
          rw (w.recorder-is, w.in-Some.is)
          (one_more _ _ (Ok tt) _ w.in_ok-record_error.ensures)
      | in_default w ↦
          rw (w.recorder-is, w.in_default.is) (grows_none _ _ refl)
    ]

pub returns-in_err-record_error : goal.returns-in_err-record_error
returns-in_err-record_error g c =
    stopped_there _ _ _ _ c.from_residual.ensures.0
    (none_since _ _ _ (refused_same _ _ _ _ c.in_err-record_error.ensures))

pub returns-in_err-record_one : goal.returns-in_err-record_one
returns-in_err-record_one g c =
    stopped_there _ _ _ _ c.from_residual-in_err-record_one.ensures.0
    (stopped_after _ _ _ _ _ (first g (goal.at.returns-in_err-record_one g c).Joined-records)
    (refused_same _ _ _ _ c.in_err-record_one.ensures))

pub returns-in_ok-record_one : goal.returns-in_ok-record_one
returns-in_ok-record_one g c =
    rw c.in-Some-end.is
    (grows_trans _ _ _ _ _ (first g (goal.at.returns-in_ok-record_one g c).Joined-records)
    (one_more _ _ (Ok tt) _ c.in_ok-record_one.ensures))

pub returns-in_default-end : goal.returns-in_default-end
returns-in_default-end g c =
    rw (c.in_default-end.is, append-nil)
    (first g (goal.at.returns-in_default-end g c).Joined-records)
