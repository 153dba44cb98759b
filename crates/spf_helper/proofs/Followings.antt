-- A session that was followed from no step on.
use Rattle.std.proofs.Common.{◌≡◌, ℕ, List, [], Option, None, Some, Result}
use Rattle.std.proofs.Common.{subst}
use Rattle.spf_view.specs.Sessions.{Followed}
use Rattle.spf_feed.specs.declared.follow_error.FollowError.{FollowError}
use Rattle.spf_feed.specs.declared.limits.ResourceLimits.{ResourceLimits}
use Rattle.spf_feed.specs.declared.record.MetricsRecord.{MetricsRecord}
use Rattle.spf_feed.specs.Run.{stream, outputs, end_for}
use Rattle.spf_feed.specs.Steps.{PlainStep}
use Rattle.spf_helper.specs.Runs.{Follows, helper_rules}

pub follows : (limits : ResourceLimits) (max : ℕ) (left left' held held' : Option (List ℕ))
    (steps steps' : List PlainStep) (records : Option (List MetricsRecord))
    (result r : Result ℕ FollowError) → steps ≡ [] → result ≡ r
    → Followed (stream (helper_rules limits)) (outputs (helper_rules limits)) max
    (record { left = left; held = held; steps = Some steps; records = None })
    (record { left = left'; held = held'; steps = Some steps'; records = records })
    (end_for result) → Follows limits max left left' held held' steps' r
follows limits max left left' held held' steps steps' records result r none is followed = record {
  records = records;
  followed =
      subst (λ (x : Result ℕ FollowError).
      Followed (stream (helper_rules limits)) (outputs (helper_rules limits)) max
      (record { left = left; held = held; steps = Some []; records = None })
      (record { left = left'; held = held'; steps = Some steps'; records = records })
      (end_for x)) is
      (subst (λ (l : List PlainStep).
      Followed (stream (helper_rules limits)) (outputs (helper_rules limits)) max
      (record { left = left; held = held; steps = Some l; records = None })
      (record { left = left'; held = held'; steps = Some steps'; records = records })
      (end_for result)) none followed);
}
