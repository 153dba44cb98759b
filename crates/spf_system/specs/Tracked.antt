-- Errors of one kind in a row.
use Rattle.std.specs.Prelude.{◌+◌, ◌-◌, ◌^◌, min, Bool, true, false, nat_lt, if◌then◌else◌, Option}
use Rattle.std.specs.Prelude.{None, Some}
use Rattle.spf_system.specs.declared.error_tracker.ErrorKey.{ErrorKey}
use Rattle.spf_system.specs.declared.error_tracker.ErrorKey.TheVariants.{ClientCreation}
use Rattle.spf_system.specs.declared.error_tracker.ErrorKey.TheVariants.{StreamConnect}
use Rattle.spf_system.specs.declared.error_tracker.ErrorKey.TheVariants.{UpdateRejected}
use Rattle.spf_system.specs.declared.error_tracker.ErrorKey.TheVariants.{NoIdentityIssued}
use Rattle.spf_system.specs.declared.error_tracker.ErrorTracker.{ErrorTracker}

abbrev pub same_key : ErrorKey → ErrorKey → Bool
same_key ClientCreation ClientCreation = true
same_key StreamConnect StreamConnect = true
same_key UpdateRejected UpdateRejected = true
same_key NoIdentityIssued NoIdentityIssued = true
same_key _ _ = false

-- whether the last error was of this kind
abbrev pub is_last : Option ErrorKey → ErrorKey → Bool
is_last None key = false
is_last (Some last) key = same_key last key

-- another kind than the last, or fewer than the maximum in a row
abbrev pub is_news : ErrorTracker → ErrorKey → Bool
is_news tracker key = if is_last tracker.last key then nat_lt tracker.count tracker.max else true

-- the count begins at 1 with another kind, and stops at the end of its type
abbrev pub tracked_after : ErrorTracker → ErrorKey → ErrorTracker
tracked_after tracker key = record {
  max = tracker.max;
  count = if is_last tracker.last key then min (tracker.count + 1) (2 ^ 32 - 1) else 1;
  last = Some key;
}
