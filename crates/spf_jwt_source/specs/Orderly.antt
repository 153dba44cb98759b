-- What the events of a session of JWT bundles are.
use Rattle.std.specs.Prelude.{◌≡◌, List, [], ◌∷◌, Some}
use Rattle.spf_feeder.specs.Orderly.{IsOrderlyOf, IsSyncedOf, IsTimedOf}
use Rattle.spf_jwt_feed.specs.Items.{Event, Rules}
use Rattle.spf_jwt_feed.specs.Steps.{MayFollow, PlainStep}
use Rattle.spf_jwt_source.specs.Kinds.{jwt}

abbrev pub IsOrderly : Rules → List Event → Type 0
IsOrderly rules past = IsOrderlyOf (jwt rules) past

abbrev pub IsTimed : Rules → List Event → Type 0
IsTimed rules past = IsTimedOf (jwt rules) past

abbrev pub IsSynced : Rules → List Event → Type 0
IsSynced rules past = IsSyncedOf (jwt rules) past

-- there is exactly one step, which may be the first of all
abbrev pub IsOneStep : List PlainStep → Type 0
IsOneStep steps = (step : PlainStep) × (steps ≡ step ∷ []) × MayFollow (Some []) step
