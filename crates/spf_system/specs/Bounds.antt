-- The bounds of delays.
use Rattle.std.specs.Prelude.{◌≡◌, nat_lt, if◌then◌else◌}
use Rattle.std.specs.Duration.{as_nanos}
use Rattle.spf_system.specs.declared.reconnect_config.ReconnectConfig.{ReconnectConfig}

-- the bounds, swapped where the least is above the greatest
abbrev pub normalized : ReconnectConfig → ReconnectConfig
normalized bounds =
    if nat_lt (as_nanos bounds.max_backoff) (as_nanos bounds.min_backoff)
    then record { min_backoff = bounds.max_backoff; max_backoff = bounds.min_backoff }
    else bounds

-- 200 milliseconds to 10 seconds
pub record IsDefault (bounds : ReconnectConfig) : Type 0 where
  pub least : as_nanos bounds.min_backoff ≡ 200_000_000
  pub greatest : as_nanos bounds.max_backoff ≡ 10_000_000_000
