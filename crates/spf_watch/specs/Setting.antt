-- What the arguments of a session of X.509 updates set, and the settings without options.
use Rattle.std.specs.Prelude.{ℕ, ℤ, List, Option, None}
use Rattle.spf_feed.specs.declared.limits.ResourceLimits.{ResourceLimits}
use Rattle.spf_feed.specs.Limits.{default_limits}
use Rattle.spf_jwt.specs.Limits as jwt_limits
use Rattle.spf_feed.specs.declared.ready.Ready.{Ready}
use Rattle.spf_feed.specs.declared.ready.Ready.TheVariants as readiness
use Rattle.spf_watch.specs.declared.arguments.JwtArguments.{JwtArguments}

-- the limits, the moment by which an update must be accepted, the maximum number of frames, the
-- hint of the SVID to take, and what the first update must hold
pub record Setting : Type 0 where
  pub limits : ResourceLimits
  pub deadline : Option ℤ
  pub max_frames : ℕ
  pub hint : Option (List ℕ)
  pub ready : Ready

-- the setting of a session without options
abbrev pub default_setting : Setting
default_setting = record {
  limits = default_limits;
  deadline = None;
  max_frames = 1000000;
  hint = None;
  ready = readiness.Usable;
}

-- the setting of a session of JWT bundles without options
abbrev pub default_jwt_setting : JwtArguments
default_jwt_setting = record {
  limits = jwt_limits.default_limits;
  deadline = None;
  max_frames = 1000000;
}
