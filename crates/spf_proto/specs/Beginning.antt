-- What a call begins with.
use Rattle.std.specs.Prelude.{ℕ, ℤ, pos, List, Option, None}
use Rattle.spf_feed.specs.declared.ready.Ready.TheVariants as readiness
use Rattle.spf_feed.specs.Items.{Rules, rules_with}
use Rattle.spf_feed.specs.Limits.{default_limits}

-- which loan the source is, the bytes that it has left and how often it failed; what decides
-- whether items are accepted, the moment of the session, and the limit of messages
pub record Beginning : Type 0 where
  pub loan : ℕ
  pub left : Option (List ℕ)
  pub failures : ℕ
  pub rules : Rules
  pub start : ℤ
  pub max : ℕ

abbrev pub no_beginning : Beginning
no_beginning = record {
  loan = 0;
  left = None;
  failures = 0;
  rules = rules_with default_limits None readiness.Usable None;
  start = pos 0;
  max = 0;
}
