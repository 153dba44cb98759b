-- The options of a live run.
use Rattle.std.specs.Prelude.{ℕ, not, List, [], ◌∷◌, Option, None, Some, if◌then◌else◌, codes}
use Rattle.spf_io.specs.Option.{◌>>=◌}
use Rattle.spf_feed.specs.declared.limits.ResourceLimits.{ResourceLimits}
use Rattle.spf_feed.specs.Limits.{default_limits}
use Rattle.spf_feed.specs.declared.ready.Ready.{Ready}
use Rattle.spf_feed.specs.declared.ready.Ready.TheVariants as readiness
use Rattle.spf_program.specs.Pairs.{are_pairs, is_one_of, option_in}
use Rattle.spf_program.specs.Values.{count_in, limit_in, ready_in, seconds_in, text_in}

-- the limits, the hint of the SVID to take, what the first update must hold, the seconds that the
-- initial synchronisation may take, and how many lines to print
pub record LiveSetting : Type 0 where
  pub limits : ResourceLimits
  pub hint : Option (List ℕ)
  pub ready : Ready
  pub timeout : Option ℕ
  pub lines : ℕ

-- the names of the options
unfoldable pub live_names : List (List ℕ)
live_names =
    codes "--hint" ∷ codes "--max-svids" ∷ codes "--max-bundles" ∷ codes "--max-bundle-bytes"
    ∷ codes "--max-crl-bytes" ∷ codes "--ready" ∷ codes "--timeout" ∷ codes "--lines" ∷ []

-- the limits that pairs set
unfoldable pub limits_in : List (List ℕ) → Option ResourceLimits
limits_in arguments =
    option_in limit_in default_limits.max_svids (codes "--max-svids") arguments >>= λ svids.
    option_in limit_in default_limits.max_bundles (codes "--max-bundles") arguments >>= λ bundles.
    option_in limit_in default_limits.max_bundle_der_bytes (codes "--max-bundle-bytes") arguments
    >>= λ octets.
    option_in limit_in default_limits.max_crl_bytes (codes "--max-crl-bytes") arguments
    >>= λ crls. Some (record {
      max_svids = svids;
      max_bundles = bundles;
      max_bundle_der_bytes = octets;
      max_crl_bytes = crls;
    })

-- the setting of a live run, each of whose options comes at most once
unfoldable pub live_setting : List (List ℕ) → Option LiveSetting
live_setting arguments =
    if not (are_pairs (is_one_of live_names) arguments) then None
    else (limits_in arguments >>= λ limits.
    option_in text_in None (codes "--hint") arguments >>= λ hint.
    option_in ready_in readiness.Usable (codes "--ready") arguments >>= λ ready.
    option_in seconds_in None (codes "--timeout") arguments >>= λ timeout.
    option_in count_in 1 (codes "--lines") arguments >>= λ lines. Some (record {
      limits = limits;
      hint = hint;
      ready = ready;
      timeout = timeout;
      lines = lines;
    }))
