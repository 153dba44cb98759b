-- A setting by its options.
use Rattle.std.proofs.Common.{◌≡◌, refl, ℕ, true, List, Option, None, Some}
use Rattle.std.specs.Prelude.{codes}
use Rattle.spf_feed.specs.declared.limits.ResourceLimits.{ResourceLimits}
use Rattle.spf_feed.specs.Limits.{default_limits}
use Rattle.spf_feed.specs.declared.ready.Ready.{Ready}
use Rattle.spf_feed.specs.declared.ready.Ready.TheVariants as readiness
use Rattle.spf_program.specs.Live.{limits_in, live_names, live_setting}
use Rattle.spf_program.specs.Pairs.{are_pairs, is_one_of, option_in}
use Rattle.spf_program.specs.Values.{count_in, limit_in, ready_in, seconds_in, text_in}

pub limits_read : (arguments : List (List ℕ)) (a b c d : Option ℕ)
    → Some a ≡ option_in limit_in default_limits.max_svids (codes "--max-svids") arguments
    → Some b ≡ option_in limit_in default_limits.max_bundles (codes "--max-bundles") arguments
    → Some c ≡ option_in limit_in default_limits.max_bundle_der_bytes (codes "--max-bundle-bytes")
    arguments
    → Some d ≡ option_in limit_in default_limits.max_crl_bytes (codes "--max-crl-bytes") arguments
    → Some (record {
      max_svids = a;
      max_bundles = b;
      max_bundle_der_bytes = c;
      max_crl_bytes = d;
    }) ≡ limits_in arguments
unfolding limits_in
limits_read arguments a b c d p q r s = rw (← p, ← q, ← r, ← s) refl

pub setting_read : (arguments : List (List ℕ)) (limits : ResourceLimits) (hint : Option (List ℕ))
    (ready : Ready) (timeout : Option ℕ) (lines : ℕ)
    → are_pairs (is_one_of live_names) arguments ≡ true
    → Some limits ≡ limits_in arguments
    → Some hint ≡ option_in text_in None (codes "--hint") arguments
    → Some ready ≡ option_in ready_in readiness.Usable (codes "--ready") arguments
    → Some timeout ≡ option_in seconds_in None (codes "--timeout") arguments
    → Some lines ≡ option_in count_in 1 (codes "--lines") arguments
    → Some (record {
      limits = limits;
      hint = hint;
      ready = ready;
      timeout = timeout;
      lines = lines;
    }) ≡ live_setting arguments
unfolding live_setting
setting_read arguments limits hint ready timeout lines p q r s t u =
    rw (p, ← q, ← r, ← s, ← t, ← u) refl
