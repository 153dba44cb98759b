-- Which contexts keep the limits.
use Rattle.std.specs.Prelude.{ℕ, ◌-◌, ◌^◌, nat_lt, min, sum_by, List, [], ◌∷◌, length}
use Rattle.std.specs.Prelude.{if◌then◌else◌, Option, None, Some, Result, Ok, Err}
use Rattle.spf_io.specs.Rule.{◌>>=◌}
use Rattle.spf_x509.specs.Bundle.{Bundle}
use Rattle.spf_x509.specs.Context.{Context}
use Rattle.spf_feed.specs.declared.limits.LimitKind.{LimitKind}
use Rattle.spf_feed.specs.declared.limits.LimitKind.TheVariants.{MaxSvids, MaxBundles}
use Rattle.spf_feed.specs.declared.limits.LimitKind.TheVariants.{MaxBundleDerBytes, MaxCrlBytes}
use Rattle.spf_feed.specs.declared.limits.LimitBroken.{LimitBroken}
use Rattle.spf_feed.specs.declared.limits.ResourceLimits.{ResourceLimits}

-- 100 SVIDs, 200 bundles, 4 MiB of authorities in each bundle, and 4 MiB of revocation lists
abbrev pub default_limits : ResourceLimits
default_limits = record {
  max_svids = Some 100;
  max_bundles = Some 200;
  max_bundle_der_bytes = Some (2 ^ 22);
  max_crl_bytes = Some (2 ^ 22);
}

-- a limit is passed only above its number
abbrev pub within_limit : LimitKind → Option ℕ → ℕ → Result (Unit {0}) LimitBroken
within_limit kind None actual = Ok tt
within_limit kind (Some limit) actual =
    if nat_lt limit actual then Err (record { kind = kind; limit = limit; actual = actual })
    else Ok tt

-- the sum of the lengths, which stops at the end of its type
abbrev pub octets_in : List (List ℕ) → ℕ
octets_in fields = min (sum_by length fields) (2 ^ 64 - 1)

-- the limit of each bundle, in the order of the trust domains
abbrev pub within_bundles : Option ℕ → List (List ℕ × Bundle) → Result (Unit {0}) LimitBroken
within_bundles limit [] = Ok tt
within_bundles limit (e ∷ es) =
    within_limit MaxBundleDerBytes limit (octets_in e.1.authorities)
    >>= λ _. within_bundles limit es

-- the first limit that is passed, as kind, limit and amount
unfoldable pub within : ResourceLimits → Context → Result (Unit {0}) LimitBroken
within limits context =
    within_limit MaxSvids limits.max_svids (length context.svids) >>= λ _.
    within_limit MaxBundles limits.max_bundles (length context.bundles) >>= λ _.
    within_bundles limits.max_bundle_der_bytes context.bundles >>= λ _.
    within_limit MaxCrlBytes limits.max_crl_bytes (octets_in context.crls)
