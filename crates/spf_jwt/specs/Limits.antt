-- Which bundle sets keep the limits.
use Rattle.std.specs.Prelude.{ℕ, ◌-◌, ◌^◌, nat_lt, min, sum_by, List, [], ◌∷◌, length, codes}
use Rattle.std.specs.Prelude.{if◌then◌else◌, Option, None, Some, Result, Ok, Err}
use Rattle.spf_io.specs.Rule.{◌>>=◌}
use Rattle.spf_jwt.specs.Authority.{Authority}
use Rattle.spf_jwt.specs.Bundle.{Bundle}
use Rattle.spf_jwt.specs.declared.limits.JwtLimitKind.{JwtLimitKind}
use Rattle.spf_jwt.specs.declared.limits.JwtLimitKind.TheVariants.{MaxBundles, MaxBundleJwksBytes}
use Rattle.spf_jwt.specs.declared.limits.JwtLimitBroken.{JwtLimitBroken}
use Rattle.spf_jwt.specs.declared.limits.JwtResourceLimits.{JwtResourceLimits}

-- 200 bundles, and 4 MiB of keys in each bundle
abbrev pub default_limits : JwtResourceLimits
default_limits = record { max_bundles = Some 200; max_bundle_jwks_bytes = Some (2 ^ 22) }

abbrev pub limit_kind_name : JwtLimitKind → List ℕ
limit_kind_name MaxBundles = codes "max_bundles"
limit_kind_name MaxBundleJwksBytes = codes "max_bundle_jwks_bytes"

-- a limit is passed only above its number
abbrev pub within_limit : JwtLimitKind → Option ℕ → ℕ → Result (Unit {0}) JwtLimitBroken
within_limit kind None actual = Ok tt
within_limit kind (Some limit) actual =
    if nat_lt limit actual then Err (record { kind = kind; limit = limit; actual = actual })
    else Ok tt

-- the sum of the lengths of the JSON texts, which stops at the end of its type
abbrev pub octets_in : List (List ℕ × Authority) → ℕ
octets_in keys = min (sum_by (λ (k : List ℕ × Authority). length k.1.jwk) keys) (2 ^ 64 - 1)

-- the limit of each bundle, in the order of the trust domains
abbrev pub within_bundles : Option ℕ → List (List ℕ × Bundle) → Result (Unit {0}) JwtLimitBroken
within_bundles limit [] = Ok tt
within_bundles limit (e ∷ es) =
    within_limit MaxBundleJwksBytes limit (octets_in e.1.authorities)
    >>= λ _. within_bundles limit es

-- the first limit that is passed, as kind, limit and amount
unfoldable pub within : JwtResourceLimits → List (List ℕ × Bundle)
    → Result (Unit {0}) JwtLimitBroken
within limits set =
    within_limit MaxBundles limits.max_bundles (length set) >>= λ _.
    within_bundles limits.max_bundle_jwks_bytes set
