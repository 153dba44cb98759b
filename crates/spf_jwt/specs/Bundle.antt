-- The keys of a trust domain, and the bundles of
-- several (SPIFFE Trust Domain and Bundle section 4).
use Rattle.std.specs.Prelude.{◌≡◌, ℕ, map, Bool, ◌&&◌, nat_eq, List, [], Option, None, Some, Result}
use Rattle.std.specs.Prelude.{Ok, String, string_bytes}
use Rattle.std.specs.Cmp.Lexicographic.{pointwise}
use Rattle.std.specs.Arc.{arc_value}
use Rattle.std.specs.declared.sync.Arc.{Arc}
use Rattle.std.specs.declared.alloc.Global.{Global}
use Rattle.spf_io.specs.Rule.{◌>>=◌}
use Rattle.spf_api.specs.declared.jwt_error.JwtBundleError.{JwtBundleError}
use Rattle.spf_jwt.specs.Authority.{Authority, key_set_of}
use Rattle.spf_x509.specs.Bundle.{with_entries}

-- a trust domain and its keys, each with its `kid`, in the order of the `kid`
pub record Bundle : Type 0 where
  pub domain : List ℕ
  pub authorities : List (List ℕ × Authority)

abbrev pub authority_eq : Authority → Authority → Bool
authority_eq a b = pointwise nat_eq a.key_id b.key_id && pointwise nat_eq a.jwk b.jwk

abbrev pub key_eq : List ℕ × Authority → List ℕ × Authority → Bool
key_eq p q = pointwise nat_eq p.0 q.0 && authority_eq p.1 q.1

abbrev pub bundle_eq : Bundle → Bundle → Bool
bundle_eq a b = pointwise nat_eq a.domain b.domain && pointwise key_eq a.authorities b.authorities

-- an entry of a bundle set: the trust domain, and its bundle
abbrev pub entry_eq : List ℕ × Bundle → List ℕ × Bundle → Bool
entry_eq p q = pointwise nat_eq p.0 q.0 && bundle_eq p.1 q.1

abbrev pub set_eq : List (List ℕ × Bundle) → List (List ℕ × Bundle) → Bool
set_eq = pointwise entry_eq

-- an entry of a map by `kid`
abbrev pub keyed : String Global × Authority → List ℕ × Authority
keyed e = (string_bytes e.0, e.1)

-- an entry without its sharing
abbrev pub plain_entry : List ℕ × Arc Bundle Global → List ℕ × Bundle
plain_entry e = (e.0, arc_value e.1)

-- the keys with those added in order: the last one of a `kid` stands
abbrev pub with_authorities : List (List ℕ × Authority) → List Authority
    → List (List ℕ × Authority)
with_authorities held authorities =
    with_entries held (map (λ (a : Authority). (a.key_id, a)) authorities)

-- the bundle of a trust domain and the keys that were read, or why they were not
abbrev pub bundle_of : List ℕ → Result (List Authority) JwtBundleError
    → Result Bundle JwtBundleError
bundle_of domain read =
    read >>= λ authorities.
    Ok (record { domain = domain; authorities = with_authorities [] authorities })

-- the bundle is that of the key set that is kept with it, where one is
abbrev pub IsReadFrom : Option (List ℕ) → Bundle → Type 0
IsReadFrom None bundle = Unit {0}
IsReadFrom (Some jwks) bundle = bundle_of bundle.domain (key_set_of jwks) ≡ Ok bundle
