-- What one update brings: SVIDs in order, bundles by trust domain, and CRLs.
use Rattle.std.specs.Prelude.{ℕ, Bool, ◌&&◌, nat_eq, List}
use Rattle.std.specs.Cmp.Lexicographic.{pointwise}
use Rattle.spf_x509.specs.Svid.{Svid}
use Rattle.spf_x509.specs.Bundle.{Bundle, set_eq}
use Rattle.spf_x509.specs.contracts.svid.X509SvidPartialEq.TheImpl as svid

pub record Context : Type 0 where
  pub svids : List Svid
  pub bundles : List (List ℕ × Bundle)
  pub crls : List (List ℕ)

-- equal in ID, hint, chain and key
abbrev pub svid_eq : Svid → Svid → Bool
svid_eq = svid.ghosts.eq

abbrev pub context_eq : Context → Context → Bool
context_eq a b =
    pointwise svid_eq a.svids b.svids
    && (set_eq a.bundles b.bundles && pointwise (pointwise nat_eq) a.crls b.crls)
