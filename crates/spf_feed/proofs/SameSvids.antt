-- The equality of SVIDs in code is equality by their fields.
use Rattle.std.proofs.Common.{◌≡◌, ◌&&◌, ap}
use Rattle.std.specs.Prelude.{nat_eq}
use Rattle.std.specs.Cmp.Lexicographic.{pointwise}
use Rattle.std.specs.Option.{option_eq}
use Rattle.std.proofs.lemmas.Bool.Decides.{Decides-and, Decides-like}
use Rattle.spf_io.specs.Exact.{IsExact}
use Rattle.spf_io.proofs.Exact.{bytes_exact}
use Rattle.spf_id.specs.Id.{Id}
use Rattle.spf_id.proofs.Exact.{id_eq, id_exact}
use Rattle.spf_x509.specs.Context.{svid_eq}
use Rattle.spf_x509.specs.Svid.{Svid}
use Rattle.spf_x509.proofs.BagLemmas.{both_ways}
use Rattle.spf_feed.specs.Material.{same_id, same_svid}

same_id_exact : IsExact Id same_id
same_id_exact a b =
    Decides-like _
    (λ (e : (a.domain ≡ b.domain) × (a.path ≡ b.path)). λ i. record {
      domain = e.0 i;
      path = e.1 i;
    }) (λ (e : a ≡ b). (ap (λ (x : Id). x.domain) e, ap (λ (x : Id). x.path) e))
    (Decides-and (pointwise nat_eq a.domain b.domain) (pointwise nat_eq a.path b.path)
    (bytes_exact a.domain b.domain) (bytes_exact a.path b.path))

-- two tests that decide equality are one
ids_same : (a b : Id) → id_eq a b ≡ same_id a b
ids_same a b =
    both_ways (id_eq a b) (same_id a b) (λ e. (same_id_exact a b).1 ((id_exact a b).0 e))
    (λ e. (id_exact a b).1 ((same_id_exact a b).0 e))

pub svids_same_at : (a b : Svid) → svid_eq a b ≡ same_svid a b
svids_same_at a b =
    ap (λ t. t && (option_eq (pointwise nat_eq) a.hint b.hint
    && (pointwise (pointwise nat_eq) a.chain b.chain && pointwise nat_eq a.key b.key)))
    (ids_same a.id b.id)

pub by_fields : svid_eq ≡ same_svid
by_fields = λ i a b. svids_same_at a b i
