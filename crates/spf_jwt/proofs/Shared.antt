-- The bundles of entries, each added in order, as a loop adds them.
use Rattle.std.proofs.Common.{◌≡◌, ℕ, List, [], ◌∷◌, ◌++◌, Ok, Err, refl, sym, ap, ◌∙◌}
use Rattle.spf_io.specs.Rule.{◌>>=◌, each}
use Rattle.spf_io.proofs.Each.{each-append}
use Rattle.spf_x509.specs.Bundle.{with_entry}
use Rattle.spf_api.specs.declared.error.WorkloadApiError.{WorkloadApiError}
use Rattle.spf_api.specs.declared.response.BundleEntry.{BundleEntry}
use Rattle.spf_jwt.specs.Bundle.{Bundle}
use Rattle.spf_jwt.specs.Responses.{bundles_added, named_bundle_of, with_bundles}
use Rattle.spf_jwt.proofs.Entries.{one_more_bundle}

-- the entries so far are read, and their bundles added
pub record Added (entries : List BundleEntry) (set : List (List ℕ × Bundle)) : Type 0 where
  pub bundles : List Bundle
  pub read : each named_bundle_of entries ≡ Ok bundles
  pub set_is : set ≡ with_bundles [] bundles

-- one more entry
pub one_added : (entries : List BundleEntry) (entry : BundleEntry)
    (set next : List (List ℕ × Bundle)) (b : Bundle)
    → Added entries set → named_bundle_of entry ≡ Ok b → next ≡ with_entry set b.domain b
    → Added (entries ++ entry ∷ []) next
one_added entries entry set next b so_far is put = record {
  bundles = so_far.bundles ++ b ∷ [];
  read = each-append named_bundle_of entries (entry ∷ []) ∙ (rw (so_far.read, is) refl);
  set_is = put ∙ ap (λ s. with_entry s b.domain b) so_far.set_is
      ∙ sym (one_more_bundle [] so_far.bundles b);
}

-- an entry that breaks a rule
pub entry_breaks : (entries later : List BundleEntry) (entry : BundleEntry)
    (set : List (List ℕ × Bundle)) (e : WorkloadApiError) → Added entries set
    → named_bundle_of entry ≡ Err e → bundles_added (entries ++ entry ∷ later) ≡ Err e
entry_breaks entries later entry set e so_far is =
    let read : each named_bundle_of (entries ++ entry ∷ later) ≡ Err e =
    each-append named_bundle_of entries (entry ∷ later) ∙ (rw (so_far.read, is) refl) in
    ap (λ r. r >>= λ bundles. Ok (with_bundles [] bundles)) read
