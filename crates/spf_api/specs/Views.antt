-- The entries and responses that views hold.
use Rattle.std.specs.Prelude.{ℕ, List, map}
use Rattle.std.specs.Borrow.{Bor}
use Rattle.spf_api.specs.declared.response.SvidEntry.{SvidEntry}
use Rattle.spf_api.specs.declared.response.BundleEntry.{BundleEntry}
use Rattle.spf_api.specs.declared.response.JwtSvidEntry.{JwtSvidEntry}
use Rattle.spf_api.specs.declared.payload_jwt.JwtSvidEntryView.{JwtSvidEntryView}
use Rattle.spf_api.specs.declared.response.ContextResponse.{ContextResponse}
use Rattle.spf_api.specs.declared.response.SvidEntryView.{SvidEntryView}
use Rattle.spf_api.specs.declared.response.BundleEntryView.{BundleEntryView}
use Rattle.spf_api.specs.declared.response.ContextView.{ContextView}

abbrev pub svid_entry_of : SvidEntryView → SvidEntry
svid_entry_of v = record {
  spiffe_id = v.spiffe_id.now;
  x509_svid = v.x509_svid.now;
  x509_svid_key = v.x509_svid_key.now;
  bundle = v.bundle.now;
  hint = v.hint.now;
}

abbrev pub bundle_entry_of : BundleEntryView → BundleEntry
bundle_entry_of v = record { name = v.name.now; bundle = v.bundle.now }

abbrev pub octets_of : Bor (List ℕ) → List ℕ
octets_of b = b.now

abbrev pub context_of : ContextView → ContextResponse
context_of v = record {
  svids = map svid_entry_of v.svids;
  federated = map bundle_entry_of v.federated;
  crls = map octets_of v.crls;
}

abbrev pub jwt_svid_entry_of : JwtSvidEntryView → JwtSvidEntry
jwt_svid_entry_of v = record { spiffe_id = v.spiffe_id.now; svid = v.svid.now; hint = v.hint.now }
