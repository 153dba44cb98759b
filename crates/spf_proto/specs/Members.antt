-- The members of a response, seen by their views.
use Rattle.std.specs.Prelude.{◌≡◌, ℕ, List, [], ◌∷◌, ◌++◌, map, true, if◌then◌else◌}
use Rattle.std.specs.Borrow.{Bor}
use Rattle.std.specs.Ordering.{nat_cmp}
use Rattle.std.specs.declared.cmp.Ordering.{Ordering}
use Rattle.std.specs.Cmp.Lexicographic.{slice_cmp}
use Rattle.std.specs.BTreeSet.{BTreeSet, contains, Updates}
use Rattle.spf_api.specs.declared.response.BundleEntryView.{BundleEntryView}
use Rattle.spf_api.specs.Views.{svid_entry_of, bundle_entry_of, octets_of}
use Rattle.spf_api.specs.declared.response.ContextResponse.{ContextResponse}
use Rattle.spf_proto.specs.declared.message.Members.{Members}

abbrev pub shown : Members → ContextResponse
shown m = record {
  svids = map svid_entry_of m.svids.items;
  federated = map bundle_entry_of m.federated.items;
  crls = map octets_of m.crls.items;
}

-- the order of texts
abbrev pub text_cmp : Bor (List ℕ) → Bor (List ℕ) → Ordering
text_cmp x y = slice_cmp nat_cmp x.now y.now

-- the entry is kept unless its name was met, and its name is met now
pub record KeptWith (e : BundleEntryView) (old new : List BundleEntryView)
    (names met : BTreeSet (Bor (List ℕ))) : Type 0 where
  pub kept : new ≡ (if contains text_cmp names e.name then old else old ++ e ∷ [])
  pub met_too : Updates text_cmp names met e.name true
