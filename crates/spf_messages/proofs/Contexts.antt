-- The members of a message, gathered field by field.
use Rattle.std.proofs.Common.{◌≡◌, ◌∙◌, ℕ, zero, suc, List, [], ◌∷◌, ◌++◌, Option, Some, None, Bool}
use Rattle.std.proofs.Common.{true, false, cond, refl, sym, append_assoc, arith}
use Rattle.std.specs.Prelude.{nat_le, ◌==◌}
use Rattle.std.proofs.lemmas.Bool.Decides.{nat_tests}
use Rattle.std.proofs.lemmas.List.{append-nil}
use Rattle.std.specs.List.{list_all}
use Rattle.std.specs.Option.{option_map}
use Rattle.spf_io.specs.Option.{◌>>=◌}
use Rattle.spf_api.specs.declared.response.SvidEntry.{SvidEntry}
use Rattle.spf_api.specs.declared.response.BundleEntry.{BundleEntry}
use Rattle.spf_api.specs.declared.response.ContextResponse.{ContextResponse}
use Rattle.spf_messages.specs.Wire.{WireField, WireValue, Varint, Eight, Octets, Four}
use Rattle.spf_messages.specs.Message.{fields_of, values_of, each, is_delimited, svid_message}
use Rattle.spf_messages.specs.Message.{bundle_message, members_of, context_members}
use Rattle.spf_messages.specs.Folded.{folded, message_from, context_with, no_members}
use Rattle.spf_messages.proofs.Entries.{after_fields}

-- the members of both, one after the other
abbrev joined : ContextResponse → ContextResponse → ContextResponse
joined r m = record {
  svids = r.svids ++ m.svids;
  federated = r.federated ++ m.federated;
  crls = r.crls ++ m.crls;
}

abbrev made : Option (List SvidEntry) → Option (List BundleEntry) → List (List ℕ)
    → Option ContextResponse
made svids federated crls =
    svids >>= λ ss. federated >>= λ bs. Some (record { svids = ss; federated = bs; crls = crls })

abbrev onto : Bool → ContextResponse → Option ContextResponse → Option ContextResponse
onto all r m = cond all (option_map (joined r) m) None

none_onto : (all : Bool) (r : ContextResponse) → None ≡ onto all r None
none_onto true r = refl
none_onto false r = refl

-- one more SVID
svid_onto : (all : Bool) (r : ContextResponse) (s : SvidEntry) (ss : Option (List SvidEntry))
    (bs : Option (List BundleEntry)) (crls : List (List ℕ))
    → onto all (record { svids = r.svids ++ s ∷ []; federated = r.federated; crls = r.crls })
    (made ss bs crls)
    ≡ onto all r (made (ss >>= λ others. Some (s ∷ others)) bs crls)
svid_onto false r s ss bs crls = refl
svid_onto true r s None bs crls = refl
svid_onto true r s (Some ss) None crls = refl
svid_onto true r s (Some ss) (Some bs) crls =
    λ i. Some (record {
      svids = append_assoc r.svids (s ∷ []) ss i;
      federated = r.federated ++ bs;
      crls = r.crls ++ crls;
    })

svid_first : (all : Bool) (r : ContextResponse) (s : Option SvidEntry)
    (ss : Option (List SvidEntry)) (bs : Option (List BundleEntry)) (crls : List (List ℕ))
    (fs : List WireField)
    → ((x : SvidEntry)
    → folded context_with
    (record { svids = r.svids ++ x ∷ []; federated = r.federated; crls = r.crls }) fs
    ≡ onto all (record { svids = r.svids ++ x ∷ []; federated = r.federated; crls = r.crls })
    (made ss bs crls))
    → (option_map
    (λ svid. record { svids = r.svids ++ svid ∷ []; federated = r.federated; crls = r.crls }) s
    >>= λ next. folded context_with next fs)
    ≡ onto all r (made (s >>= λ y. ss >>= λ ys. Some (y ∷ ys)) bs crls)
svid_first all r None ss bs crls fs others = none_onto all r
svid_first all r (Some s) ss bs crls fs others = others s ∙ svid_onto all r s ss bs crls

-- one more bundle
bundle_onto : (all : Bool) (r : ContextResponse) (b : BundleEntry) (ss : Option (List SvidEntry))
    (bs : Option (List BundleEntry)) (crls : List (List ℕ))
    → onto all (record { svids = r.svids; federated = r.federated ++ b ∷ []; crls = r.crls })
    (made ss bs crls)
    ≡ onto all r (made ss (bs >>= λ others. Some (b ∷ others)) crls)
bundle_onto false r b ss bs crls = refl
bundle_onto true r b None bs crls = refl
bundle_onto true r b (Some ss) None crls = refl
bundle_onto true r b (Some ss) (Some bs) crls =
    λ i. Some (record {
      svids = r.svids ++ ss;
      federated = append_assoc r.federated (b ∷ []) bs i;
      crls = r.crls ++ crls;
    })

no_bundle : (all : Bool) (r : ContextResponse) (ss : Option (List SvidEntry)) (crls : List (List ℕ))
    → None ≡ onto all r (made ss None crls)
no_bundle false r ss crls = refl
no_bundle true r None crls = refl
no_bundle true r (Some ss) crls = refl

bundle_first : (all : Bool) (r : ContextResponse) (b : Option BundleEntry)
    (ss : Option (List SvidEntry)) (bs : Option (List BundleEntry)) (crls : List (List ℕ))
    (fs : List WireField)
    → ((x : BundleEntry)
    → folded context_with
    (record { svids = r.svids; federated = r.federated ++ x ∷ []; crls = r.crls }) fs
    ≡ onto all (record { svids = r.svids; federated = r.federated ++ x ∷ []; crls = r.crls })
    (made ss bs crls))
    → (option_map
    (λ bundle. record { svids = r.svids; federated = r.federated ++ bundle ∷ []; crls = r.crls }) b
    >>= λ next. folded context_with next fs)
    ≡ onto all r (made ss (b >>= λ y. bs >>= λ ys. Some (y ∷ ys)) crls)
bundle_first all r None ss bs crls fs others = no_bundle all r ss crls
bundle_first all r (Some b) ss bs crls fs others = others b ∙ bundle_onto all r b ss bs crls

-- one more CRL
crl_onto : (all : Bool) (r : ContextResponse) (c : List ℕ) (ss : Option (List SvidEntry))
    (bs : Option (List BundleEntry)) (crls : List (List ℕ))
    → onto all (record { svids = r.svids; federated = r.federated; crls = r.crls ++ c ∷ [] })
    (made ss bs crls)
    ≡ onto all r (made ss bs (c ∷ crls))
crl_onto false r c ss bs crls = refl
crl_onto true r c None bs crls = refl
crl_onto true r c (Some ss) None crls = refl
crl_onto true r c (Some ss) (Some bs) crls =
    λ i. Some (record {
      svids = r.svids ++ ss;
      federated = r.federated ++ bs;
      crls = append_assoc r.crls (c ∷ []) crls i;
    })

-- one more field
field_first : (n : ℕ) (value : WireValue) (r : ContextResponse) (fs : List WireField)
    → ((x : ContextResponse)
    → folded context_with x fs ≡ onto (list_all (is_delimited 3) fs) x (members_of fs))
    → folded context_with r (record { number = n; value = value } ∷ fs)
    ≡ onto (list_all (is_delimited 3) (record { number = n; value = value } ∷ fs)) r
    (members_of (record { number = n; value = value } ∷ fs))
unfolding context_with
field_first zero (Varint v) r fs others = refl
field_first zero (Eight v) r fs others = refl
field_first zero Four r fs others = refl
field_first zero (Octets o) r fs others = others r
field_first (suc zero) (Varint v) r fs others = refl
field_first (suc zero) (Eight v) r fs others = refl
field_first (suc zero) Four r fs others = refl
field_first (suc zero) (Octets o) r fs others =
    svid_first (list_all (is_delimited 3) fs) r (svid_message o)
    (each svid_message (values_of 1 fs)) (each bundle_message (values_of 3 fs)) (values_of 2 fs) fs
    (λ x. others (record { svids = r.svids ++ x ∷ []; federated = r.federated; crls = r.crls }))
field_first (suc (suc zero)) (Varint v) r fs others = refl
field_first (suc (suc zero)) (Eight v) r fs others = refl
field_first (suc (suc zero)) Four r fs others = refl
field_first (suc (suc zero)) (Octets o) r fs others =
    others (record { svids = r.svids; federated = r.federated; crls = r.crls ++ o ∷ [] })
    ∙ crl_onto (list_all (is_delimited 3) fs) r o (each svid_message (values_of 1 fs))
    (each bundle_message (values_of 3 fs)) (values_of 2 fs)
field_first (suc (suc (suc zero))) (Varint v) r fs others = refl
field_first (suc (suc (suc zero))) (Eight v) r fs others = refl
field_first (suc (suc (suc zero))) Four r fs others = refl
field_first (suc (suc (suc zero))) (Octets o) r fs others =
    bundle_first (list_all (is_delimited 3) fs) r (bundle_message o)
    (each svid_message (values_of 1 fs)) (each bundle_message (values_of 3 fs)) (values_of 2 fs) fs
    (λ x. others (record { svids = r.svids; federated = r.federated ++ x ∷ []; crls = r.crls }))
field_first (suc (suc (suc (suc n)))) value r fs others =
    let m : ℕ = suc (suc (suc (suc n))) in
    let above : nat_le m 3 ≡ false = grind (arith, nat_tests) in
    let first : (m == 1) ≡ false = grind (arith, nat_tests) in
    let second : (m == 2) ≡ false = grind (arith, nat_tests) in
    let third : (m == 3) ≡ false = grind (arith, nat_tests) in
    rw (above, first, second, third) (others r)

-- what the fields of a message add to a response
context_folded : (r : ContextResponse) (fs : List WireField)
    → folded context_with r fs ≡ onto (list_all (is_delimited 3) fs) r (members_of fs)
context_folded r [] = λ i. Some (record {
  svids = sym (append-nil r.svids) i;
  federated = sym (append-nil r.federated) i;
  crls = sym (append-nil r.crls) i;
})
context_folded r (f ∷ fs) = field_first f.number f.value r fs (λ x. context_folded x fs)

nothing_before : (all : Bool) (m : Option ContextResponse) → onto all no_members m ≡ cond all m None
nothing_before false m = refl
nothing_before true None = refl
nothing_before true (Some m) = refl

pub context_is_read : (bytes : List ℕ)
    → message_from context_with no_members bytes ≡ context_members bytes
unfolding context_members
context_is_read bytes =
    after_fields (fields_of bytes) _ _
    (λ fs. context_folded no_members fs
    ∙ nothing_before (list_all (is_delimited 3) fs) (members_of fs))
