-- The definitions at named items and statuses.
use Rattle.std.proofs.Common.{◌≡◌, ℕ, ◌+◌, ◌*◌, ◌-◌, zero, suc, Bool, true, false, List, [], ◌∷◌}
use Rattle.std.proofs.Common.{◌++◌, length, take, Some, None, Err, nat_lt, cond, refl, sym, ap}
use Rattle.std.proofs.Common.{⊎_elim, arith}
use Rattle.std.specs.Prelude.{codes}
use Rattle.std.proofs.lemmas.Bool.{ltb-true}
use Rattle.std.proofs.lemmas.Str.{IsUtf8-from_ascii, IsUtf8-nil}
use Rattle.std.specs.Option.{option_map}
use Rattle.std.specs.Str.{IsAscii, IsUtf8}
use Rattle.std.proofs.lemmas.List.Elements.{All-nil, All-cons}
use Rattle.spf_api.specs.declared.response.SvidEntry.{SvidEntry}
use Rattle.spf_api.specs.declared.response.ContextResponse.{ContextResponse}
use Rattle.spf_api.specs.declared.response.Response.{Response}
use Rattle.spf_api.specs.declared.response.Response.TheVariants as response
use Rattle.spf_api.specs.declared.response.ResponseKind.TheVariants as kind
use Rattle.spf_api.specs.declared.error.WorkloadApiError.TheVariants as api
use Rattle.spf_api.specs.declared.status.GrpcStatusCode.TheVariants as code
use Rattle.spf_api.specs.declared.status.TransportError.TheVariants as transport
use Rattle.spf_api.specs.Errors.{status_reading}
use Rattle.spf_api.specs.Layout.{field_text, list_text, svid_entry_text, context_payload}
use Rattle.spf_api.specs.Layout.{IsSvidEntry, IsBundleEntry, HasLength32, IsContext}
use Rattle.spf_api.specs.Parsed.{required, bundle_required, fields_required, entries_rule}
use Rattle.spf_api.specs.Parsed.{hint_rule, pairs_of, parsed_of, bundle_set_of}
use Rattle.spf_api.specs.Payload.{IsRead, Payload}
use Rattle.spf_api.proofs.Spelled.{chosen}
use Rattle.spf_api.specs.Reading.{number_at, byte_field_at, text_field_at, svid_entry_at}
use Rattle.spf_api.specs.Reading.{bundle_entry_at, context_at}
use Rattle.spf_api.proofs.Lists.{lists, svid_entries}
use Rattle.spf_api.proofs.Payloads.{laid_is_read, none_laid}

-- a digit of a text in hexadecimal
digit : ℕ → ℕ
digit c = cond (nat_lt c 58) (c - 48) (c - 87)

-- the octets that a text in hexadecimal names
octets : List ℕ → List ℕ
octets (high ∷ low ∷ rest) = (16 * digit high + digit low) ∷ octets rest
octets _ = []

root1 : List ℕ
unfolding octets digit
root1 = octets
    (codes "3046303a020101300506032b65703000301e170d3730303130313030303030305a170d3730303130313030313634305a3000300a300506032b6570030100300506032b6570030100")

leaf1 : List ℕ
unfolding octets digit
leaf1 = octets
    (codes "30818a307ea003020102020101300506032b65703000301e170d3730303130313030303030305a170d3730303130313030313634305a3000300a300506032b6570030100a33d303b300b0603551d0f04040302078030090603551d130402300030210603551d11041a301886167370696666653a2f2f6578616d706c652e6f72672f77300506032b6570030100")

key1 : List ℕ
unfolding octets digit
key1 = octets (codes "300d020100300506032b6570040101")

-- an entry of LEAF1 without a hint
entry1 : List ℕ → List ℕ → SvidEntry
entry1 key bundle = record {
  spiffe_id = codes "spiffe://example.org/w";
  x509_svid = leaf1;
  x509_svid_key = key;
  bundle = bundle;
  hint = [];
}

context1 : List SvidEntry → ContextResponse
context1 svids = record { svids = svids; federated = []; crls = [] }

-- I1, and its payload
i1 : ContextResponse
unfolding context1 entry1
i1 = context1 (entry1 key1 root1 ∷ [])

i1_payload : List ℕ
unfolding octets digit root1 leaf1 key1
i1_payload =
    octets (codes "000000010000001673706966"
    ++ codes "66653a2f2f6578616d706c652e6f72672f770000008d") ++ leaf1
    ++ octets (codes "0000000f") ++ key1 ++ octets (codes "00000048") ++ root1
    ++ octets (codes "000000000000000000000000")

size : length i1_payload ≡ 282
unfolding octets digit root1 leaf1 key1 i1_payload
size = refl

i1_text : context_payload i1 ≡ i1_payload
unfolding octets digit root1 leaf1 key1 entry1 context1 i1 i1_payload context_payload list_text
    svid_entry_text field_text
i1_text = refl

-- whether all octets are below 128
is_plain : List ℕ → Bool
is_plain [] = true
is_plain (b ∷ bs) = cond (nat_lt b 128) (is_plain bs) false

ascii : (bs : List ℕ) → is_plain bs ≡ true → IsAscii bs
unfolding is_plain
ascii [] plain i = omega arith
ascii (b ∷ bs) plain zero =
    ⊎_elim (λ p. ltb-true b 128 p.0) (λ p. cc (p.1))
    (chosen (nat_lt b 128) (is_plain bs) false true plain)
ascii (b ∷ bs) plain (suc i) =
    ⊎_elim (λ p. ascii bs p.1 i) (λ p. cc (p.1))
    (chosen (nat_lt b 128) (is_plain bs) false true plain)

utf8_id : IsUtf8 (codes "spiffe://example.org/w")
unfolding is_plain
utf8_id = IsUtf8-from_ascii (codes "spiffe://example.org/w")
    (ascii (codes "spiffe://example.org/w") refl)

entry_fits : IsSvidEntry (entry1 key1 root1)
unfolding octets digit root1 leaf1 key1 entry1
entry_fits = record {
  spiffe_id = record { short = omega arith; utf8 = utf8_id };
  x509_svid = omega arith;
  x509_svid_key = omega arith;
  bundle = omega arith;
  hint = record { short = omega arith; utf8 = IsUtf8-nil };
}

i1_fits : IsContext i1
unfolding i1 context1
i1_fits = record {
  svids = record {
    short = omega arith;
    each = All-cons IsSvidEntry (entry1 key1 root1) [] entry_fits (All-nil IsSvidEntry);
  };
  federated = record { short = omega arith; each = All-nil IsBundleEntry };
  crls = record { short = omega arith; each = All-nil HasLength32 };
}

-- the payload of I1 lays it out, and is read back as I1
i1_laid : Payload kind.Context i1_payload (response.Context i1)
unfolding Payload
i1_laid = record { fits = i1_fits; octets = sym i1_text }

i1_read : IsRead kind.Context i1_payload (Some (response.Context i1))
i1_read = laid_is_read kind.Context i1_payload (response.Context i1) i1_laid

-- the payload of I1 is its SVIDs, then two counts of no entries
i1_shorter : take 281 i1_payload
    ≡ list_text svid_entry_text i1.svids ++ octets (codes "00000000000000")
unfolding octets digit root1 leaf1 key1 entry1 context1 i1 i1_payload list_text
    svid_entry_text field_text
i1_shorter = refl

i1_and_one : i1_payload ++ 0 ∷ []
    ≡ list_text svid_entry_text i1.svids ++ octets (codes "000000000000000000")
unfolding octets digit root1 leaf1 key1 entry1 context1 i1 i1_payload list_text
    svid_entry_text field_text
i1_and_one = refl

-- without its last octet it lays out nothing
i1_cut : context_at (take 281 i1_payload) ≡ None
unfolding octets digit context_at byte_field_at number_at
i1_cut = rw (
  i1_shorter,
  (lists svid_entries).again i1.svids (octets (codes "00000000000000")) i1_fits.svids,
) refl

i1_longer : context_at (i1_payload ++ 0 ∷ []) ≡ None
unfolding octets digit context_at byte_field_at number_at
i1_longer = rw (
  i1_and_one,
  (lists svid_entries).again i1.svids (octets (codes "000000000000000000")) i1_fits.svids,
) refl

-- the octets `ffffffff` are a count without entries
far_count : context_at (octets (codes "ffffffff")) ≡ None
unfolding octets digit context_at svid_entry_at bundle_entry_at text_field_at byte_field_at
    number_at
far_count = refl

far_count_lays : (r : Response) → ¬ (Payload kind.Context (octets (codes "ffffffff")) r)
unfolding IsRead
far_count_lays =
    none_laid kind.Context (octets (codes "ffffffff"))
    (sym (ap (option_map response.Context) far_count))

-- the response rule
no_svids : parsed_of (context1 []) ≡ Err (api.MissingRequiredField (codes "X509SVIDResponse.svids"))
unfolding context1 parsed_of pairs_of entries_rule
no_svids = refl

-- an empty bundle of any entry comes before the other fields of all
no_bundle : parsed_of (context1 (entry1 [] root1 ∷ entry1 key1 [] ∷ []))
    ≡ Err (api.MissingRequiredField (codes "X509SVID.bundle"))
unfolding octets digit root1 leaf1 key1 entry1 context1 parsed_of pairs_of entries_rule
    bundle_required required
no_bundle = refl

no_key : parsed_of (context1 (entry1 [] root1 ∷ []))
    ≡ Err (api.MissingRequiredField (codes "X509SVID.x509_svid_key"))
unfolding octets digit root1 leaf1 key1 entry1 context1 parsed_of pairs_of entries_rule
    bundle_required fields_required required
no_key = refl

no_bundles : bundle_set_of (record { bundles = [] })
    ≡ Err (api.MissingRequiredField (codes "X509BundlesResponse.bundles"))
unfolding bundle_set_of
no_bundles = refl

empty_hint : hint_rule [] ≡ None
empty_hint = refl

some_hint : hint_rule (codes "internal") ≡ Some (codes "internal")
some_hint = refl

-- statuses
denied : status_reading
    (record { code = code.PermissionDenied; message = codes "no"; source = None })
    ≡ api.PermissionDenied (codes "no")
denied = refl

no_identity : status_reading
    (record {
      code = code.PermissionDenied;
      message = codes "no identity issued here";
      source = None;
    }) ≡ api.NoIdentityIssued
no_identity = refl

-- another code is not a denial, whatever the message
unavailable : status_reading
    (record { code = code.Unavailable; message = codes "no identity issued"; source = None })
    ≡ api.Transport
    (transport.Status
    (record { code = code.Unavailable; message = codes "no identity issued"; source = None }))
unavailable = refl
