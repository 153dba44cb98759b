-- The response of a message that is read has a payload, which fits in a frame.
use Rattle.std.proofs.Common.{◌≡◌, ◌∙◌, ℕ, zero, suc, ◌+◌, ◌^◌, ◌≤◌, ◌<◌, Bool, true, false, cond}
use Rattle.std.proofs.Common.{List, [], ◌∷◌, ◌++◌, length, Option, Some, None, refl, ap, subst}
use Rattle.std.proofs.Common.{arith, length-append, ⊎_elim, unwrap_or}
use Rattle.std.specs.Prelude.{◌&&◌, ◌||◌, not, nat_lt, ◌==◌}
use Rattle.std.specs.Int.{w32, to_be_bytes}
use Rattle.std.specs.List.{All, AllByRecursion, flat_map, list_all, list_any}
use Rattle.std.specs.Option.{option_map_or}
use Rattle.std.specs.Str.{is_utf8, IsUtf8}
use Rattle.std.proofs.lemmas.Bool.Decides.{nat_tests}
use Rattle.std.proofs.lemmas.List.Elements.{All-nil, All-cons, All-head, All-tail}
use Rattle.std.proofs.lemmas.Str.{IsUtf8-from_is_utf8, is_utf8-from_IsUtf8, IsUtf8-nil}
use Rattle.spf_io.specs.Option.{◌>>=◌}
use Rattle.spf_api.specs.declared.response.SvidEntry.{SvidEntry}
use Rattle.spf_api.specs.declared.response.BundleEntry.{BundleEntry}
use Rattle.spf_api.specs.declared.response.ContextResponse.{ContextResponse}
use Rattle.spf_api.specs.Layout.{field_text, list_text, HasLength32, IsListOf, IsSvidEntry}
use Rattle.spf_api.specs.Layout.{svid_entry_text, IsBundleEntry, bundle_entry_text, IsContext}
use Rattle.spf_api.specs.Layout.{context_payload}
use Rattle.spf_api.specs.Reading.{byte_field_at}
use Rattle.spf_api.proofs.Lists.{bind_then}
use Rattle.spf_api.proofs.Spelled.{chosen}
use Rattle.spf_proto.specs.Wire.{WireField}
use Rattle.spf_proto.specs.Message.{fields_of, octets_of, has_number, values_of, last_or, is_text}
use Rattle.spf_proto.specs.Message.{is_svid_field, svid_entry_from, svid_message, is_bundle_field}
use Rattle.spf_proto.specs.Message.{bundle_entry_from, bundle_message, each, has_name, is_delimited}
use Rattle.spf_proto.specs.Message.{last_of_each, members_of, context_members, context_message}
use Rattle.spf_proto.specs.Body.{fits, response_of, message_at, body_within}

some_is : {A : Type 0} (x y : A) → Some x ≡ Some y → x ≡ y
some_is {A} x y e = ap (λ (o : Option A). unwrap_or o x) e

and_true : (a b : Bool) → (a && b) ≡ true → (a ≡ true) × (b ≡ true)
and_true true b h = (refl, h)
and_true false b h = absurd cc

-- ---- texts

empty_text : is_utf8 [] ≡ true
empty_text = is_utf8-from_IsUtf8 [] IsUtf8-nil

text_step : (b : Bool) (octets first : List ℕ) (others : List (List ℕ)) → is_utf8 first ≡ true
    → (not b || is_utf8 octets) ≡ true
    → ((start : List ℕ) → is_utf8 start ≡ true → is_utf8 (last_or start others) ≡ true)
    → is_utf8 (last_or first (cond b (octets ∷ others) others)) ≡ true
text_step true octets first others fine is next = next octets is
text_step false octets first others fine is next = next first fine

-- the last of texts is a text
text_last : (n : ℕ) (first : List ℕ) (fs : List WireField) → is_utf8 first ≡ true
    → list_all (is_text n) fs ≡ true → is_utf8 (last_or first (values_of n fs)) ≡ true
text_last n first [] fine all = fine
text_last n first (f ∷ fs) fine all =
    let both = and_true (is_text n f) (list_all (is_text n) fs) all in
    text_step (has_number n f) (octets_of f) first (values_of n fs) fine both.0
    (λ start ok. text_last n start fs ok both.1)

all_part : (p q : WireField → Bool) → ((f : WireField) → p f ≡ true → q f ≡ true)
    → (fs : List WireField) → list_all p fs ≡ true → list_all q fs ≡ true
all_part p q part [] h = refl
all_part p q part (f ∷ fs) h =
    let both = and_true (p f) (list_all p fs) h in
    ap (λ (b : Bool). b && list_all q fs) (part f both.0) ∙ all_part p q part fs both.1

last_text : (n : ℕ) (p : WireField → Bool) → ((f : WireField) → p f ≡ true → is_text n f ≡ true)
    → (fs : List WireField) → list_all p fs ≡ true → IsUtf8 (last_or [] (values_of n fs))
last_text n p part fs all =
    IsUtf8-from_is_utf8 (last_or [] (values_of n fs))
    (text_last n [] fs empty_text (all_part p (is_text n) part fs all))

abbrev SvidTexts : SvidEntry → Type 0
SvidTexts e = IsUtf8 e.spiffe_id × IsUtf8 e.hint

svid_texts : (bytes : List ℕ) (e : SvidEntry) → svid_message bytes ≡ Some e → SvidTexts e
unfolding svid_message
svid_texts bytes e is =
    bind_then (fields_of bytes) _ e is (λ fs fs_is made. ⊎_elim
    (λ p. subst SvidTexts (some_is (svid_entry_from fs) e p.1) (
      last_text 1 is_svid_field
          (λ f h. (and_true (is_text 1 f) (is_text 5 f)
          (and_true (is_delimited 5 f) (is_text 1 f && is_text 5 f) h).1).0) fs p.0,
      last_text 5 is_svid_field
          (λ f h. (and_true (is_text 1 f) (is_text 5 f)
          (and_true (is_delimited 5 f) (is_text 1 f && is_text 5 f) h).1).1) fs p.0,
    ))
    (λ p. cc (p.1))
    (chosen (list_all is_svid_field fs) (Some (svid_entry_from fs)) None (Some e) made))

abbrev BundleTexts : BundleEntry → Type 0
BundleTexts e = IsUtf8 e.name

bundle_texts : (bytes : List ℕ) (e : BundleEntry) → bundle_message bytes ≡ Some e → BundleTexts e
unfolding bundle_message
bundle_texts bytes e is =
    bind_then (fields_of bytes) _ e is (λ fs fs_is made. ⊎_elim
    (λ p. subst BundleTexts (some_is (bundle_entry_from fs) e p.1)
    (last_text 1 is_bundle_field
    (λ f h. (and_true (is_delimited 2 f) (is_text 1 f) h).1) fs p.0))
    (λ p. cc (p.1))
    (chosen (list_all is_bundle_field fs) (Some (bundle_entry_from fs)) None (Some e) made))

each_all : {A B : Type 0} (one : A → Option B) (P : B → Type 0)
    → ((x : A) (y : B) → one x ≡ Some y → P y)
    → (xs : List A) (ys : List B) → each one xs ≡ Some ys → All P ys
each_all one P holds [] ys is = subst (λ (l : List _). All P l) (some_is [] ys is) (All-nil P)
each_all one P holds (x ∷ xs) ys is =
    bind_then (one x) _ ys is (λ y y_is next.
    bind_then (each one xs) _ ys next (λ others others_is made.
    subst (λ (l : List _). All P l) (some_is (y ∷ others) ys made)
    (All-cons P y others (holds x y y_is) (each_all one P holds xs others others_is))))

either_all : {A : Type 0} (P : A → Type 0) (b : Bool) (xs ys : List A) → All P xs → All P ys
    → All P (cond b xs ys)
either_all P true xs ys first second = first
either_all P false xs ys first second = second

kept_all : (P : BundleEntry → Type 0) (es : List BundleEntry) → All P es → All P (last_of_each es)
kept_all P [] all = all
kept_all P (e ∷ es) all =
    let rest = kept_all P es (All-tail P e es all) in
    either_all P (list_any (has_name e.name) es) (last_of_each es) (e ∷ last_of_each es) rest
    (All-cons P e (last_of_each es) (All-head P e es all) rest)

record HasTexts (r : ContextResponse) : Type 0 where
  svids : All SvidTexts r.svids
  federated : All BundleTexts r.federated

members_texts : (fs : List WireField) (r : ContextResponse) → members_of fs ≡ Some r → HasTexts r
members_texts fs r is =
    bind_then (each svid_message (values_of 1 fs)) _ r is (λ svids svids_are next.
    bind_then (each bundle_message (values_of 3 fs)) _ r next (λ federated federated_are made.
    subst HasTexts
    (some_is (record { svids = svids; federated = federated; crls = values_of 2 fs }) r
    made) (record {
      svids = each_all svid_message SvidTexts svid_texts (values_of 1 fs) svids svids_are;
      federated = each_all bundle_message BundleTexts bundle_texts (values_of 3 fs) federated
          federated_are;
    })))

before_texts : (octets : List ℕ) (r : ContextResponse) → context_members octets ≡ Some r
    → HasTexts r
unfolding context_members
before_texts octets r is =
    bind_then (fields_of octets) _ r is (λ fs fs_are made. ⊎_elim
    (λ p. members_texts fs r p.1) (λ p. cc (p.1))
    (chosen (list_all (is_delimited 3) fs) (members_of fs) None (Some r) made))

message_texts : (octets : List ℕ) (r : ContextResponse) → context_message octets ≡ Some r
    → HasTexts r
unfolding context_message
message_texts octets r is =
    bind_then (context_members octets) _ r is (λ m m_is made.
    let before = before_texts octets m m_is in
    subst HasTexts
    (some_is (record {
      svids = m.svids;
      federated = last_of_each m.federated;
      crls = m.crls;
    }) r made)
    (record {
      svids = before.svids;
      federated = kept_all BundleTexts m.federated before.federated;
    }))

-- ---- lengths

two : (a b : List ℕ) → length (a ++ b) ≤ 2 ^ 24 → (length a ≤ 2 ^ 24) × (length b ≤ 2 ^ 24)
two a b le = (
  omega (arith, le, length-append a b),
  omega (arith, le, length-append a b),
)

field_length : (octets : List ℕ) → length (field_text octets) ≡ 4 + length octets
unfolding field_text
field_length octets = length-append (to_be_bytes w32 (length octets)) octets

field_short : (octets : List ℕ) → length (field_text octets) ≤ 2 ^ 24 → HasLength32 octets
field_short octets le = omega (arith, le, field_length octets)

svid_fits : (e : SvidEntry) → SvidTexts e → length (svid_entry_text e) ≤ 2 ^ 24 → IsSvidEntry e
unfolding svid_entry_text
svid_fits e texts le =
    let id = two (field_text e.spiffe_id) _ le in
    let chain = two (field_text e.x509_svid) _ id.1 in
    let key = two (field_text e.x509_svid_key) _ chain.1 in
    let bundle = two (field_text e.bundle) _ key.1 in
    let hint = two (field_text e.hint) [] bundle.1 in
    record {
      spiffe_id = record { short = field_short e.spiffe_id id.0; utf8 = texts.0 };
      x509_svid = field_short e.x509_svid chain.0;
      x509_svid_key = field_short e.x509_svid_key key.0;
      bundle = field_short e.bundle bundle.0;
      hint = record { short = field_short e.hint hint.0; utf8 = texts.1 };
    }

svid_some : (e : SvidEntry) → 0 < length (svid_entry_text e)
unfolding svid_entry_text
svid_some e =
    omega (
      arith,
      field_length e.spiffe_id,
      length-append (field_text e.spiffe_id)
          (flat_map field_text (e.x509_svid ∷ e.x509_svid_key ∷ e.bundle ∷ e.hint ∷ [])),
    )

bundle_fits : (e : BundleEntry) → BundleTexts e → length (bundle_entry_text e) ≤ 2 ^ 24
    → IsBundleEntry e
unfolding bundle_entry_text
bundle_fits e text le =
    let name = two (field_text e.name) _ le in
    let bundle = two (field_text e.bundle) [] name.1 in
    record {
      name = record { short = field_short e.name name.0; utf8 = text };
      bundle = field_short e.bundle bundle.0;
    }

bundle_some : (e : BundleEntry) → 0 < length (bundle_entry_text e)
unfolding bundle_entry_text
bundle_some e =
    omega (
      arith,
      field_length e.name,
      length-append (field_text e.name) (flat_map field_text (e.bundle ∷ [])),
    )

members_fit : {A : Type 0} (one : A → List ℕ) (T P : A → Type 0)
    → ((x : A) → T x → length (one x) ≤ 2 ^ 24 → P x)
    → (xs : List A) → All T xs → length (flat_map one xs) ≤ 2 ^ 24 → All P xs
members_fit one T P fit [] all le = All-nil P
members_fit one T P fit (x ∷ xs) all le =
    let parts = two (one x) (flat_map one xs) le in
    All-cons P x xs (fit x (All-head T x xs all) parts.0)
    (members_fit one T P fit xs (All-tail T x xs all) parts.1)

members_count : {A : Type 0} (one : A → List ℕ) → ((x : A) → 0 < length (one x))
    → (xs : List A) → length xs ≤ length (flat_map one xs)
members_count one some [] = omega arith
members_count one some (x ∷ xs) =
    omega (
      arith,
      some x,
      length-append (one x) (flat_map one xs),
      members_count one some xs,
    )

list_fits : {A : Type 0} (one : A → List ℕ) (T P : A → Type 0)
    → ((x : A) → T x → length (one x) ≤ 2 ^ 24 → P x) → ((x : A) → 0 < length (one x))
    → (xs : List A) → All T xs → length (list_text one xs) ≤ 2 ^ 24 → IsListOf P xs
unfolding list_text
list_fits one T P fit some xs all le =
    let parts = two (to_be_bytes w32 (length xs)) (flat_map one xs) le in
    let short = parts.1 in
    record {
      short = omega (arith, short, members_count one some xs);
      each = members_fit one T P fit xs all short;
    }

all_any : {A : Type 0} (xs : List A) → All (λ x. Unit {0}) xs
all_any [] = All-nil (λ x. Unit {0})
all_any (x ∷ xs) = All-cons (λ x. Unit {0}) x xs tt (all_any xs)

context_fits : (r : ContextResponse) → HasTexts r → length (context_payload r) ≤ 2 ^ 24
    → IsContext r
unfolding context_payload
context_fits r texts le =
    let svids = two (list_text svid_entry_text r.svids) _ le in
    let others = two (list_text bundle_entry_text r.federated) _ svids.1 in
    record {
      svids = list_fits svid_entry_text SvidTexts IsSvidEntry svid_fits svid_some r.svids
          texts.svids svids.0;
      federated = list_fits bundle_entry_text BundleTexts IsBundleEntry bundle_fits bundle_some
          r.federated texts.federated others.0;
      crls = list_fits field_text (λ x. Unit {0}) HasLength32 (λ x any le. field_short x le)
          (λ x. omega (arith, field_length x)) r.crls (all_any r.crls) others.1;
    }

-- ---- messages

-- its payload lays it out, and fits in a frame
pub record HasPayload (r : ContextResponse) : Type 0 where
  pub laid : IsContext r
  pub short : length (context_payload r) ≤ 2 ^ 24

response_laid : (octets : List ℕ) (r : ContextResponse) → response_of octets ≡ Some r → HasPayload r
unfolding response_of
response_laid octets r is =
    bind_then (fits octets octets) _ r is (λ o o_is next.
    bind_then (context_message o) _ r next (λ m m_is made. ⊎_elim
    (λ p. cc (p.1))
    (λ p.
    let short : length (context_payload m) ≤ 2 ^ 24 =
    let is = p.0 in grind (arith, nat_tests, is) in
    subst HasPayload (some_is m r p.1)
    (record { laid = context_fits m (message_texts o m m_is) short; short = short }))
    (chosen (nat_lt (2 ^ 24) (length (context_payload m))) None (Some m) (Some r) made)))

pub message_laid : (bytes : List ℕ) (m : ContextResponse × List ℕ) → message_at bytes ≡ Some m
    → HasPayload m.0
unfolding message_at
message_laid [] m is = absurd cc
message_laid (flag ∷ bytes) m is = ⊎_elim
    (λ p. bind_then (byte_field_at bytes) _ m p.1 (λ f f_is next.
    bind_then (response_of f.0) _ m next (λ r r_is made.
    subst (λ (x : ContextResponse × List ℕ). HasPayload x.0) (some_is (r, f.1) m made)
    (response_laid f.0 r r_is))))
    (λ p. cc (p.1))
    (chosen (flag == 0)
    (byte_field_at bytes >>= λ f. response_of f.0 >>= λ r. Some (r, f.1)) None (Some m) is)

body_step : (max : ℕ) (bytes : List ℕ) (m : Option (ContextResponse × List ℕ))
    → message_at bytes ≡ m
    → ((more : List ℕ) → AllByRecursion HasPayload (body_within max more).0)
    → AllByRecursion HasPayload
    (option_map_or {U = List ContextResponse × List ℕ}
    (λ (m : ContextResponse × List ℕ).
    (m.0 ∷ (body_within max m.1).0, (body_within max m.1).1)) m ([], bytes)).0
body_step max bytes None is next = tt
body_step max bytes (Some m) is next = (message_laid bytes m is, next m.1)

pub body_laid : (max : ℕ) (bytes : List ℕ)
    → AllByRecursion HasPayload (body_within max bytes).0
body_laid zero bytes = tt
body_laid (suc max) bytes =
    body_step max bytes (message_at bytes) refl (λ more. body_laid max more)

count_step : (max : ℕ) (bytes : List ℕ) (m : Option (ContextResponse × List ℕ))
    → ((more : List ℕ) → length (body_within max more).0 ≤ max)
    → length
    (option_map_or {U = List ContextResponse × List ℕ}
    (λ (m : ContextResponse × List ℕ).
    (m.0 ∷ (body_within max m.1).0, (body_within max m.1).1)) m ([], bytes)).0 ≤ suc max
count_step max bytes None next = omega arith
count_step max bytes (Some m) next = omega (arith, next m.1)

pub body_count : (max : ℕ) (bytes : List ℕ) → length (body_within max bytes).0 ≤ max
body_count zero bytes = omega arith
body_count (suc max) bytes =
    count_step max bytes (message_at bytes) (λ more. body_count max more)
