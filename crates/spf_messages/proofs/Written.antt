-- Fields and requests that are written are read.
use Rattle.std.proofs.Common.{◌≡◌, ◌∙◌, ℕ, zero, suc, ◌+◌, ◌*◌, ◌/◌, ◌%◌, ◌^◌, ◌<◌, ◌≤◌, Bool, true}
use Rattle.std.proofs.Common.{false, cond, List, [], ◌∷◌, ◌++◌, length, map, take, drop, Option, Some}
use Rattle.std.proofs.Common.{None, refl, sym, ap, append_assoc, length-append, arith}
use Rattle.std.proofs.Math.Seq.{take-append_seam, drop-append_seam}
use Rattle.std.proofs.lemmas.Bool.Decides.{nat_tests}
use Rattle.std.proofs.lemmas.List.{append-nil}
use Rattle.std.proofs.lemmas.List.Concat.{flat_map-cons}
use Rattle.std.proofs.lemmas.Str.{is_utf8-from_IsUtf8}
use Rattle.std.specs.Prelude.{nat_lt, ◌==◌}
use Rattle.std.specs.List.{AllByRecursion, flat_map, list_all}
use Rattle.spf_io.specs.Option.{◌>>=◌}
use Rattle.spf_messages.specs.Wire.{WireField, Octets, delimited_at, field_at, field_text}
use Rattle.spf_messages.specs.Wire.{is_tag, value_at, varint_at, varint_text}
use Rattle.spf_messages.specs.Message.{fields_of, fields_within, values_of, last_of}
use Rattle.spf_messages.specs.Requests.{IsRequestText, is_request_field, jwt_svid_request}
use Rattle.spf_messages.specs.Requests.{jwt_svid_request_in, unless_empty, validation_request}
use Rattle.spf_messages.specs.Requests.{validation_request_in}
use Rattle.spf_messages.proofs.VarintWritten.{varint_back}

delimited_back : (octets rest : List ℕ) → length octets < 2 ^ 64
    → delimited_at ((varint_text (length octets) ++ octets) ++ rest) ≡ Some (octets, rest)
unfolding delimited_at
delimited_back octets rest short =
    let all : nat_lt (length (octets ++ rest)) (length octets) ≡ false =
    grind (arith, nat_tests, length-append octets rest) in
    ap (λ (l : List ℕ). varint_at l >>= λ n.
    cond (nat_lt (length n.1) n.0) None (Some (take n.0 n.1, drop n.0 n.1)))
    (append_assoc (varint_text (length octets)) octets rest)
    ∙ ap (λ (o : Option (ℕ × List ℕ)). o >>= λ n.
    cond (nat_lt (length n.1) n.0) None (Some (take n.0 n.1, drop n.0 n.1)))
    (varint_back (length octets) (octets ++ rest) short)
    ∙ rw all (λ i. Some (take-append_seam octets rest i, drop-append_seam octets rest i))

abbrev rest_of_field : ℕ × List ℕ → Option (WireField × List ℕ)
rest_of_field tag =
    cond (is_tag tag.0) (value_at (tag.0 % 8) tag.1) None >>= λ v.
    Some (record { number = tag.0 / 8; value = v.0 }, v.1)

abbrev written : ℕ → List ℕ → WireField
written n octets = record { number = n; value = Octets octets }

tagged_back : (tag n : ℕ) (octets rest : List ℕ) → is_tag tag ≡ true → tag % 8 ≡ 2 → tag / 8 ≡ n
    → length octets < 2 ^ 64
    → rest_of_field (tag, (varint_text (length octets) ++ octets) ++ rest)
    ≡ Some (written n octets, rest)
tagged_back tag n octets rest is type number short =
    rw (is, type, number, delimited_back octets rest short) refl

pub field_back : (n : ℕ) (octets rest : List ℕ) → 0 < n → n < 2 ^ 29 → length octets < 2 ^ 64
    → field_at (field_text n octets ++ rest) ≡ Some (written n octets, rest)
unfolding field_at field_text
field_back n octets rest some lt short =
    let tag : is_tag (8 * n + 2) ≡ true = grind (arith, nat_tests, some, lt) in
    ap (λ (l : List ℕ). varint_at l >>= rest_of_field)
    (append_assoc (varint_text (8 * n + 2)) (varint_text (length octets) ++ octets) rest)
    ∙ ap (λ (o : Option (ℕ × List ℕ)). o >>= rest_of_field)
    (varint_back (8 * n + 2) ((varint_text (length octets) ++ octets) ++ rest) (omega (arith, lt)))
    ∙ tagged_back (8 * n + 2) n octets rest tag (omega arith) (omega arith) short

-- ---- messages of such fields

abbrev text_of : List (ℕ × List ℕ) → List ℕ
text_of [] = []
text_of (f ∷ fs) = field_text f.0 f.1 ++ text_of fs

abbrev as_fields : List (ℕ × List ℕ) → List WireField
as_fields fs = map (λ (f : ℕ × List ℕ). written f.0 f.1) fs

record IsField (f : ℕ × List ℕ) : Type 0 where
  some : 0 < f.0
  small : f.0 < 2 ^ 29
  short : length f.1 < 2 ^ 64

opened : (max : ℕ) (bytes : List ℕ) (f : WireField) (rest : List ℕ)
    → field_at bytes ≡ Some (f, rest)
    → fields_within (suc max) bytes ≡ (fields_within max rest >>= λ fs. Some (f ∷ fs))
unfolding field_at
opened max [] f rest is = absurd cc
opened max (b ∷ bytes) f rest is =
    ap (λ (o : Option (WireField × List ℕ)). o >>= λ g.
    fields_within max g.1 >>= λ fs. Some (g.0 ∷ fs)) is

within_back : (max : ℕ) (fs : List (ℕ × List ℕ)) → AllByRecursion IsField fs → length fs ≤ max
    → fields_within max (text_of fs) ≡ Some (as_fields fs)
within_back max [] ok le = refl
within_back zero (f ∷ fs) ok le = absurd (omega (arith, le))
within_back (suc max) (f ∷ fs) ok le =
    opened max (field_text f.0 f.1 ++ text_of fs) (written f.0 f.1) (text_of fs)
    (field_back f.0 f.1 (text_of fs) ok.0.some ok.0.small ok.0.short)
    ∙ ap (λ (o : Option (List WireField)). o >>= λ gs. Some (written f.0 f.1 ∷ gs))
    (within_back max fs ok.1 (omega (arith, le)))

one_of : (b : Bool) (n m : ℕ) (others : List ℕ)
    → 0 < length (cond b (n ∷ []) (m ∷ others))
one_of true n m others = omega arith
one_of false n m others = omega arith

field_some : (n : ℕ) (octets : List ℕ) → 0 < length (field_text n octets)
unfolding field_text
field_some n octets =
    let tag : 0 < length (varint_text (8 * n + 2)) = one_of _ _ _ _ in
    omega (
      arith,
      tag,
      length-append (varint_text (8 * n + 2)) (varint_text (length octets) ++ octets),
    )

count : (fs : List (ℕ × List ℕ)) → length fs ≤ length (text_of fs)
count [] = omega arith
count (f ∷ fs) =
    omega (
      arith,
      field_some f.0 f.1,
      count fs,
      length-append (field_text f.0 f.1) (text_of fs),
    )

fields_back : (fs : List (ℕ × List ℕ)) → AllByRecursion IsField fs
    → fields_of (text_of fs) ≡ Some (as_fields fs)
fields_back fs ok = within_back (length (text_of fs)) fs ok (count fs)

-- ---- requests

abbrev optional : Bool → ℕ → List ℕ → List (ℕ × List ℕ)
optional absent n octets = cond absent [] ((n, octets) ∷ [])

optional_text : (absent : Bool) (n : ℕ) (octets : List ℕ)
    → cond absent [] (field_text n octets) ≡ text_of (optional absent n octets)
optional_text true n octets = refl
optional_text false n octets = sym (append-nil (field_text n octets))

optional_fields : (absent : Bool) (n : ℕ) (octets : List ℕ) → 0 < n → n < 2 ^ 29
    → IsRequestText octets → AllByRecursion IsField (optional absent n octets)
optional_fields true n octets some small ok = tt
optional_fields false n octets some small ok =
    (record { some = some; small = small; short = ok.short }, tt)

none_left : (octets : List ℕ) → (length octets == 0) ≡ true → [] ≡ octets
none_left [] is = refl
none_left (x ∷ octets) is =
    let some : (length (x ∷ octets) == 0) ≡ false = grind (arith, nat_tests) in absurd (cc (is, some))

-- what the fields of the second text say
record Second (octets : List ℕ) (fs : List WireField) : Type 0 where
  all : list_all is_request_field fs ≡ true
  first : values_of 1 fs ≡ []
  second : last_of 2 fs ≡ octets

second_of : (absent : Bool) (octets : List ℕ) → (length octets == 0) ≡ absent
    → IsRequestText octets → Second octets (as_fields (optional absent 2 octets))
second_of true octets is ok = record { all = refl; first = refl; second = none_left octets is }
second_of false octets is ok = record {
  all = rw (is_utf8-from_IsUtf8 octets ok.utf8) refl;
  first = refl;
  second = refl;
}

abbrev jwt_fields : List (List ℕ) → List ℕ → List (ℕ × List ℕ)
jwt_fields [] spiffe_id = optional (length spiffe_id == 0) 2 spiffe_id
jwt_fields (a ∷ audience) spiffe_id = (1, a) ∷ jwt_fields audience spiffe_id

jwt_text : (audience : List (List ℕ)) (spiffe_id : List ℕ)
    → flat_map (field_text 1) audience ++ unless_empty 2 spiffe_id
    ≡ text_of (jwt_fields audience spiffe_id)
jwt_text [] spiffe_id = optional_text (length spiffe_id == 0) 2 spiffe_id
jwt_text (a ∷ audience) spiffe_id =
    ap (λ (l : List ℕ). l ++ unless_empty 2 spiffe_id) (flat_map-cons (field_text 1) a audience)
    ∙ append_assoc (field_text 1 a) (flat_map (field_text 1) audience) (unless_empty 2 spiffe_id)
    ∙ ap (λ (l : List ℕ). field_text 1 a ++ l) (jwt_text audience spiffe_id)

jwt_allowed : (audience : List (List ℕ)) (spiffe_id : List ℕ)
    → AllByRecursion IsRequestText audience → IsRequestText spiffe_id
    → AllByRecursion IsField (jwt_fields audience spiffe_id)
jwt_allowed [] spiffe_id each ok =
    optional_fields (length spiffe_id == 0) 2 spiffe_id (omega arith) (omega arith) ok
jwt_allowed (a ∷ audience) spiffe_id each ok = (
  record { some = omega arith; small = omega arith; short = each.0.short },
  jwt_allowed audience spiffe_id each.1 ok,
)

record Jwt (audience : List (List ℕ)) (spiffe_id : List ℕ) (fs : List WireField) : Type 0 where
  all : list_all is_request_field fs ≡ true
  first : values_of 1 fs ≡ audience
  second : last_of 2 fs ≡ spiffe_id

jwt_says : (audience : List (List ℕ)) (spiffe_id : List ℕ)
    → AllByRecursion IsRequestText audience → IsRequestText spiffe_id
    → Jwt audience spiffe_id (as_fields (jwt_fields audience spiffe_id))
jwt_says [] spiffe_id each ok =
    let s = second_of (length spiffe_id == 0) spiffe_id refl ok in
    record { all = s.all; first = s.first; second = s.second }
jwt_says (a ∷ audience) spiffe_id each ok =
    let others = jwt_says audience spiffe_id each.1 ok in
    record {
      all = rw (is_utf8-from_IsUtf8 a each.0.utf8) others.all;
      first = ap (λ (l : List (List ℕ)). a ∷ l) others.first;
      second = others.second;
    }

abbrev jwt_found : List WireField → Option (List (List ℕ) × List ℕ)
jwt_found fs =
    cond (list_all is_request_field fs) (Some (values_of 1 fs, last_of 2 fs)) None

jwt_made : (audience : List (List ℕ)) (spiffe_id : List ℕ) (fs : List WireField)
    → Jwt audience spiffe_id fs
    → jwt_found fs
    ≡ Some (audience, spiffe_id)
jwt_made audience spiffe_id fs says =
    rw says.all (λ i. Some (says.first i, says.second i))

pub jwt_svid_request_back : (audience : List (List ℕ)) (spiffe_id : List ℕ)
    → AllByRecursion IsRequestText audience → IsRequestText spiffe_id
    → jwt_svid_request_in (jwt_svid_request audience spiffe_id) ≡ Some (audience, spiffe_id)
unfolding jwt_svid_request jwt_svid_request_in
jwt_svid_request_back audience spiffe_id each ok =
    ap (λ (l : List ℕ). fields_of l >>= jwt_found)
    (jwt_text audience spiffe_id)
    ∙ ap (λ (o : Option (List WireField)). o >>= jwt_found)
    (fields_back (jwt_fields audience spiffe_id) (jwt_allowed audience spiffe_id each ok))
    ∙ jwt_made audience spiffe_id (as_fields (jwt_fields audience spiffe_id))
    (jwt_says audience spiffe_id each ok)

-- a request to validate is one for an audience of one, or of none where it is empty
abbrev audiences : Bool → List ℕ → List (List ℕ)
audiences absent audience = cond absent [] (audience ∷ [])

first_text : (absent : Bool) (audience svid : List ℕ)
    → cond absent [] (field_text 1 audience) ++ unless_empty 2 svid
    ≡ text_of (jwt_fields (audiences absent audience) svid)
first_text true audience svid = optional_text (length svid == 0) 2 svid
first_text false audience svid =
    ap (λ (l : List ℕ). field_text 1 audience ++ l) (optional_text (length svid == 0) 2 svid)

audiences_allowed : (absent : Bool) (audience : List ℕ) → IsRequestText audience
    → AllByRecursion IsRequestText (audiences absent audience)
audiences_allowed true audience ok = tt
audiences_allowed false audience ok = (ok, tt)

audience_last : (absent : Bool) (audience : List ℕ) (fs : List WireField)
    → (length audience == 0) ≡ absent → values_of 1 fs ≡ audiences absent audience
    → last_of 1 fs ≡ audience
audience_last true audience fs is values = rw values (none_left audience is)
audience_last false audience fs is values = rw values refl

abbrev validation_found : List WireField → Option (List ℕ × List ℕ)
validation_found fs =
    cond (list_all is_request_field fs) (Some (last_of 1 fs, last_of 2 fs)) None

validation_made : (audience svid : List ℕ) (fs : List WireField)
    → Jwt (audiences (length audience == 0) audience) svid fs
    → validation_found fs
    ≡ Some (audience, svid)
validation_made audience svid fs says =
    let first = audience_last (length audience == 0) audience fs refl says.first in
    rw says.all (λ i. Some (first i, says.second i))

pub validation_request_back : (audience svid : List ℕ) → IsRequestText audience
    → IsRequestText svid
    → validation_request_in (validation_request audience svid) ≡ Some (audience, svid)
unfolding validation_request validation_request_in
validation_request_back audience svid first second =
    let each = audiences_allowed (length audience == 0) audience first in
    let named = audiences (length audience == 0) audience in
    ap (λ (l : List ℕ). fields_of l >>= validation_found)
    (first_text (length audience == 0) audience svid)
    ∙ ap (λ (o : Option (List WireField)). o >>= validation_found)
    (fields_back (jwt_fields named svid) (jwt_allowed named svid each second))
    ∙ validation_made audience svid (as_fields (jwt_fields named svid))
    (jwt_says named svid each second)
