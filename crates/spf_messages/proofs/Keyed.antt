-- Messages of a text and of what the fields of a second number make: claims and validations.
use Rattle.std.proofs.Common.{◌≡◌, ◌∙◌, ℕ, zero, suc, List, [], ◌∷◌, ◌++◌, Option, Some, None, Bool}
use Rattle.std.proofs.Common.{true, false, cond, refl, sym, ap, append_assoc, ◌<◌, arith}
use Rattle.std.proofs.lemmas.List.{append-nil}
use Rattle.std.proofs.lemmas.List.Concat.{flat_map-cons}
use Rattle.std.specs.Prelude.{◌&&◌}
use Rattle.std.specs.List.{flat_map, list_all}
use Rattle.std.specs.Option.{option_map}
use Rattle.spf_io.specs.Option.{◌>>=◌}
use Rattle.spf_api.specs.declared.response.Claim.{Claim}
use Rattle.spf_api.specs.declared.response.ClaimValue.{ClaimValue, Unset}
use Rattle.spf_api.specs.declared.response.ValidationResponse.{ValidationResponse}
use Rattle.spf_messages.specs.Wire.{WireField}
use Rattle.spf_messages.specs.Message.{fields_of, octets_of, has_number, values_of, last_or, each}
use Rattle.spf_messages.specs.Message.{is_entry_field, last_of_each}
use Rattle.spf_messages.specs.Folded.{folded, message_from, replaced, put_second, keyed_with}
use Rattle.spf_messages.specs.Folded.{value_put, claims_after, claims_put, said_and}
use Rattle.spf_messages.specs.Claims.{claim_name, claim_from, claim_with, claims_of, last_said}
use Rattle.spf_messages.specs.Claims.{merged, said_by, validation_from, validation_message, value_of}
use Rattle.spf_messages.proofs.Entries.{after_fields, replaced_first}

module _ {X : Type 0} (one : X → List ℕ → Option X) where
  -- what the octets make, one after another
  abbrev pub put_all : X → List (List ℕ) → Option X
  put_all x [] = Some x
  put_all x (o ∷ os) = one x o >>= λ y. put_all y os

  abbrev with_text : List ℕ → Option X → Option (List ℕ × X)
  with_text n x = x >>= λ y. Some (n, y)

  abbrev checked : Bool → List ℕ → Option X → Option (List ℕ × X)
  checked all n x = cond all (with_text n x) None

  none_checked : (all : Bool) (n : List ℕ) → None ≡ checked all n None
  none_checked true n = refl
  none_checked false n = refl

  put_first : (all : Bool) (n m : List ℕ) (y : Option X) (os : List (List ℕ)) (fs : List WireField)
      → ((x : X) → folded (keyed_with one) (n, x) fs ≡ checked all m (put_all x os))
      → (option_map (λ (x : X). (n, x)) y >>= λ next. folded (keyed_with one) next fs)
      ≡ checked all m (y >>= λ x. put_all x os)
  put_first all n m None os fs others = none_checked all m
  put_first all n m (Some y) os fs others = others y

  step : (allowed second : Bool) (n m octets : List ℕ) (x : X) (fs : List WireField)
      → ((y : X) → folded (keyed_with one) (n, y) fs
      ≡ checked (list_all is_entry_field fs) m (put_all y (values_of 2 fs)))
      → (cond allowed (option_map (λ (x : X). (n, x)) (cond second (one x octets) (Some x))) None
      >>= λ next. folded (keyed_with one) next fs)
      ≡ checked (allowed && list_all is_entry_field fs) m
      (put_all x (cond second (octets ∷ values_of 2 fs) (values_of 2 fs)))
  step false second n m octets x fs others = refl
  step true false n m octets x fs others = others x
  step true true n m octets x fs others =
      put_first (list_all is_entry_field fs) n m (one x octets) (values_of 2 fs) fs others

  pub keyed_folded : (n : List ℕ) (x : X) (fs : List WireField)
      → folded (keyed_with one) (n, x) fs
      ≡ checked (list_all is_entry_field fs) (last_or n (values_of 1 fs))
      (put_all x (values_of 2 fs))
  unfolding keyed_with
  keyed_folded n x [] = refl
  keyed_folded n x (f ∷ fs) =
      step (is_entry_field f) (has_number 2 f) (replaced 1 f n) (last_or n (values_of 1 (f ∷ fs)))
      (octets_of f) x fs
      (λ y. keyed_folded (replaced 1 f n) y fs
      ∙ ap (λ (m : List ℕ). checked (list_all is_entry_field fs) m (put_all y (values_of 2 fs)))
      (replaced_first 1 f fs n))

-- ---- a claim

value_first : (v : ClaimValue) (y : Option ClaimValue) (more : Option (List ClaimValue))
    → (y >>= λ x. more >>= λ vs. Some (last_or x vs))
    ≡ ((y >>= λ x. more >>= λ vs. Some (x ∷ vs)) >>= λ vs. Some (last_or v vs))
value_first v None more = refl
value_first v (Some y) None = refl
value_first v (Some y) (Some vs) = refl

values_put : (value : List ℕ → Option ClaimValue) (v : ClaimValue) (os : List (List ℕ))
    → put_all (value_put value) v os ≡ (each value os >>= λ vs. Some (last_or v vs))
values_put value v [] = refl
values_put value v (o ∷ os) =
    (λ i. value o >>= λ x. values_put value x os i)
    ∙ value_first v (value o) (each value os)

abbrev named_claim : List ℕ × ClaimValue → Claim
named_claim k = record { name = k.0; value = k.1 }

claim_of_put : (n : List ℕ) (v : ClaimValue) (found : Option (List ClaimValue))
    → option_map named_claim ((found >>= λ vs. Some (last_or v vs)) >>= λ y. Some (n, y))
    ≡ (found >>= λ vs. Some (record { name = n; value = last_or v vs }))
claim_of_put n v None = refl
claim_of_put n v (Some vs) = refl

claim_checked : (all : Bool) (value : List ℕ → Option ClaimValue) (fs : List WireField)
    → value [] ≡ Some Unset
    → option_map named_claim
    (cond all
    (put_all (value_put value) Unset (values_of 2 fs) >>= λ y. Some (last_or [] (values_of 1 fs), y))
    None)
    ≡ cond all (claim_from value fs) None
claim_checked false value fs empty = refl
claim_checked true value fs empty =
    ap (λ (x : Option ClaimValue). option_map named_claim
    (x >>= λ y. Some (last_or [] (values_of 1 fs), y)))
    (values_put value Unset (values_of 2 fs))
    ∙ claim_of_put (last_or [] (values_of 1 fs)) Unset (each value (values_of 2 fs))
    ∙ ap (λ (x : Option ClaimValue). x >>= λ first. each value (values_of 2 fs) >>= λ vs.
    Some (record { name = last_or [] (values_of 1 fs); value = last_or first vs })) (sym empty)

mapped_after : {M N : Type 0} (g : M → N) (fs : Option (List WireField))
    (one : List WireField → Option M)
    → option_map g (fs >>= one) ≡ (fs >>= λ x. option_map g (one x))
mapped_after g None one = refl
mapped_after g (Some fs) one = refl

pub claim_is_read : (value : List ℕ → Option ClaimValue) (bytes : List ℕ) → value [] ≡ Some Unset
    → option_map named_claim (message_from (keyed_with (value_put value)) ([], Unset) bytes)
    ≡ claim_with value bytes
claim_is_read value bytes empty =
    mapped_after named_claim (fields_of bytes) (folded (keyed_with (value_put value)) ([], Unset))
    ∙ after_fields (fields_of bytes) _ _
    (λ fs. ap (option_map named_claim) (keyed_folded (value_put value) [] Unset fs)
    ∙ claim_checked (list_all is_entry_field fs) value fs empty)

pub empty_value : (depth inner : ℕ) → depth ≡ suc inner → value_of depth [] ≡ Some Unset
empty_value depth inner is = λ i. value_of (is i) []

pub claim_found : (depth : ℕ) (bytes : List ℕ) (o : Option (List ℕ × ClaimValue)) → 0 < depth
    → o ≡ message_from (keyed_with (value_put (value_of depth))) ([], Unset) bytes
    → option_map named_claim o ≡ claim_with (value_of depth) bytes
claim_found zero bytes o some is = absurd (omega (arith, some))
claim_found (suc inner) bytes o some is =
    ap (option_map named_claim) is ∙ claim_is_read (value_of (suc inner)) bytes refl

either_none : (b : Bool) (o : Option Claim) → o ≡ None → None ≡ cond b o None
either_none true o is = sym is
either_none false o is = refl

no_claim_after : (fs : Option (List WireField))
    → None
    ≡ (fs >>= λ x. cond (list_all is_entry_field x) (claim_from (value_of zero) x) None)
no_claim_after None = refl
no_claim_after (Some fs) =
    either_none (list_all is_entry_field fs) (claim_from (value_of zero) fs) refl

pub no_claim : (depth : ℕ) (bytes : List ℕ) → depth ≡ 0 → None ≡ claim_with (value_of depth) bytes
no_claim zero bytes is = no_claim_after (fields_of bytes)
no_claim (suc inner) bytes is = absurd (omega (arith, is))

-- ---- one field of an entry

abbrev text_or : Option (List ℕ) → List ℕ
text_or None = []
text_or (Some n) = n

not_named : {X : Type 0} (b : Bool) (n : List ℕ) (y : Option X) → None ≡ cond b (Some n) None
    → cond b y None ≡ None
not_named false n y is = refl
not_named true n y is = absurd cc

pub refused_name : {X : Type 0} (one : X → List ℕ → Option X) (n : List ℕ) (x : X) (f : WireField)
    → None ≡ cond (is_entry_field f) (Some (replaced 1 f n)) None
    → keyed_with one (n, x) f ≡ None
unfolding keyed_with
refused_name one n x f is =
    not_named (is_entry_field f) (replaced 1 f n)
    (option_map (λ y. (replaced 1 f n, y)) (put_second one x f)) is

abbrev pub entry_named : {X : Type 0} → List ℕ → Option X → Option (List ℕ × X)
entry_named n x = option_map (λ y. (n, y)) x

named_step : {X : Type 0} (b : Bool) (m n : List ℕ) (o put : Option X)
    → Some m ≡ cond b (Some n) None → o ≡ put
    → cond b (entry_named n put) None ≡ entry_named m o
named_step false m n o put is from = absurd cc
named_step true m n o put is from = λ i. entry_named (text_or (sym is i)) (sym from i)

pub stepped : {X : Type 0} (one : X → List ℕ → Option X) (n m : List ℕ) (x : X) (o : Option X)
    (f : WireField)
    → Some m ≡ cond (is_entry_field f) (Some (replaced 1 f n)) None → o ≡ put_second one x f
    → keyed_with one (n, x) f ≡ entry_named m o
unfolding keyed_with
stepped one n m x o f is from =
    named_step (is_entry_field f) m (replaced 1 f n) o (put_second one x f) is from

-- ---- a value

said_first : (v : ClaimValue) (s : Option (Option ClaimValue))
    (more : Option (List (Option ClaimValue)))
    → (option_map (λ x. last_said v (x ∷ [])) s >>= λ x. more >>= λ others.
    Some (last_said x others))
    ≡ ((s >>= λ x. more >>= λ others. Some (x ∷ others)) >>= λ said. Some (last_said v said))
said_first v None more = refl
said_first v (Some None) None = refl
said_first v (Some (Some x)) None = refl
said_first v (Some None) (Some others) = refl
said_first v (Some (Some x)) (Some others) = refl

said_folded : (said : WireField → Option (Option ClaimValue)) (v : ClaimValue)
    (fs : List WireField)
    → folded (said_and said) v fs ≡ (each said fs >>= λ s. Some (last_said v s))
said_folded said v [] = refl
said_folded said v (f ∷ fs) =
    (λ i. said_and said v f >>= λ x. said_folded said x fs i)
    ∙ said_first v (said f) (each said fs)

pub value_is_read : (depth inner : ℕ) (bytes : List ℕ) → depth ≡ suc inner
    → message_from (said_and (said_by (value_of inner))) Unset bytes ≡ value_of depth bytes
value_is_read depth inner bytes is =
    after_fields (fields_of bytes) _ _ (said_folded (said_by (value_of inner)) Unset)
    ∙ (λ i. value_of (sym is i) bytes)

-- ---- a validation

abbrev joined : Option (List Claim) → List (List Claim) → Option (List Claim)
joined before [] = before
joined before (c ∷ cs) = joined (Some (claims_after before c)) cs

claims_first : (before : Option (List Claim)) (c : Option (List Claim))
    (more : Option (List (List Claim)))
    → (option_map (λ claims. Some (claims_after before claims)) c >>= λ x. more >>= λ cs.
    Some (joined x cs))
    ≡ ((c >>= λ x. more >>= λ cs. Some (x ∷ cs)) >>= λ cs. Some (joined before cs))
claims_first before None more = refl
claims_first before (Some c) None = refl
claims_first before (Some c) (Some cs) = refl

all_claims : (before : Option (List Claim)) (os : List (List ℕ))
    → put_all claims_put before os ≡ (each claims_of os >>= λ cs. Some (joined before cs))
all_claims before [] = refl
all_claims before (o ∷ os) =
    (λ i. claims_put before o >>= λ x. all_claims x os i)
    ∙ claims_first before (claims_of o) (each claims_of os)

joined_some : (before : List Claim) (cs : List (List Claim))
    → joined (Some before) cs ≡ Some (before ++ flat_map (λ (l : List Claim). l) cs)
joined_some before [] = ap Some (sym (append-nil before))
joined_some before (c ∷ cs) =
    joined_some (before ++ c) cs
    ∙ ap Some (append_assoc before c (flat_map (λ (l : List Claim). l) cs)
    ∙ ap (λ (l : List Claim). before ++ l)
    (sym (flat_map-cons (λ (l : List Claim). l) c cs)))

joined_merged : (cs : List (List Claim))
    → option_map (last_of_each claim_name) (joined None cs) ≡ merged cs
joined_merged [] = refl
joined_merged (c ∷ cs) =
    ap (option_map (last_of_each claim_name)) (joined_some c cs)
    ∙ ap (λ (l : List Claim). Some (last_of_each claim_name l))
    (sym (flat_map-cons (λ (l : List Claim). l) c cs))

-- the validation that the text and the claims make
abbrev pub validation_made : List ℕ × Option (List Claim) → ValidationResponse
validation_made k = record {
  spiffe_id = k.0;
  claims = option_map (last_of_each claim_name) k.1;
}

made_of : (n : List ℕ) (found : Option (List (List Claim)))
    → option_map validation_made
    ((found >>= λ cs. Some (joined None cs)) >>= λ y. Some (n, y))
    ≡ (found >>= λ cs. Some (record { spiffe_id = n; claims = merged cs }))
made_of n None = refl
made_of n (Some cs) = λ i. Some (record { spiffe_id = n; claims = joined_merged cs i })

validation_checked : (all : Bool) (fs : List WireField)
    → option_map validation_made
    (cond all
    (put_all claims_put None (values_of 2 fs) >>= λ y. Some (last_or [] (values_of 1 fs), y))
    None)
    ≡ cond all (validation_from fs) None
validation_checked false fs = refl
validation_checked true fs =
    ap (λ (x : Option (Option (List Claim))). option_map validation_made
    (x >>= λ y. Some (last_or [] (values_of 1 fs), y)))
    (all_claims None (values_of 2 fs))
    ∙ made_of (last_or [] (values_of 1 fs)) (each claims_of (values_of 2 fs))

pub validation_is_read : (bytes : List ℕ)
    → option_map validation_made (message_from (keyed_with claims_put) ([], None) bytes)
    ≡ validation_message bytes
unfolding validation_message
validation_is_read bytes =
    mapped_after validation_made (fields_of bytes) (folded (keyed_with claims_put) ([], None))
    ∙ after_fields (fields_of bytes) _ _
    (λ fs. ap (option_map validation_made) (keyed_folded claims_put [] None fs)
    ∙ validation_checked (list_all is_entry_field fs) fs)

pub validation_found : (bytes : List ℕ) (o : Option (List ℕ × Option (List Claim)))
    → o ≡ message_from (keyed_with claims_put) ([], None) bytes
    → option_map validation_made o ≡ validation_message bytes
validation_found bytes o is = ap (option_map validation_made) is ∙ validation_is_read bytes

abbrev validation_with : List ℕ → Option (List Claim) → ValidationResponse
validation_with name claims = record { spiffe_id = name; claims = claims }

pub validation_owned : (bytes name text : List ℕ) (read claims : Option (List Claim))
    → Some (name, read) ≡ message_from (keyed_with claims_put) ([], None) bytes
    → text ≡ name → claims ≡ option_map (last_of_each claim_name) read
    → Some (validation_with text claims) ≡ validation_message bytes
validation_owned bytes name text read claims is copied kept =
    (λ i. Some (validation_with (copied i) (kept i)))
    ∙ validation_found bytes (Some (name, read)) is
