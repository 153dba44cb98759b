-- What is laid out is read, and what is read was laid out: claims.
use Rattle.std.proofs.Common.{◌≡◌, ℕ, ℤ, zero, suc, ◌+◌, ◌^◌, ◌<◌, Bool, true, false, cond, eqb}
use Rattle.std.proofs.Common.{List, [], ◌∷◌, ◌++◌, map, Option, Some, None, SFits, to_z, of_z}
use Rattle.std.proofs.Common.{rules, refl, sym, ap, ◌∙◌, subst, append_assoc, arith}
use Rattle.std.proofs.Math.Facts as fact
use Rattle.std.proofs.lemmas.Int as int
use Rattle.std.proofs.lemmas.Bool.{eqb-true}
use Rattle.std.proofs.lemmas.Nat.{be_bytes_8, from_be_bytes-to_be_bytes_8}
use Rattle.std.proofs.lemmas.List.{length-map}
use Rattle.std.proofs.lemmas.List.Folds.{flat_map-map}
use Rattle.std.specs.Int.{w32, w64, to_be_bytes, from_be_bytes}
use Rattle.spf_api.specs.declared.response.Claim.{Claim}
use Rattle.spf_api.specs.declared.response.ClaimValue.{ClaimValue, ClaimValue-F, Unset, Null}
use Rattle.spf_api.specs.declared.response.ClaimValue.{Bool as Truth, Whole, OtherNumber, Words}
use Rattle.spf_api.specs.declared.response.ClaimValue.{Items, Fields, the_lemmas, out-ClaimValue}
use Rattle.spf_api.specs.declared.response.ClaimValue.{roll-ClaimValue, roll-out-ClaimValue}
use Rattle.spf_api.specs.Layout.{field_text, list_text, IsText, IsListOf}
use Rattle.spf_api.specs.Reading.{text_field_at, list_at}
use Rattle.spf_api.specs.Claims.{truth_octet, claim_value_text, claim_text, IsClaim, IsLayer}
use Rattle.spf_api.specs.Claims.{IsClaimValue, as_value, truth_at, whole_at, claim_at, contents_at}
use Rattle.spf_api.specs.Claims.{claim_value_at}
use Rattle.spf_api.proofs.Spelled.{IsBytes, Reads, pair_parts, text_fields}
use Rattle.spf_api.proofs.Lists.{front, both, LaidFront, laid_same, bind_then, lists}

-- the list of the texts is the text of the list
texts_of : {A : Type 0} (one : A → List ℕ) (xs : List A)
    → list_text (λ (text : List ℕ). text) (map one xs) ≡ list_text one xs
unfolding list_text
texts_of one xs =
    λ i. to_be_bytes w32 (length-map xs one i) ++ flat_map-map (λ (text : List ℕ). text) one xs i

pub unset_text : claim_value_text Unset ≡ 0 ∷ []
unfolding claim_value_text
unset_text = search (rules, the_lemmas)

pub null_text : claim_value_text Null ≡ 1 ∷ []
unfolding claim_value_text
null_text = search (rules, the_lemmas)

pub truth_text : (b : Bool) → claim_value_text (Truth b) ≡ 2 ∷ truth_octet b ∷ []
unfolding claim_value_text
truth_text b = search (rules, the_lemmas)

pub whole_text : (z : ℤ) → claim_value_text (Whole z) ≡ 3 ∷ to_be_bytes w64 (of_z w64 z)
unfolding claim_value_text
whole_text z = search (rules, the_lemmas)

pub other_number_text : (t : List ℕ) → claim_value_text (OtherNumber t) ≡ 4 ∷ field_text t
unfolding claim_value_text
other_number_text t = search (rules, the_lemmas)

pub words_text : (t : List ℕ) → claim_value_text (Words t) ≡ 5 ∷ field_text t
unfolding claim_value_text
words_text t = search (rules, the_lemmas)

items_layer : (vs : List ClaimValue)
    → claim_value_text (Items vs) ≡ 6 ∷ list_text (λ (t : List ℕ). t) (map claim_value_text vs)
unfolding claim_value_text
items_layer vs = search (rules, the_lemmas)

pub items_text : (vs : List ClaimValue)
    → claim_value_text (Items vs) ≡ 6 ∷ list_text claim_value_text vs
items_text vs = items_layer vs ∙ ap (λ (l : List ℕ). 6 ∷ l) (texts_of claim_value_text vs)

fields_layer : (cs : List Claim)
    → claim_value_text (Fields cs) ≡ 7 ∷ list_text (λ (t : List ℕ). t) (map claim_text cs)
unfolding claim_value_text claim_text
fields_layer cs = search (rules, the_lemmas)

pub fields_text : (cs : List Claim) → claim_value_text (Fields cs) ≡ 7 ∷ list_text claim_text cs
fields_text cs = fields_layer cs ∙ ap (λ (l : List ℕ). 7 ∷ l) (texts_of claim_text cs)

-- a value is a kind octet and its contents
pub value_opens : (depth inner : ℕ) (bytes : List ℕ) (kind : ℕ) (rest : List ℕ) → depth ≡ inner + 1
    → bytes ≡ kind ∷ rest
    → contents_at (claim_value_at inner) kind rest ≡ claim_value_at depth bytes
value_opens depth inner bytes kind rest deeper is =
    let next : suc inner ≡ depth = omega arith in
    (λ i. claim_value_at (next i) (kind ∷ rest)) ∙ ap (claim_value_at depth) (sym is)

-- nothing
nothing : Reads (λ bytes. Some (tt, bytes)) (λ (u : Unit {0}). []) (λ _. Unit {0})
nothing = record {
  again = λ u rest fits. refl;
  takes = λ bytes u rest octets e. let same = pair_parts (tt, bytes) (u, rest) e in (tt, same.1);
}

truth_again : (b : Bool) (rest : List ℕ) → truth_at ((truth_octet b ∷ []) ++ rest) ≡ Some (b, rest)
unfolding truth_at
truth_again true rest = refl
truth_again false rest = refl

-- which way a test went
pub went : {A Q : Type 0} (b : Bool) (x y z : A) → cond b x y ≡ z → (b ≡ true → x ≡ z → Q)
    → (b ≡ false → y ≡ z → Q) → Q
went true x y z e first second = first refl e
went false x y z e first second = second refl e

truth_takes : (bytes : List ℕ) (b : Bool) (rest : List ℕ) → IsBytes bytes
    → truth_at bytes ≡ Some (b, rest)
    → LaidFront (λ _. Unit {0}) (λ x. truth_octet x ∷ []) bytes b rest
unfolding truth_at
truth_takes [] b rest octets e = absurd cc
truth_takes (octet ∷ bytes) b rest octets e =
    went (eqb octet 0) (Some (false, bytes)) (cond (eqb octet 1) (Some (true, bytes)) None)
    (Some (b, rest)) e
    (λ is found.
    laid_same (λ _. Unit {0}) (λ x. truth_octet x ∷ []) (octet ∷ bytes) (false, bytes) (b, rest)
    found (tt, ap (λ (n : ℕ). n ∷ bytes) (eqb-true octet 0 is)))
    (λ _ other. went (eqb octet 1) (Some (true, bytes)) None (Some (b, rest)) other
    (λ is found.
    laid_same (λ _. Unit {0}) (λ x. truth_octet x ∷ []) (octet ∷ bytes) (true, bytes) (b, rest)
    found (tt, ap (λ (n : ℕ). n ∷ bytes) (eqb-true octet 1 is)))
    (λ _ none. absurd cc))

truths : Reads truth_at (λ b. truth_octet b ∷ []) (λ _. Unit {0})
truths = record { again = λ b rest fits. truth_again b rest; takes = truth_takes }

whole_again : (z : ℤ) (rest : List ℕ) → SFits w64 z
    → whole_at (to_be_bytes w64 (of_z w64 z) ++ rest) ≡ Some (z, rest)
unfolding whole_at
whole_again z rest fits =
    let n = of_z w64 z in
    ap (λ (m : ℕ). Some (to_z w64 m, rest))
    (from_be_bytes-to_be_bytes_8 n (fact.Fits-lt-pow (fact.Fits-of_z fits)))
    ∙ ap (λ (y : ℤ). Some (y, rest)) (fact.to_z-of_z fits)

eight_fit : (a b c d e f g h n : ℕ) → a < 256 → b < 256 → c < 256 → d < 256 → e < 256 → f < 256
    → g < 256 → h < 256
    → n ≡ from_be_bytes w64 (a ∷ b ∷ c ∷ d ∷ e ∷ f ∷ g ∷ h ∷ []) → n < 2 ^ 64
eight_fit a b c d e f g h n a_fits b_fits c_fits d_fits e_fits f_fits g_fits h_fits is = omega arith

whole_takes : (bytes : List ℕ) (z : ℤ) (rest : List ℕ) → IsBytes bytes
    → whole_at bytes ≡ Some (z, rest) → SFits w64 z × (bytes ≡ to_be_bytes w64 (of_z w64 z) ++ rest)
unfolding whole_at
whole_takes (a ∷ b ∷ c ∷ d ∷ e ∷ f ∷ g ∷ h ∷ bytes) z rest octets found =
    let front = a ∷ b ∷ c ∷ d ∷ e ∷ f ∷ g ∷ h ∷ [] in
    let n = from_be_bytes w64 front in
    let same = pair_parts (to_z w64 n, bytes) (z, rest) found in
    let fits : n < 2 ^ 64 =
    eight_fit a b c d e f g h n (octets 0) (octets 1) (octets 2) (octets 3) (octets 4) (octets 5)
    (octets 6) (octets 7) refl in
    let back : of_z w64 z ≡ n = ap (of_z w64) (sym same.0) ∙ int.of_z-to_z w64 n fits in
    let spelled : to_be_bytes w64 (of_z w64 z) ≡ front =
    be_bytes_8 front (of_z w64 z) refl (eight octets) back in (
      subst (SFits w64) same.0 (fact.sfits_to_z {w = w64} {n = n} (fact.Fits-of_lt fits)),
      (λ i. front ++ same.1 i) ∙ (λ i. sym spelled i ++ rest),
    )
  where
    eight : IsBytes (a ∷ b ∷ c ∷ d ∷ e ∷ f ∷ g ∷ h ∷ bytes)
        → IsBytes (a ∷ b ∷ c ∷ d ∷ e ∷ f ∷ g ∷ h ∷ [])
    eight k zero = k 0
    eight k (suc zero) = k 1
    eight k (suc (suc zero)) = k 2
    eight k (suc (suc (suc zero))) = k 3
    eight k (suc (suc (suc (suc zero)))) = k 4
    eight k (suc (suc (suc (suc (suc zero))))) = k 5
    eight k (suc (suc (suc (suc (suc (suc zero)))))) = k 6
    eight k (suc (suc (suc (suc (suc (suc (suc zero))))))) = k 7
    eight k (suc (suc (suc (suc (suc (suc (suc (suc i)))))))) = omega arith
whole_takes _ z rest octets found = absurd cc

wholes : Reads whole_at (λ z. to_be_bytes w64 (of_z w64 z)) (SFits w64)
wholes = record { again = whole_again; takes = whole_takes }

claim_again : {value_at : List ℕ → Option (ClaimValue × List ℕ)} {IsValue : ClaimValue → Type 0}
    → Reads value_at claim_value_text IsValue
    → (c : Claim) (rest : List ℕ) → IsClaim IsValue c
    → claim_at value_at (claim_text c ++ rest) ≡ Some (c, rest)
unfolding claim_at claim_text
claim_again {value_at} values c rest fits =
    let n = field_text c.name in
    let v = claim_value_text c.value in
    ap (claim_at value_at) (append_assoc n v rest)
    ∙ rw (text_fields.again c.name (v ++ rest) fits.name, values.again c.value rest fits.value) refl

claim_takes : {value_at : List ℕ → Option (ClaimValue × List ℕ)} {IsValue : ClaimValue → Type 0}
    → Reads value_at claim_value_text IsValue
    → (bytes : List ℕ) (c : Claim) (rest : List ℕ) → IsBytes bytes
    → claim_at value_at bytes ≡ Some (c, rest) → LaidFront (IsClaim IsValue) claim_text bytes c rest
unfolding claim_at claim_text
claim_takes {value_at} {IsValue} values bytes c rest octets found =
    bind_then (text_field_at bytes) _ (c, rest) found (λ n n_is then_n.
    bind_then (value_at n.1) _ (c, rest) then_n (λ v v_is made.
    let fn = front text_fields bytes n.0 n.1 octets n_is in
    let fv = front values n.1 v.0 v.1 fn.1.1 v_is in
    laid_same (IsClaim IsValue) claim_text bytes (record { name = n.0; value = v.0 }, v.1) (c, rest)
    made (
      record { name = fn.0; value = fv.0 },
      (both bytes (field_text n.0) n.1 (claim_value_text v.0) v.1 fn.1 fv.1).0,
    )))

pub claims : {value_at : List ℕ → Option (ClaimValue × List ℕ)} {IsValue : ClaimValue → Type 0}
    → Reads value_at claim_value_text IsValue
    → Reads (claim_at value_at) claim_text (IsClaim IsValue)
claims values = record { again = claim_again values; takes = claim_takes values }

-- values of one kind: the contents of such a value follow the kind octet
record Kind {A : Type 0} (kind : ℕ) (value : A → ClaimValue) (one : List ℕ → Option (A × List ℕ))
    (Fits : ClaimValue → Type 0) : Type 1 where
  text : A → List ℕ
  P : A → Type 0
  reads : Reads one text P
  spelled : (x : A) → claim_value_text (value x) ≡ kind ∷ text x
  fits : (x : A) → P x → Fits (value x)

kind_takes : {A : Type 0} {kind : ℕ} {value : A → ClaimValue} {one : List ℕ → Option (A × List ℕ)}
    {Fits : ClaimValue → Type 0} (k : Kind kind value one Fits)
    → (octet : ℕ) (bytes : List ℕ) (v : ClaimValue) (rest : List ℕ) → IsBytes bytes
    → eqb octet kind ≡ true → as_value value (one bytes) ≡ Some (v, rest)
    → LaidFront Fits claim_value_text (octet ∷ bytes) v rest
kind_takes {A} {kind} {value} {one} {Fits} k octet bytes v rest octets is found =
    bind_then (one bytes) _ (v, rest) found (λ x x_is made.
    let taken = k.reads.takes bytes x.0 x.1 octets x_is in
    laid_same Fits claim_value_text (octet ∷ bytes) (value x.0, x.1) (v, rest) made (
      k.fits x.0 taken.0,
      (λ i. eqb-true octet kind is i ∷ taken.1 i)
          ∙ ap (λ (l : List ℕ). l ++ x.1) (sym (k.spelled x.0)),
    ))

-- after its kind octet a value is read
kind_again : {A : Type 0} {kind : ℕ} {value : A → ClaimValue} {one : List ℕ → Option (A × List ℕ)}
    {Fits : ClaimValue → Type 0} (k : Kind kind value one Fits)
    → (depth : ℕ) (x : A) (rest : List ℕ) → k.P x
    → ((bytes : List ℕ) → claim_value_at (suc depth) (kind ∷ bytes) ≡ as_value value (one bytes))
    → claim_value_at (suc depth) (claim_value_text (value x) ++ rest) ≡ Some (value x, rest)
kind_again {A} {kind} {value} {one} k depth x rest fits reads_so =
    ap (λ (l : List ℕ). claim_value_at (suc depth) (l ++ rest)) (k.spelled x)
    ∙ reads_so (k.text x ++ rest) ∙ ap (as_value value) (k.reads.again x rest fits)

out_unset : out-ClaimValue Unset ≡ ClaimValue-F.Unset
out_unset = search (rules, the_lemmas)

out_null : out-ClaimValue Null ≡ ClaimValue-F.Null
out_null = search (rules, the_lemmas)

out_truth : (b : Bool) → out-ClaimValue (Truth b) ≡ ClaimValue-F.Bool b
out_truth b = search (rules, the_lemmas)

out_whole : (z : ℤ) → out-ClaimValue (Whole z) ≡ ClaimValue-F.Whole z
out_whole z = search (rules, the_lemmas)

out_other_number : (t : List ℕ) → out-ClaimValue (OtherNumber t) ≡ ClaimValue-F.OtherNumber t
out_other_number t = search (rules, the_lemmas)

out_words : (t : List ℕ) → out-ClaimValue (Words t) ≡ ClaimValue-F.Words t
out_words t = search (rules, the_lemmas)

out_items : (vs : List ClaimValue) → out-ClaimValue (Items vs) ≡ ClaimValue-F.Items vs
out_items vs = search (rules, the_lemmas)

out_fields : (cs : List Claim) → out-ClaimValue (Fields cs) ≡ ClaimValue-F.Fields cs
out_fields cs = search (rules, the_lemmas)

-- a value with that layer
rolled : (v : ClaimValue) (f : ClaimValue-F ClaimValue Claim) → out-ClaimValue v ≡ f
    → roll-ClaimValue f ≡ v
rolled v f is = ap roll-ClaimValue (sym is) ∙ roll-out-ClaimValue v

-- what is put after the kind octet of a value
pub value_put : (kind : ℕ) (contents : List ℕ) (v w : ClaimValue) (old mid new : List ℕ) → v ≡ w
    → claim_value_text w ≡ kind ∷ contents
    → mid ≡ old ++ kind ∷ [] → new ≡ mid ++ contents → new ≡ old ++ claim_value_text v
value_put kind contents v w old mid new is spelled first second =
    second ∙ ap (λ (l : List ℕ). l ++ contents) first ∙ append_assoc old (kind ∷ []) contents
    ∙ ap (λ (l : List ℕ). old ++ l) (sym spelled ∙ ap claim_value_text (sym is))

module _ (depth : ℕ)
    (values : Reads (claim_value_at depth) claim_value_text (IsClaimValue depth)) where
  abbrev Fits : ClaimValue → Type 0
  Fits = IsClaimValue (suc depth)

  layer : (v : ClaimValue) (f : ClaimValue-F ClaimValue Claim) → out-ClaimValue v ≡ f
      → IsLayer (IsClaimValue depth) f → Fits v
  layer v f out p = subst (IsLayer (IsClaimValue depth)) (sym out) p

  unset : Kind 0 (λ (u : Unit {0}). Unset) (λ bytes. Some (tt, bytes)) Fits
  unset = record {
    text = λ u. [];
    P = λ _. Unit {0};
    reads = nothing;
    spelled = λ u. unset_text;
    fits = λ u p. layer _ _ out_unset tt;
  }

  null : Kind 1 (λ (u : Unit {0}). Null) (λ bytes. Some (tt, bytes)) Fits
  null = record {
    text = λ u. [];
    P = λ _. Unit {0};
    reads = nothing;
    spelled = λ u. null_text;
    fits = λ u p. layer _ _ out_null tt;
  }

  truth : Kind 2 Truth truth_at Fits
  truth = record {
    text = λ b. truth_octet b ∷ [];
    P = λ _. Unit {0};
    reads = truths;
    spelled = truth_text;
    fits = λ b p. layer _ _ (out_truth b) tt;
  }

  whole : Kind 3 Whole whole_at Fits
  whole = record {
    text = λ z. to_be_bytes w64 (of_z w64 z);
    P = SFits w64;
    reads = wholes;
    spelled = whole_text;
    fits = λ z p. layer _ _ (out_whole z) p;
  }

  other_number : Kind 4 OtherNumber text_field_at Fits
  other_number = record {
    text = field_text;
    P = IsText;
    reads = text_fields;
    spelled = other_number_text;
    fits = λ t p. layer _ _ (out_other_number t) p;
  }

  words : Kind 5 Words text_field_at Fits
  words = record {
    text = field_text;
    P = IsText;
    reads = text_fields;
    spelled = words_text;
    fits = λ t p. layer _ _ (out_words t) p;
  }

  items : Kind 6 Items (list_at (claim_value_at depth)) Fits
  items = record {
    text = list_text claim_value_text;
    P = IsListOf (IsClaimValue depth);
    reads = lists values;
    spelled = items_text;
    fits = λ vs p. layer _ _ (out_items vs) p;
  }

  fields : Kind 7 Fields (list_at (claim_at (claim_value_at depth))) Fits
  fields = record {
    text = list_text claim_text;
    P = IsListOf (IsClaim (IsClaimValue depth));
    reads = lists (claims values);
    spelled = fields_text;
    fits = λ cs p. layer _ _ (out_fields cs) p;
  }

  abbrev IsAgain : ClaimValue → Type 0
  IsAgain v = (rest : List ℕ)
      → claim_value_at (suc depth) (claim_value_text v ++ rest) ≡ Some (v, rest)

  from_layer : (f : ClaimValue-F ClaimValue Claim) → IsLayer (IsClaimValue depth) f
      → IsAgain (roll-ClaimValue f)
  unfolding unset null truth whole other_number words items fields
  from_layer ClaimValue-F.Unset p =
      subst IsAgain (sym (rolled _ _ out_unset))
      (λ rest. kind_again unset depth tt rest tt (λ bytes. refl))
  from_layer ClaimValue-F.Null p =
      subst IsAgain (sym (rolled _ _ out_null))
      (λ rest. kind_again null depth tt rest tt (λ bytes. refl))
  from_layer (ClaimValue-F.Bool b) p =
      subst IsAgain (sym (rolled _ _ (out_truth b)))
      (λ rest. kind_again truth depth b rest tt (λ bytes. refl))
  from_layer (ClaimValue-F.Whole z) p =
      subst IsAgain (sym (rolled _ _ (out_whole z)))
      (λ rest. kind_again whole depth z rest p (λ bytes. refl))
  from_layer (ClaimValue-F.OtherNumber t) p =
      subst IsAgain (sym (rolled _ _ (out_other_number t)))
      (λ rest. kind_again other_number depth t rest p (λ bytes. refl))
  from_layer (ClaimValue-F.Words t) p =
      subst IsAgain (sym (rolled _ _ (out_words t)))
      (λ rest. kind_again words depth t rest p (λ bytes. refl))
  from_layer (ClaimValue-F.Items vs) p =
      subst IsAgain (sym (rolled _ _ (out_items vs)))
      (λ rest. kind_again items depth vs rest p (λ bytes. refl))
  from_layer (ClaimValue-F.Fields cs) p =
      subst IsAgain (sym (rolled _ _ (out_fields cs)))
      (λ rest. kind_again fields depth cs rest p (λ bytes. refl))

  value_again : (v : ClaimValue) (rest : List ℕ) → Fits v
      → claim_value_at (suc depth) (claim_value_text v ++ rest) ≡ Some (v, rest)
  value_again v rest p =
      subst IsAgain (roll-out-ClaimValue v) (from_layer (out-ClaimValue v) p) rest

  value_takes : (bytes : List ℕ) (v : ClaimValue) (rest : List ℕ) → IsBytes bytes
      → claim_value_at (suc depth) bytes ≡ Some (v, rest)
      → LaidFront Fits claim_value_text bytes v rest
  value_takes [] v rest octets e = absurd cc
  value_takes (k ∷ bytes) v rest octets e =
      let b : IsBytes bytes = λ i. octets (suc i) in
      went (eqb k 0) _ _ _ e (kind_takes unset k bytes v rest b) (λ _ e.
      went (eqb k 1) _ _ _ e (kind_takes null k bytes v rest b) (λ _ e.
      went (eqb k 2) _ _ _ e (kind_takes truth k bytes v rest b) (λ _ e.
      went (eqb k 3) _ _ _ e (kind_takes whole k bytes v rest b) (λ _ e.
      went (eqb k 4) _ _ _ e (kind_takes other_number k bytes v rest b) (λ _ e.
      went (eqb k 5) _ _ _ e (kind_takes words k bytes v rest b) (λ _ e.
      went (eqb k 6) _ _ _ e (kind_takes items k bytes v rest b) (λ _ e.
      went (eqb k 7) _ _ _ e (kind_takes fields k bytes v rest b) (λ _ e. absurd cc))))))))

-- values, up to the greatest depth
pub claim_values : (depth : ℕ) → Reads (claim_value_at depth) claim_value_text (IsClaimValue depth)
claim_values zero = record {
  again = λ v rest p. absurd p;
  takes = λ bytes v rest octets e. absurd cc;
}
claim_values (suc depth) = record {
  again = value_again depth (claim_values depth);
  takes = value_takes depth (claim_values depth);
}
