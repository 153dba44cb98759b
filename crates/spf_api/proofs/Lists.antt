-- What is laid out is read, and what is read was laid out: lists and entries.
use Rattle.std.proofs.Common.{◌≡◌, ℕ, zero, suc, ◌^◌, ◌<◌, List, [], ◌∷◌, ◌++◌, length, Option}
use Rattle.std.proofs.Common.{Some, None, refl, sym, ap, ◌∙◌, subst, append_assoc}
use Rattle.std.specs.List.{flat_map, All}
use Rattle.std.specs.Int.{w32, to_be_bytes}
use Rattle.std.proofs.lemmas.List.Elements.{All-nil, All-cons, All-head, All-tail}
use Rattle.std.proofs.lemmas.List.Concat.{flat_map-cons}
use Rattle.spf_api.specs.declared.response.SvidEntry.{SvidEntry}
use Rattle.spf_api.specs.declared.response.BundleEntry.{BundleEntry}
use Rattle.spf_api.specs.declared.response.JwtSvidEntry.{JwtSvidEntry}
use Rattle.spf_api.specs.Layout.{field_text, list_text, HasLength32, IsText, IsListOf}
use Rattle.spf_api.specs.Layout.{svid_entry_text, IsSvidEntry, bundle_entry_text, IsBundleEntry}
use Rattle.spf_api.specs.Layout.{jwt_svid_entry_text, IsJwtSvidEntry}
use Rattle.spf_api.specs.Reading.{◌>>=◌, number_at, byte_field_at, text_field_at, counted, list_at}
use Rattle.spf_api.specs.Reading.{svid_entry_at, bundle_entry_at, jwt_svid_entry_at}
use Rattle.spf_api.proofs.Spelled.{IsBytes, Reads, rest_bytes, bind_some, pair_parts, number_again}
use Rattle.spf_api.proofs.Spelled.{number_takes, byte_fields, text_fields}

-- the rest follows the text of x
abbrev pub Front : List ℕ → List ℕ → List ℕ → Type 0
Front bytes text rest = (bytes ≡ text ++ rest) × IsBytes rest

-- the bytes begin with what was read, and the rest are octets
pub front : {A : Type 0} {one : List ℕ → Option (A × List ℕ)} {text : A → List ℕ} {P : A → Type 0}
    (reads : Reads one text P)
    → (bytes : List ℕ) (x : A) (rest : List ℕ) → IsBytes bytes → one bytes ≡ Some (x, rest)
    → P x × Front bytes (text x) rest
front {A} {one} {text} {P} reads bytes x rest octets found =
    let taken = reads.takes bytes x rest octets found in
    (taken.0, (taken.1, rest_bytes (text x) rest (subst IsBytes taken.1 octets)))

-- one text after another
pub both : (bytes first middle second rest : List ℕ) → Front bytes first middle
    → Front middle second rest → Front bytes (first ++ second) rest
both bytes first middle second rest f s =
    (f.0 ∙ ap (λ (l : List ℕ). first ++ l) s.0 ∙ sym (append_assoc first second rest), s.1)

-- an entry that may be laid out, and its text before the rest
abbrev pub LaidFront : {A : Type 0} → (A → Type 0) → (A → List ℕ) → List ℕ → A → List ℕ → Type 0
LaidFront P text bytes x rest = P x × (bytes ≡ text x ++ rest)

-- the same of what is the same
pub laid_same : {A : Type 0} (P : A → Type 0) (text : A → List ℕ) (bytes : List ℕ)
    (x y : A × List ℕ) → Some x ≡ Some y
    → LaidFront P text bytes x.0 x.1 → LaidFront P text bytes y.0 y.1
laid_same {A} P text bytes x y same laid =
    let parts = pair_parts x y same in
    (subst P parts.0 laid.0, laid.1 ∙ (λ k. text (parts.0 k) ++ parts.1 k))

-- a read that went on, and how
pub bind_then : {A B Q : Type 0} (r : Option A) (f : A → Option B) (y : B) → (r >>= f) ≡ Some y
    → ((x : A) → r ≡ Some x → f x ≡ Some y → Q) → Q
bind_then None f y e go = absurd cc
bind_then (Some x) f y e go = go x refl e

counted_again : {A : Type 0} {one : List ℕ → Option (A × List ℕ)} {text : A → List ℕ}
    {P : A → Type 0} (reads : Reads one text P)
    → (xs : List A) (rest : List ℕ) → All P xs
    → counted one (length xs) (flat_map text xs ++ rest) ≡ Some (xs, rest)
counted_again {A} {one} {text} {P} reads [] rest fits = refl
counted_again {A} {one} {text} {P} reads (x ∷ xs) rest fits =
    let regrouped : flat_map text (x ∷ xs) ++ rest ≡ text x ++ (flat_map text xs ++ rest) =
    ap (λ (l : List ℕ). l ++ rest) (flat_map-cons text x xs)
    ∙ append_assoc (text x) (flat_map text xs) rest in
    ap (counted one (suc (length xs))) regrouped
    ∙ rw (
      reads.again x (flat_map text xs ++ rest) (All-head P x xs fits),
      counted_again reads xs rest (All-tail P x xs fits),
    ) refl

counted_takes : {A : Type 0} {one : List ℕ → Option (A × List ℕ)} {text : A → List ℕ}
    {P : A → Type 0} (reads : Reads one text P)
    → (n : ℕ) (bytes : List ℕ) (xs : List A) (rest : List ℕ) → IsBytes bytes
    → counted one n bytes ≡ Some (xs, rest)
    → (length xs ≡ n) × All P xs × (bytes ≡ flat_map text xs ++ rest)
counted_takes {A} {one} {text} {P} reads zero bytes xs rest octets found =
    let same = pair_parts ([], bytes) (xs, rest) found in
    subst (λ (l : List A). (length l ≡ 0) × All P l × (bytes ≡ flat_map text l ++ rest)) same.0
    (refl, All-nil P, same.1)
counted_takes {A} {one} {text} {P} reads (suc n) bytes xs rest octets found =
    let a = bind_some (one bytes)
    (λ (x : A × List ℕ). counted one n x.1 >>= λ others. Some (x.0 ∷ others.0, others.1)) (xs, rest)
    found in
    let b = bind_some (counted one n a.0.1)
    (λ (others : List A × List ℕ). Some (a.0.0 ∷ others.0, others.1)) (xs, rest) a.2 in
    let same = pair_parts (a.0.0 ∷ b.0.0, b.0.1) (xs, rest) b.2 in
    let first = front reads bytes a.0.0 a.0.1 octets a.1 in
    let others = counted_takes reads n a.0.1 b.0.0 b.0.1 first.1.1 b.1 in
    let cut : bytes ≡ flat_map text (a.0.0 ∷ b.0.0) ++ b.0.1 =
    first.1.0 ∙ ap (λ (l : List ℕ). text a.0.0 ++ l) others.2
    ∙ sym (append_assoc (text a.0.0) (flat_map text b.0.0) b.0.1)
    ∙ ap (λ (l : List ℕ). l ++ b.0.1) (sym (flat_map-cons text a.0.0 b.0.0)) in
    subst (λ (l : List A).
    (length l ≡ suc n) × All P l × (bytes ≡ flat_map text l ++ rest)) same.0 (
      ap suc others.0,
      All-cons P a.0.0 b.0.0 first.0 others.1,
      cut ∙ ap (λ (l : List ℕ). flat_map text (a.0.0 ∷ b.0.0) ++ l) same.1,
    )

list_again : {A : Type 0} {one : List ℕ → Option (A × List ℕ)} {text : A → List ℕ} {P : A → Type 0}
    (reads : Reads one text P)
    → (xs : List A) (rest : List ℕ) → IsListOf P xs
    → list_at one (list_text text xs ++ rest) ≡ Some (xs, rest)
unfolding list_text
list_again {A} {one} {text} {P} reads xs rest fits =
    ap (list_at one) (append_assoc (to_be_bytes w32 (length xs)) (flat_map text xs) rest)
    ∙ rw (number_again (length xs) (flat_map text xs ++ rest) fits.short)
    (counted_again reads xs rest fits.each)

list_takes : {A : Type 0} {one : List ℕ → Option (A × List ℕ)} {text : A → List ℕ} {P : A → Type 0}
    (reads : Reads one text P)
    → (bytes : List ℕ) (xs : List A) (rest : List ℕ) → IsBytes bytes
    → list_at one bytes ≡ Some (xs, rest) → IsListOf P xs × (bytes ≡ list_text text xs ++ rest)
unfolding list_text
list_takes {A} {one} {text} {P} reads bytes xs rest octets found =
    let a = bind_some (number_at bytes) (λ (n : ℕ × List ℕ). counted one n.0 n.1) (xs, rest)
    found in
    let number = number_takes bytes a.0.0 a.0.1 octets a.1 in
    let after : IsBytes a.0.1 =
    rest_bytes (to_be_bytes w32 a.0.0) a.0.1 (subst IsBytes number.1 octets) in
    let members = counted_takes reads a.0.0 a.0.1 xs rest after a.2 in
    let short : HasLength32 xs = subst (λ (n : ℕ). n < 2 ^ 32) (sym members.0) number.0 in
    let cut : bytes ≡ to_be_bytes w32 (length xs) ++ (flat_map text xs ++ rest) =
    number.1 ∙ (λ i. to_be_bytes w32 (sym members.0 i) ++ members.2 i) in (
      record { short = short; each = members.1 },
      cut ∙ sym (append_assoc (to_be_bytes w32 (length xs)) (flat_map text xs) rest),
    )

pub lists : {A : Type 0} {one : List ℕ → Option (A × List ℕ)} {text : A → List ℕ} {P : A → Type 0}
    → Reads one text P → Reads (list_at one) (list_text text) (IsListOf P)
lists reads = record { again = list_again reads; takes = list_takes reads }

svid_entry_again : (e : SvidEntry) (rest : List ℕ) → IsSvidEntry e
    → svid_entry_at (svid_entry_text e ++ rest) ≡ Some (e, rest)
unfolding svid_entry_at svid_entry_text
svid_entry_again e rest fits =
    let i = field_text e.spiffe_id in
    let c = field_text e.x509_svid in
    let k = field_text e.x509_svid_key in
    let b = field_text e.bundle in
    let h = field_text e.hint in
    let regrouped : (i ++ (c ++ (k ++ (b ++ (h ++ []))))) ++ rest
    ≡ i ++ (c ++ (k ++ (b ++ (h ++ rest)))) = simp append_assoc in
    ap svid_entry_at regrouped
    ∙ rw (
      text_fields.again e.spiffe_id (c ++ (k ++ (b ++ (h ++ rest)))) fits.spiffe_id,
      byte_fields.again e.x509_svid (k ++ (b ++ (h ++ rest))) fits.x509_svid,
      byte_fields.again e.x509_svid_key (b ++ (h ++ rest)) fits.x509_svid_key,
      byte_fields.again e.bundle (h ++ rest) fits.bundle,
      text_fields.again e.hint rest fits.hint,
    ) refl

svid_entry_laid : (i c k b h first second third fourth bytes rest : List ℕ)
    → IsText i × Front bytes (field_text i) first
    → HasLength32 c × Front first (field_text c) second
    → HasLength32 k × Front second (field_text k) third
    → HasLength32 b × Front third (field_text b) fourth
    → IsText h × Front fourth (field_text h) rest
    → LaidFront IsSvidEntry svid_entry_text bytes
    (record { spiffe_id = i; x509_svid = c; x509_svid_key = k; bundle = b; hint = h }) rest
unfolding svid_entry_text
svid_entry_laid i c k b h first second third fourth bytes rest fi fc fk fb fh = (
  record { spiffe_id = fi.0; x509_svid = fc.0; x509_svid_key = fk.0; bundle = fb.0; hint = fh.0 },
  (both bytes (field_text i) first
      (field_text c ++ (field_text k ++ (field_text b ++ (field_text h ++ [])))) rest fi.1
      (both first (field_text c) second (field_text k ++ (field_text b ++ (field_text h ++ [])))
      rest fc.1
      (both second (field_text k) third (field_text b ++ (field_text h ++ [])) rest fk.1
      (both third (field_text b) fourth (field_text h ++ []) rest fb.1
      (both fourth (field_text h) rest [] rest fh.1 (refl, fh.1.1)))))).0,
)

svid_entry_takes : (bytes : List ℕ) (e : SvidEntry) (rest : List ℕ) → IsBytes bytes
    → svid_entry_at bytes ≡ Some (e, rest)
    → LaidFront IsSvidEntry svid_entry_text bytes e rest
unfolding svid_entry_at
svid_entry_takes bytes e rest octets found =
    bind_then (text_field_at bytes) _ (e, rest) found (λ i i_is then_i.
    bind_then (byte_field_at i.1) _ (e, rest) then_i (λ c c_is then_c.
    bind_then (byte_field_at c.1) _ (e, rest) then_c (λ k k_is then_k.
    bind_then (byte_field_at k.1) _ (e, rest) then_k (λ b b_is then_b.
    bind_then (text_field_at b.1) _ (e, rest) then_b (λ h h_is made.
    let fi = front text_fields bytes i.0 i.1 octets i_is in
    let fc = front byte_fields i.1 c.0 c.1 fi.1.1 c_is in
    let fk = front byte_fields c.1 k.0 k.1 fc.1.1 k_is in
    let fb = front byte_fields k.1 b.0 b.1 fk.1.1 b_is in
    let fh = front text_fields b.1 h.0 h.1 fb.1.1 h_is in
    laid_same IsSvidEntry svid_entry_text bytes (
      record { spiffe_id = i.0; x509_svid = c.0; x509_svid_key = k.0; bundle = b.0; hint = h.0 },
      h.1,
    ) (e, rest) made
    (svid_entry_laid i.0 c.0 k.0 b.0 h.0 i.1 c.1 k.1 b.1 bytes h.1 fi fc fk fb fh))))))

pub svid_entries : Reads svid_entry_at svid_entry_text IsSvidEntry
svid_entries = record { again = svid_entry_again; takes = svid_entry_takes }

bundle_entry_again : (e : BundleEntry) (rest : List ℕ) → IsBundleEntry e
    → bundle_entry_at (bundle_entry_text e ++ rest) ≡ Some (e, rest)
unfolding bundle_entry_at bundle_entry_text
bundle_entry_again e rest fits =
    let n = field_text e.name in
    let b = field_text e.bundle in
    let regrouped : (n ++ (b ++ [])) ++ rest ≡ n ++ (b ++ rest) = simp append_assoc in
    ap bundle_entry_at regrouped
    ∙ rw (
      text_fields.again e.name (b ++ rest) fits.name,
      byte_fields.again e.bundle rest fits.bundle,
    ) refl

bundle_entry_laid : (n b first bytes rest : List ℕ) → IsText n × Front bytes (field_text n) first
    → HasLength32 b × Front first (field_text b) rest
    → LaidFront IsBundleEntry bundle_entry_text bytes (record { name = n; bundle = b }) rest
unfolding bundle_entry_text
bundle_entry_laid n b first bytes rest fn fb = (
  record { name = fn.0; bundle = fb.0 },
  (both bytes (field_text n) first (field_text b ++ []) rest fn.1
      (both first (field_text b) rest [] rest fb.1 (refl, fb.1.1))).0,
)

bundle_entry_takes : (bytes : List ℕ) (e : BundleEntry) (rest : List ℕ) → IsBytes bytes
    → bundle_entry_at bytes ≡ Some (e, rest)
    → LaidFront IsBundleEntry bundle_entry_text bytes e rest
unfolding bundle_entry_at
bundle_entry_takes bytes e rest octets found =
    bind_then (text_field_at bytes) _ (e, rest) found (λ n n_is then_n.
    bind_then (byte_field_at n.1) _ (e, rest) then_n (λ b b_is made.
    let fn = front text_fields bytes n.0 n.1 octets n_is in
    let fb = front byte_fields n.1 b.0 b.1 fn.1.1 b_is in
    laid_same IsBundleEntry bundle_entry_text bytes (record { name = n.0; bundle = b.0 }, b.1) (
      e,
      rest,
    ) made
    (bundle_entry_laid n.0 b.0 n.1 bytes b.1 fn fb)))

pub bundle_entries : Reads bundle_entry_at bundle_entry_text IsBundleEntry
bundle_entries = record { again = bundle_entry_again; takes = bundle_entry_takes }

jwt_svid_entry_again : (e : JwtSvidEntry) (rest : List ℕ) → IsJwtSvidEntry e
    → jwt_svid_entry_at (jwt_svid_entry_text e ++ rest) ≡ Some (e, rest)
unfolding jwt_svid_entry_at jwt_svid_entry_text
jwt_svid_entry_again e rest fits =
    let i = field_text e.spiffe_id in
    let t = field_text e.svid in
    let h = field_text e.hint in
    let regrouped : (i ++ (t ++ (h ++ []))) ++ rest ≡ i ++ (t ++ (h ++ rest)) = simp append_assoc in
    ap jwt_svid_entry_at regrouped
    ∙ rw (
      text_fields.again e.spiffe_id (t ++ (h ++ rest)) fits.spiffe_id,
      text_fields.again e.svid (h ++ rest) fits.svid,
      text_fields.again e.hint rest fits.hint,
    ) refl

jwt_svid_entry_laid : (i t h first second bytes rest : List ℕ)
    → IsText i × Front bytes (field_text i) first → IsText t × Front first (field_text t) second
    → IsText h × Front second (field_text h) rest
    → LaidFront IsJwtSvidEntry jwt_svid_entry_text bytes
    (record { spiffe_id = i; svid = t; hint = h }) rest
unfolding jwt_svid_entry_text
jwt_svid_entry_laid i t h first second bytes rest fi ft fh = (
  record { spiffe_id = fi.0; svid = ft.0; hint = fh.0 },
  (both bytes (field_text i) first (field_text t ++ (field_text h ++ [])) rest fi.1
      (both first (field_text t) second (field_text h ++ []) rest ft.1
      (both second (field_text h) rest [] rest fh.1 (refl, fh.1.1)))).0,
)

jwt_svid_entry_takes : (bytes : List ℕ) (e : JwtSvidEntry) (rest : List ℕ) → IsBytes bytes
    → jwt_svid_entry_at bytes ≡ Some (e, rest)
    → LaidFront IsJwtSvidEntry jwt_svid_entry_text bytes e rest
unfolding jwt_svid_entry_at
jwt_svid_entry_takes bytes e rest octets found =
    bind_then (text_field_at bytes) _ (e, rest) found (λ i i_is then_i.
    bind_then (text_field_at i.1) _ (e, rest) then_i (λ t t_is then_t.
    bind_then (text_field_at t.1) _ (e, rest) then_t (λ h h_is made.
    let fi = front text_fields bytes i.0 i.1 octets i_is in
    let ft = front text_fields i.1 t.0 t.1 fi.1.1 t_is in
    let fh = front text_fields t.1 h.0 h.1 ft.1.1 h_is in
    laid_same IsJwtSvidEntry jwt_svid_entry_text bytes
    (record { spiffe_id = i.0; svid = t.0; hint = h.0 }, h.1) (e, rest) made
    (jwt_svid_entry_laid i.0 t.0 h.0 i.1 t.1 bytes h.1 fi ft fh))))

pub jwt_svid_entries : Reads jwt_svid_entry_at jwt_svid_entry_text IsJwtSvidEntry
jwt_svid_entries = record { again = jwt_svid_entry_again; takes = jwt_svid_entry_takes }
