-- Certificates and keys: what is read is in the grammar, and what is in the grammar is read.
use Rattle.std.proofs.Common.{◌≡◌, ℕ, ◌+◌, inl, inr, Bool, false, cond, List, [], ◌∷◌, ◌++◌, length}
use Rattle.std.proofs.Common.{Some, None, nat_eq, refl, sym, ap, subst, ◌∙◌, ℤ, ◌||◌}
use Rattle.std.proofs.lemmas.List.{append-nil}
use Rattle.spf_io.specs.Option.{◌>>=◌}
use Rattle.spf_der.specs.Value.{Value, tagged_at, whole_at}
use Rattle.spf_der.specs.Types.{object_identifier_at, integer_at, default_false_at}
use Rattle.spf_der.specs.Types.{after_bit_string_at, after_algorithm_at}
use Rattle.spf_der.specs.Certificate.{after_version_at, validity_at, after_public_key_at}
use Rattle.spf_der.specs.Certificate.{after_unique_id_at, extension_text_at, after_issuer_at}
use Rattle.spf_der.specs.Certificate.{tbs_of, certificate_at, extension_at}
use Rattle.spf_der.specs.declared.certificate.ExtensionPart.{ExtensionPart}
use Rattle.spf_der.specs.Grammar.{joined, IntegerText, AlgorithmText, VersionText, UniqueIdText}
use Rattle.spf_der.specs.Grammar.{ExtensionText, ExtensionsText, TbsText, SignedText}
use Rattle.spf_der.proofs.Steps.{bind_some, passed}
use Rattle.spf_der.proofs.Values.{Octets, begins, some_is, no_rest, tagged_again, tagged_taken}
use Rattle.spf_der.proofs.Values.{whole_taken}
use Rattle.spf_der.proofs.Pieces.{Piece, octet_of, tag_of, absent, whole_ends, identifier_again}
use Rattle.spf_der.proofs.Pieces.{identifier_taken, integer_again, integer_taken, bits_again}
use Rattle.spf_der.proofs.Pieces.{bits_taken, algorithm_again, algorithm_taken, flag_again}
use Rattle.spf_der.proofs.Pieces.{flag_taken}
use Rattle.spf_der.proofs.Certificates.{version_again, version_taken, validity_again}
use Rattle.spf_der.proofs.Certificates.{validity_taken, public_key_again, public_key_taken}
use Rattle.spf_der.proofs.Certificates.{unique_id_again, unique_id_taken, tags_1, tags_2}
use Rattle.spf_der.proofs.Certificates.{listed_again, listed_taken}

-- ---- tbsCertificate

-- what comes before the validity was taken from the start
pub record Headed (bytes rest : List ℕ) : Type 0 where
  pub version : List ℕ
  pub number : List ℕ
  pub serial : List ℕ
  pub signature : List ℕ
  pub name : List ℕ
  pub issuer : List ℕ
  pub cut : bytes ≡ version ++ (serial ++ (signature ++ (issuer ++ rest)))
  pub version_is : VersionText version
  pub serial_is : IntegerText serial number
  pub signature_is : AlgorithmText signature
  pub issuer_is : Value issuer 48 name
  pub outer : Octets rest

issuer_again : (version number serial signature name issuer rest : List ℕ) → VersionText version
    → IntegerText serial number → AlgorithmText signature → Value issuer 48 name
    → after_issuer_at (version ++ (serial ++ (signature ++ (issuer ++ rest)))) ≡ Some rest
unfolding after_issuer_at
issuer_again version number serial signature name issuer rest version_is serial_is signature_is
    issuer_is =
    let after = serial ++ (signature ++ (issuer ++ rest)) in
    let none = absent serial 160 2 number (signature ++ (issuer ++ rest)) serial_is.value refl in
    rw (
      version_again version after version_is none,
      integer_again serial number (signature ++ (issuer ++ rest)) serial_is,
      algorithm_again signature (issuer ++ rest) signature_is,
      tagged_again issuer 48 name rest issuer_is,
    ) refl

issuer_taken : (bytes rest : List ℕ) → Octets bytes → after_issuer_at bytes ≡ Some rest
    → Headed bytes rest
unfolding after_issuer_at
issuer_taken bytes rest o is =
    let a : (s : List ℕ) × (after_version_at bytes ≡ Some s)
    × ((integer_at s >>= λ n. after_algorithm_at n.1 >>= λ i. tagged_at 48 i >>= λ v. Some v.1)
    ≡ Some rest) =
    bind_some {B = List ℕ} (after_version_at bytes)
    (λ s. integer_at s >>= λ n. after_algorithm_at n.1 >>= λ i. tagged_at 48 i >>= λ v. Some v.1)
    rest is in
    let b : (n : List ℕ × List ℕ) × (integer_at a.0 ≡ Some n)
    × ((after_algorithm_at n.1 >>= λ i. tagged_at 48 i >>= λ v. Some v.1) ≡ Some rest) =
    bind_some {B = List ℕ} (integer_at a.0)
    (λ n. after_algorithm_at n.1 >>= λ i. tagged_at 48 i >>= λ v. Some v.1) rest a.2 in
    let c : (i : List ℕ) × (after_algorithm_at b.0.1 ≡ Some i)
    × ((tagged_at 48 i >>= λ v. Some v.1) ≡ Some rest) =
    bind_some {B = List ℕ} (after_algorithm_at b.0.1) (λ i. tagged_at 48 i >>= λ v. Some v.1) rest
    b.2 in
    let d : (v : List ℕ × List ℕ) × (tagged_at 48 c.0 ≡ Some v) × (Some v.1 ≡ Some rest) =
    bind_some {B = List ℕ} (tagged_at 48 c.0) (λ v. Some v.1) rest c.2 in
    let p = version_taken bytes a.0 o a.1 in
    let q = integer_taken a.0 b.0.0 b.0.1 p.outer b.1 in
    let r = algorithm_taken b.0.1 c.0 q.outer c.1 in
    let s = tagged_taken 48 c.0 d.0.0 d.0.1 (octet_of 48 refl) (tag_of 48 refl) r.outer d.1 in
    subst (Headed bytes) (some_is d.0.1 rest d.2)
    (record {
      version = p.text;
      number = b.0.0;
      serial = q.text;
      signature = r.text;
      name = d.0.0;
      issuer = s.text;
      cut = p.cut
          ∙ ap (λ (z : List ℕ). p.text ++ z)
          (q.cut ∙ ap (λ (z : List ℕ). q.text ++ z)
          (r.cut ∙ ap (λ (z : List ℕ). r.text ++ z) s.cut));
      version_is = p.is;
      serial_is = q.is;
      signature_is = r.is;
      issuer_is = s.value;
      outer = s.outer;
    })

-- no unique identifier of that number is at the start
unnamed : (number : ℕ) (b : List ℕ) (tag : ℕ) (contents rest : List ℕ) → Value b tag contents
    → (nat_eq tag (128 + number) || nat_eq tag (160 + number)) ≡ false
    → after_unique_id_at number (b ++ rest) ≡ Some (b ++ rest)
unfolding after_unique_id_at
unnamed number b tag contents rest value differs =
    ap (after_unique_id_at number) (begins b tag contents rest value)
    ∙ rw differs (ap (λ (z : List ℕ). Some z) (sym (begins b tag contents rest value)))

nothing : (number : ℕ) → after_unique_id_at number [] ≡ Some []
unfolding after_unique_id_at
nothing number = refl

no_subject_id : (b list : List ℕ) → ExtensionsText b list
    → after_unique_id_at 2 (b ++ []) ≡ Some (b ++ [])
no_subject_id b list text =
    elim text [
      | inl none ↦ rw (none.0) (nothing 2)
      | inr there ↦ unnamed 2 b 163 there.inner [] there.value refl
    ]

no_issuer_id : (s b list : List ℕ) → UniqueIdText 2 s → ExtensionsText b list
    → after_unique_id_at 1 (s ++ (b ++ [])) ≡ Some (s ++ (b ++ []))
no_issuer_id s b list id text =
    elim id [
      | inl empty ↦ elim text [
        | inl none ↦ rw (empty, none.0) (nothing 1)
        | inr there ↦ rw empty (unnamed 1 b 163 there.inner [] there.value refl)
      ]
      | inr named ↦ elim named.value [
        | inl value ↦ unnamed 1 s 130 named.contents (b ++ []) value refl
        | inr value ↦ unnamed 1 s 162 named.contents (b ++ []) value refl
      ]
    ]

tbs_again : (b : List ℕ) (expiry : ℤ) (list : List ℕ) → TbsText b expiry list
    → tbs_of b ≡ Some (expiry, list)
unfolding tbs_of
tbs_again b expiry list t =
    let e = t.extensions ++ [] in
    let i2 = t.subject_id ++ e in
    let i1 = t.issuer_id ++ i2 in
    let k = t.public_key ++ i1 in
    let s = t.subject ++ k in
    ap tbs_of t.order
    ∙ rw (
      issuer_again t.version t.number t.serial t.signature t.issuer_name t.issuer (t.validity ++ s)
          t.version_is t.serial_is t.signature_is t.issuer_is,
      validity_again t.validity expiry s t.validity_is,
      tagged_again t.subject 48 t.subject_name k t.subject_is,
      public_key_again t.public_key i1 t.public_key_is,
      unique_id_again 1 t.issuer_id i2 t.issuer_id_is
          (no_issuer_id t.subject_id t.extensions list t.subject_id_is t.extensions_are),
      unique_id_again 2 t.subject_id e t.subject_id_is
          (no_subject_id t.extensions list t.extensions_are),
      listed_again t.extensions list t.extensions_are,
    ) refl

tbs_taken : (bytes : List ℕ) (expiry : ℤ) (list : List ℕ) → Octets bytes
    → tbs_of bytes ≡ Some (expiry, list) → TbsText bytes expiry list × Octets list
unfolding tbs_of
tbs_taken bytes expiry list o is =
    let a : (v : List ℕ) × (after_issuer_at bytes ≡ Some v)
    × ((validity_at v >>= λ s. tagged_at 48 s.1 >>= λ k. after_public_key_at k.1
    >>= λ i. after_unique_id_at 1 i >>= λ j. after_unique_id_at 2 j >>= λ e. extension_text_at e
    >>= λ t. Some (s.0, t)) ≡ Some (expiry, list)) =
    bind_some {B = ℤ × List ℕ} (after_issuer_at bytes)
    (λ v. validity_at v >>= λ s. tagged_at 48 s.1 >>= λ k. after_public_key_at k.1
    >>= λ i. after_unique_id_at 1 i >>= λ j. after_unique_id_at 2 j >>= λ e. extension_text_at e
    >>= λ t. Some (s.0, t)) (expiry, list) is in
    let b : (s : ℤ × List ℕ) × (validity_at a.0 ≡ Some s)
    × ((tagged_at 48 s.1 >>= λ k. after_public_key_at k.1 >>= λ i. after_unique_id_at 1 i
    >>= λ j. after_unique_id_at 2 j >>= λ e. extension_text_at e
    >>= λ t. Some (s.0, t)) ≡ Some (expiry, list)) =
    bind_some {B = ℤ × List ℕ} (validity_at a.0)
    (λ s. tagged_at 48 s.1 >>= λ k. after_public_key_at k.1 >>= λ i. after_unique_id_at 1 i
    >>= λ j. after_unique_id_at 2 j >>= λ e. extension_text_at e
    >>= λ t. Some (s.0, t)) (expiry, list) a.2 in
    let c : (k : List ℕ × List ℕ) × (tagged_at 48 b.0.1 ≡ Some k)
    × ((after_public_key_at k.1 >>= λ i. after_unique_id_at 1 i >>= λ j. after_unique_id_at 2 j
    >>= λ e. extension_text_at e >>= λ t. Some (b.0.0, t)) ≡ Some (expiry, list)) =
    bind_some {B = ℤ × List ℕ} (tagged_at 48 b.0.1)
    (λ k. after_public_key_at k.1 >>= λ i. after_unique_id_at 1 i >>= λ j. after_unique_id_at 2 j
    >>= λ e. extension_text_at e >>= λ t. Some (b.0.0, t)) (expiry, list) b.2 in
    let d : (i : List ℕ) × (after_public_key_at c.0.1 ≡ Some i)
    × ((after_unique_id_at 1 i >>= λ j. after_unique_id_at 2 j >>= λ e. extension_text_at e
    >>= λ t. Some (b.0.0, t)) ≡ Some (expiry, list)) =
    bind_some {B = ℤ × List ℕ} (after_public_key_at c.0.1)
    (λ i. after_unique_id_at 1 i >>= λ j. after_unique_id_at 2 j >>= λ e. extension_text_at e
    >>= λ t. Some (b.0.0, t)) (expiry, list) c.2 in
    let e : (j : List ℕ) × (after_unique_id_at 1 d.0 ≡ Some j)
    × ((after_unique_id_at 2 j >>= λ x. extension_text_at x >>= λ t. Some (b.0.0, t))
    ≡ Some (expiry, list)) =
    bind_some {B = ℤ × List ℕ} (after_unique_id_at 1 d.0)
    (λ j. after_unique_id_at 2 j >>= λ x. extension_text_at x >>= λ t. Some (b.0.0, t)) (
      expiry,
      list,
    ) d.2 in
    let f : (x : List ℕ) × (after_unique_id_at 2 e.0 ≡ Some x)
    × ((extension_text_at x >>= λ t. Some (b.0.0, t)) ≡ Some (expiry, list)) =
    bind_some {B = ℤ × List ℕ} (after_unique_id_at 2 e.0)
    (λ x. extension_text_at x >>= λ t. Some (b.0.0, t)) (expiry, list) e.2 in
    let g : (t : List ℕ) × (extension_text_at f.0 ≡ Some t)
    × (Some (b.0.0, t) ≡ Some (expiry, list)) =
    bind_some {B = ℤ × List ℕ} (extension_text_at f.0) (λ t. Some (b.0.0, t)) (expiry, list) f.2 in
    let p = issuer_taken bytes a.0 o a.1 in
    let q = validity_taken a.0 b.0.0 b.0.1 p.outer b.1 in
    let r = tagged_taken 48 b.0.1 c.0.0 c.0.1 (octet_of 48 refl) (tag_of 48 refl) q.outer c.1 in
    let s = public_key_taken c.0.1 d.0 r.outer d.1 in
    let t = unique_id_taken 1 d.0 e.0 tags_1 s.outer e.1 in
    let u = unique_id_taken 2 e.0 f.0 tags_2 t.outer f.1 in
    let w = listed_taken f.0 g.0 u.outer g.1 in
    let tail : a.0 ≡ q.text ++ (r.text ++ (s.text ++ (t.text ++ (u.text ++ (f.0 ++ []))))) =
    q.cut ∙ ap (λ (z : List ℕ). q.text ++ z)
    (r.cut ∙ ap (λ (z : List ℕ). r.text ++ z)
    (s.cut ∙ ap (λ (z : List ℕ). s.text ++ z)
    (t.cut ∙ ap (λ (z : List ℕ). t.text ++ z)
    (u.cut ∙ ap (λ (z : List ℕ). u.text ++ z) (sym (append-nil f.0)))))) in
    let order : bytes
    ≡ p.version
    ++ (p.serial
    ++ (p.signature
    ++ (p.issuer ++ (q.text ++ (r.text ++ (s.text ++ (t.text ++ (u.text ++ (f.0 ++ []))))))))) =
    p.cut ∙ ap (λ (z : List ℕ). p.version ++ (p.serial ++ (p.signature ++ (p.issuer ++ z)))) tail in
    let text : TbsText bytes b.0.0 g.0 = record {
      version = p.version;
      number = p.number;
      serial = p.serial;
      signature = p.signature;
      issuer_name = p.name;
      issuer = p.issuer;
      validity = q.text;
      subject_name = c.0.0;
      subject = r.text;
      public_key = s.text;
      issuer_id = t.text;
      subject_id = u.text;
      extensions = f.0;
      order = order;
      version_is = p.version_is;
      serial_is = p.serial_is;
      signature_is = p.signature_is;
      issuer_is = p.issuer_is;
      validity_is = q.is;
      subject_is = r.value;
      public_key_is = s.is;
      issuer_id_is = t.is;
      subject_id_is = u.is;
      extensions_are = w.0;
    } in
    subst (λ (y : ℤ × List ℕ). TbsText bytes y.0 y.1 × Octets y.1)
    (some_is (b.0.0, g.0) (expiry, list) g.2) (text, w.1)

-- ---- the whole

pub signed_again : (b : List ℕ) (expiry : ℤ) (list rest : List ℕ) → SignedText b expiry list
    → certificate_at (b ++ rest) ≡ Some (expiry, list, rest)
unfolding certificate_at
signed_again b expiry list rest t =
    rw (
      tagged_again b 48 (joined (t.tbs ∷ t.algorithm ∷ t.signature ∷ [])) rest t.value,
      tagged_again t.tbs 48 t.inner (t.algorithm ++ (t.signature ++ [])) t.tbs_is,
      tbs_again t.inner expiry list t.inner_is,
      algorithm_again t.algorithm (t.signature ++ []) t.algorithm_is,
      bits_again t.signature [] t.signature_is,
    ) refl

-- a certificate was taken from the start
pub record Signed (bytes : List ℕ) (expiry : ℤ) (list rest : List ℕ) : Type 0 where
  pub text : List ℕ
  pub is : SignedText text expiry list
  pub cut : bytes ≡ text ++ rest
  pub listed : Octets list

pub signed_taken : (bytes : List ℕ) (expiry : ℤ) (list rest : List ℕ) → Octets bytes
    → certificate_at bytes ≡ Some (expiry, list, rest) → Signed bytes expiry list rest
unfolding certificate_at
signed_taken bytes expiry list rest o is =
    let a : (w : List ℕ × List ℕ) × (tagged_at 48 bytes ≡ Some w)
    × ((tagged_at 48 w.0 >>= λ t. tbs_of t.0 >>= λ k. after_algorithm_at t.1
    >>= λ s. after_bit_string_at s
    >>= λ e. cond (nat_eq (length e) 0) (Some (k.0, k.1, w.1)) None) ≡ Some (expiry, list, rest)) =
    bind_some {B = ℤ × List ℕ × List ℕ} (tagged_at 48 bytes)
    (λ w. tagged_at 48 w.0 >>= λ t. tbs_of t.0 >>= λ k. after_algorithm_at t.1
    >>= λ s. after_bit_string_at s
    >>= λ e. cond (nat_eq (length e) 0) (Some (k.0, k.1, w.1)) None) (expiry, list, rest) is in
    let w = a.0 in
    let b : (t : List ℕ × List ℕ) × (tagged_at 48 w.0 ≡ Some t)
    × ((tbs_of t.0 >>= λ k. after_algorithm_at t.1 >>= λ s. after_bit_string_at s
    >>= λ e. cond (nat_eq (length e) 0) (Some (k.0, k.1, w.1)) None) ≡ Some (expiry, list, rest)) =
    bind_some {B = ℤ × List ℕ × List ℕ} (tagged_at 48 w.0)
    (λ t. tbs_of t.0 >>= λ k. after_algorithm_at t.1 >>= λ s. after_bit_string_at s
    >>= λ e. cond (nat_eq (length e) 0) (Some (k.0, k.1, w.1)) None) (expiry, list, rest) a.2 in
    let t = b.0 in
    let c : (k : ℤ × List ℕ) × (tbs_of t.0 ≡ Some k)
    × ((after_algorithm_at t.1 >>= λ s. after_bit_string_at s
    >>= λ e. cond (nat_eq (length e) 0) (Some (k.0, k.1, w.1)) None) ≡ Some (expiry, list, rest)) =
    bind_some {B = ℤ × List ℕ × List ℕ} (tbs_of t.0)
    (λ k. after_algorithm_at t.1 >>= λ s. after_bit_string_at s
    >>= λ e. cond (nat_eq (length e) 0) (Some (k.0, k.1, w.1)) None) (expiry, list, rest) b.2 in
    let k = c.0 in
    let d : (s : List ℕ) × (after_algorithm_at t.1 ≡ Some s)
    × ((after_bit_string_at s >>= λ e. cond (nat_eq (length e) 0) (Some (k.0, k.1, w.1)) None)
    ≡ Some (expiry, list, rest)) =
    bind_some {B = ℤ × List ℕ × List ℕ} (after_algorithm_at t.1)
    (λ s. after_bit_string_at s >>= λ e. cond (nat_eq (length e) 0) (Some (k.0, k.1, w.1)) None)
    (expiry, list, rest) c.2 in
    let e : (x : List ℕ) × (after_bit_string_at d.0 ≡ Some x)
    × (cond (nat_eq (length x) 0) (Some (k.0, k.1, w.1)) None ≡ Some (expiry, list, rest)) =
    bind_some {B = ℤ × List ℕ × List ℕ} (after_bit_string_at d.0)
    (λ x. cond (nat_eq (length x) 0) (Some (k.0, k.1, w.1)) None) (expiry, list, rest) d.2 in
    let last = passed (nat_eq (length e.0) 0) (k.0, k.1, w.1) (expiry, list, rest) e.2 in
    let p = tagged_taken 48 bytes w.0 w.1 (octet_of 48 refl) (tag_of 48 refl) o a.1 in
    let q = tagged_taken 48 w.0 t.0 t.1 (octet_of 48 refl) (tag_of 48 refl) p.inner b.1 in
    let r = tbs_taken t.0 k.0 k.1 q.inner c.1 in
    let u = algorithm_taken t.1 d.0 q.outer d.1 in
    let v = bits_taken d.0 e.0 u.outer e.1 in
    let order : w.0 ≡ joined (q.text ∷ u.text ∷ v.text ∷ []) =
    q.cut ∙ ap (λ (z : List ℕ). q.text ++ z)
    (u.cut ∙ ap (λ (z : List ℕ). u.text ++ z)
    (v.cut ∙ ap (λ (z : List ℕ). v.text ++ z) (no_rest e.0 last.0))) in
    let text : SignedText p.text k.0 k.1 = record {
      inner = t.0;
      tbs = q.text;
      algorithm = u.text;
      signature = v.text;
      value = subst (λ (x : List ℕ). Value p.text 48 x) order p.value;
      tbs_is = q.value;
      inner_is = r.0;
      algorithm_is = u.is;
      signature_is = v.is;
    } in
    subst (λ (y : ℤ × List ℕ × List ℕ). Signed bytes y.0 y.1 y.2) last.1
    (record { text = p.text; is = text; cut = p.cut; listed = r.1 })

-- ---- extensions

pub extension_again : (b : List ℕ) (extension : ExtensionPart) (rest : List ℕ)
    → ExtensionText b extension → extension_at (b ++ rest) ≡ Some (extension, rest)
unfolding extension_at
extension_again b extension rest t =
    let after = t.octets ++ [] in
    let flag = flag_again t.critical t.is_critical after t.critical_is
    (absent t.octets 1 4 extension.contents [] t.octets_are refl) in
    rw (
      tagged_again b 48 (joined (t.identifier ∷ t.critical ∷ t.octets ∷ [])) rest t.value,
      identifier_again t.identifier extension.oid (t.critical ++ after) t.identifier_is,
      flag,
      whole_ends t.octets 4 extension.contents t.octets_are,
    ) refl

pub extension_taken : (bytes : List ℕ) (extension : ExtensionPart) (rest : List ℕ) → Octets bytes
    → extension_at bytes ≡ Some (extension, rest)
    → Piece (λ b. ExtensionText b extension) bytes rest
unfolding extension_at
extension_taken bytes extension rest o is =
    let a : (w : List ℕ × List ℕ) × (tagged_at 48 bytes ≡ Some w)
    × ((object_identifier_at w.0 >>= λ i. default_false_at i.1 >>= λ f. whole_at 4 f.1
    >>= λ c. Some (record { oid = i.0; contents = c }, w.1)) ≡ Some (extension, rest)) =
    bind_some {B = ExtensionPart × List ℕ} (tagged_at 48 bytes)
    (λ w. object_identifier_at w.0 >>= λ i. default_false_at i.1 >>= λ f. whole_at 4 f.1
    >>= λ c. Some (record { oid = i.0; contents = c }, w.1)) (extension, rest) is in
    let w = a.0 in
    let b : (i : List ℕ × List ℕ) × (object_identifier_at w.0 ≡ Some i)
    × ((default_false_at i.1 >>= λ f. whole_at 4 f.1
    >>= λ c. Some (record { oid = i.0; contents = c }, w.1)) ≡ Some (extension, rest)) =
    bind_some {B = ExtensionPart × List ℕ} (object_identifier_at w.0)
    (λ i. default_false_at i.1 >>= λ f. whole_at 4 f.1
    >>= λ c. Some (record { oid = i.0; contents = c }, w.1)) (extension, rest) a.2 in
    let i = b.0 in
    let c : (f : Bool × List ℕ) × (default_false_at i.1 ≡ Some f)
    × ((whole_at 4 f.1 >>= λ x. Some (record { oid = i.0; contents = x }, w.1))
    ≡ Some (extension, rest)) =
    bind_some {B = ExtensionPart × List ℕ} (default_false_at i.1)
    (λ f. whole_at 4 f.1 >>= λ x. Some (record { oid = i.0; contents = x }, w.1)) (extension, rest)
    b.2 in
    let f = c.0 in
    let d : (x : List ℕ) × (whole_at 4 f.1 ≡ Some x)
    × (Some (record { oid = i.0; contents = x }, w.1) ≡ Some (extension, rest)) =
    bind_some {B = ExtensionPart × List ℕ} (whole_at 4 f.1)
    (λ x. Some (record { oid = i.0; contents = x }, w.1)) (extension, rest) c.2 in
    let p = tagged_taken 48 bytes w.0 w.1 (octet_of 48 refl) (tag_of 48 refl) o a.1 in
    let q = identifier_taken w.0 i.0 i.1 p.inner b.1 in
    let r = flag_taken i.1 f.0 f.1 q.outer c.1 in
    let s = whole_taken 4 f.1 d.0 (octet_of 4 refl) (tag_of 4 refl) r.outer d.1 in
    let made : ExtensionPart = record { oid = i.0; contents = d.0 } in
    let order : w.0 ≡ joined (q.text ∷ r.text ∷ f.1 ∷ []) =
    q.cut ∙ ap (λ (z : List ℕ). q.text ++ z)
    (r.cut ∙ ap (λ (z : List ℕ). r.text ++ z) (sym (append-nil f.1))) in
    let text : ExtensionText p.text made = record {
      is_critical = f.0;
      identifier = q.text;
      critical = r.text;
      octets = f.1;
      value = subst (λ (x : List ℕ). Value p.text 48 x) order p.value;
      identifier_is = q.is;
      critical_is = r.is;
      octets_are = s.value;
    } in
    subst (λ (y : ExtensionPart × List ℕ). Piece (λ x. ExtensionText x y.0) bytes y.1)
    (some_is (made, w.1) (extension, rest) d.2)
    (record { text = p.text; is = text; cut = p.cut; outer = p.outer })
