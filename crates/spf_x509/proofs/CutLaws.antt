-- What is refused as certificates, and as a key.
use Rattle.std.proofs.Common.{◌≡◌, ◌⊎◌, inl, inr, ⊎_elim, ℕ, zero, suc, ◌<◌, ◌↔◌, Bool, true, false}
use Rattle.std.proofs.Common.{List, [], ◌∷◌, ◌++◌, length, take, drop, Result, Ok, Err, refl, sym}
use Rattle.std.proofs.Common.{ap, ◌∙◌, subst, append_assoc, arith}
use Rattle.std.specs.Prelude.{if◌then◌else◌, ◌==◌}
use Rattle.spf_io.specs.Rule.{◌>>=◌, broken_as, many}
use Rattle.spf_der.specs.Grammar.{CertText, CertsOf, KeyText, joined}
use Rattle.spf_der.specs.Key.{is_key}
use Rattle.spf_der.specs.Part.{Parts}
use Rattle.spf_der.specs.Read.{certificate_rule}
use Rattle.spf_der.specs.Value.{IsBytes}
use Rattle.spf_der.specs.declared.error.CertReadError.{CertReadError}
use Rattle.spf_der.specs.declared.error.X509ParseKind.TheVariants.{InvalidCertificate}
use Rattle.spf_der.proofs.Exact.{certificate_found, rule_fails}
use Rattle.spf_der.proofs.Keys.{key_exact}
use Rattle.std.proofs.lemmas.Bool.Decides.{nat_tests}
use Rattle.std.proofs.lemmas.List.{append_cancel_left, take_all}
use Rattle.spf_x509.specs.declared.error.CertificateError.{CertificateError}
use Rattle.spf_x509.specs.declared.error.CertificateError.TheVariants.{ParseX509Certificate}
use Rattle.spf_x509.specs.declared.error.CertificateError.TheVariants.{TooManyCertificates}
use Rattle.spf_x509.specs.declared.error.PrivateKeyError.{PrivateKeyError}
use Rattle.spf_x509.specs.declared.error.PrivateKeyError.TheVariants.{DecodePkcs8}
use Rattle.spf_x509.specs.Certificate.{IsCertificate, certificate_of, whole_rule}
use Rattle.spf_x509.specs.Chain.{IsTooLong, authorities_rule, authority_at, certificate_text_at}
use Rattle.spf_x509.specs.Chain.{chain_rule}
use Rattle.spf_x509.specs.Errors.{of_read}
use Rattle.spf_x509.specs.Key.{key_rule}
use Rattle.spf_x509.proofs.Cuts.{authorities_exact, bytes_after, longer, ok_as, ok_bind, text_cut}
use Rattle.spf_x509.proofs.Cuts.{text_reads, whole_reads}

abbrev pub not_one : CertificateError
not_one = ParseX509Certificate InvalidCertificate

-- ---- one certificate

chosen_ok : {A E : Type 0} (b : Bool) (x y : A) (e : E) → (if b then Ok x else Err e) ≡ Ok y
    → (b ≡ true) × (x ≡ y)
chosen_ok true x y e is = (refl, cc)
chosen_ok false x y e is = absurd (cc)

chosen_err : {A E : Type 0} (b : Bool) (x : A) (e f : E) → (if b then Ok x else Err e) ≡ Err f
    → e ≡ f
chosen_err true x e f is = absurd (cc)
chosen_err false x e f is = cc

err_bind : {A B E : Type 0} (r : Result A E) (f : A → Result B E) (e : E) → (r >>= f) ≡ Err e
    → (r ≡ Err e) ⊎ ((x : A) × (r ≡ Ok x) × (f x ≡ Err e))
err_bind (Ok x) f e is = inr (x, refl, is)
err_bind (Err d) f e is = let same : d ≡ e = cc in inl (ap Err same)

same_error : {A E : Type 0} (d e : E) (r : Result A E) → r ≡ Err d → r ≡ Err e → d ≡ e
same_error d e r p q = cc

whole_cut : (der : List ℕ) (parts : Parts) → IsBytes der → whole_rule der ≡ Ok parts
    → CertText der parts
unfolding whole_rule
whole_cut der parts all is =
    let a = ok_bind {B = Parts} {E = CertificateError} (broken_as of_read (certificate_rule der))
    (λ read. if read.1 == length der then Ok read.0 else Err not_one) parts is in
    let found =
    (certificate_found der a.0.0 a.0.1 all).0 (ok_as of_read (certificate_rule der) a.0 a.1) in
    let whole = chosen_ok (a.0.1 == length der) a.0.0 parts not_one a.2 in
    let size : a.0.1 ≡ length der = grind (arith, nat_tests, whole.0) in
    subst (λ (b : List ℕ). CertText b parts) (take_all a.0.1 der (omega (arith, size)))
    (subst (λ (p : Parts). CertText (take a.0.1 der) p) whole.1 found.1)

read_errs : (der : List ℕ) (r : Result (Parts × ℕ) CertReadError) (e : CertificateError)
    → certificate_rule der ≡ r → broken_as of_read r ≡ Err e → e ≡ not_one
read_errs der (Ok read) e at is = absurd (cc)
read_errs der (Err d) e at is =
    let d_is = rule_fails der d at in
    let same : of_read d ≡ e = cc in
    sym same ∙ ap of_read d_is

whole_errs : (der : List ℕ) (e : CertificateError) → whole_rule der ≡ Err e → e ≡ not_one
unfolding whole_rule
whole_errs der e is =
    ⊎_elim (λ broken. read_errs der (certificate_rule der) e refl broken)
    (λ (a : (x : Parts × ℕ) × (broken_as of_read (certificate_rule der) ≡ Ok x)
    × ((if x.1 == length der then Ok x.0 else Err not_one) ≡ Err e)).
    sym (chosen_err (a.0.1 == length der) a.0.0 not_one e a.2))
    (err_bind {B = Parts} {E = CertificateError} (broken_as of_read (certificate_rule der))
    (λ read. if read.1 == length der then Ok read.0 else Err not_one) e is)

pub certificate_exact : (der : List ℕ) → IsBytes der
    → (certificate_of der ≡ Ok der) ↔ IsCertificate der
unfolding certificate_of
certificate_exact der all = (
  λ is. let a = ok_bind {B = List ℕ} {E = CertificateError} (whole_rule der) (λ _. Ok der) der is in
      (a.0, whole_cut der a.0 all a.1),
  λ one. rw (whole_reads der one.0 one.1) refl,
)

refused_at : (der : List ℕ) (r : Result Parts CertificateError) → IsBytes der → whole_rule der ≡ r
    → (IsCertificate der → ⊥) → r ≡ Err not_one
refused_at der (Ok parts) all is never = absurd (never (parts, whole_cut der parts all is))
refused_at der (Err e) all is never = ap Err (whole_errs der e is)

pub certificate_refused : (der : List ℕ) → IsBytes der
    → (certificate_of der ≡ Err not_one) ↔ (IsCertificate der → ⊥)
unfolding certificate_of
certificate_refused der all = (
  λ is one. let read : certificate_of der ≡ Ok der = (certificate_exact der all).1 one in
      cc (is, read),
  λ never. rw (refused_at der (whole_rule der) all refl never) refl,
)

-- ---- several

text_errs : (b : List ℕ) (e : CertificateError) → certificate_text_at b ≡ Err e → e ≡ not_one
unfolding certificate_text_at
text_errs b e is =
    ⊎_elim (λ broken. read_errs b (certificate_rule b) e refl broken)
    (λ (a : (x : Parts × ℕ) × (broken_as of_read (certificate_rule b) ≡ Ok x)
    × (◌≡◌ {A = Result ((Parts × List ℕ) × List ℕ) CertificateError}
    (Ok ((x.0, take x.1 b), drop x.1 b)) (Err e))). absurd (cc (a.2)))
    (err_bind {B = (Parts × List ℕ) × List ℕ} {E = CertificateError}
    (broken_as of_read (certificate_rule b)) (λ read. Ok ((read.0, take read.1 b), drop read.1 b)) e
    is)

authority_errs : (b : List ℕ) (e : CertificateError) → authority_at b ≡ Err e → e ≡ not_one
unfolding authority_at
authority_errs b e is =
    ⊎_elim (λ broken. text_errs b e broken)
    (λ (a : (x : (Parts × List ℕ) × List ℕ) × (certificate_text_at b ≡ Ok x)
    × (◌≡◌ {A = Result (List ℕ × List ℕ) CertificateError} (Ok (x.0.1, x.1)) (Err e))). absurd
    (cc (a.2)))
    (err_bind {B = List ℕ × List ℕ} {E = CertificateError} (certificate_text_at b)
    (λ read. Ok (read.0.1, read.1)) e is)

-- what a list of pieces is refused for
many_errs : {A : Type 0} (one : List ℕ → Result (A × List ℕ) CertificateError)
    (spent : CertificateError) (P : CertificateError → Type 0) → P spent
    → ((b : List ℕ) (e : CertificateError) → one b ≡ Err e → P e)
    → (n : ℕ) (b : List ℕ) (e : CertificateError) → many one spent n b ≡ Err e → P e
many_errs one spent P at_spent at_one n [] e is = absurd (cc)
many_errs {A} one spent P at_spent at_one zero (c ∷ b) e is =
    subst P (same_error {A = List A} spent e (Err spent) refl is) at_spent
many_errs {A} one spent P at_spent at_one (suc n) (c ∷ b) e is =
    ⊎_elim (λ broken. at_one (c ∷ b) e broken)
    (λ (a : (x : A × List ℕ) × (one (c ∷ b) ≡ Ok x)
    × ((many one spent n x.1 >>= λ others. Ok (x.0 ∷ others)) ≡ Err e)).
    ⊎_elim (λ later. many_errs one spent P at_spent at_one n a.0.1 e later)
    (λ (m : (others : List A) × (many one spent n a.0.1 ≡ Ok others)
    × (◌≡◌ {A = Result (List A) CertificateError} (Ok (a.0.0 ∷ others)) (Err e))). absurd
    (cc (m.2)))
    (err_bind {B = List A} (many one spent n a.0.1) (λ others. Ok (a.0.0 ∷ others)) e a.2))
    (err_bind {B = List A} (one (c ∷ b))
    (λ found. many one spent n found.1 >>= λ others. Ok (found.0 ∷ others)) e is)

none_at : (der : List ℕ) (r : Result (List (List ℕ)) CertificateError) → IsBytes der
    → authorities_rule der ≡ r → ((certificates : List (List ℕ)) → CertsOf der certificates → ⊥)
    → r ≡ Err not_one
unfolding authorities_rule
none_at der (Ok xs) all is never = absurd (never xs ((authorities_exact der xs all).0 is))
none_at der (Err e) all is never =
    ap Err (many_errs authority_at not_one (λ d. d ≡ not_one) refl authority_errs (length der) der e
    is)

pub authorities_refused : (der : List ℕ) → IsBytes der
    → (authorities_rule der ≡ Err not_one)
    ↔ ((certificates : List (List ℕ)) → CertsOf der certificates → ⊥)
authorities_refused der all = (
  λ is certificates are. cc (is, (authorities_exact der certificates all).1 are),
  λ never. none_at der (authorities_rule der) all refl never,
)

-- ---- a chain that is too long

abbrev pub too_many : CertificateError
too_many = TooManyCertificates 16

abbrev IsLonger : ℕ → List ℕ → Type 0
IsLonger n chain =
    (certificates : List (List ℕ)) × (octet : ℕ) × (others : List ℕ) × (length certificates ≡ n)
    × CertsOf (joined certificates) certificates × (chain ≡ joined certificates ++ octet ∷ others)

one_longer : (n : ℕ) (b : List ℕ) (p : Parts × List ℕ) (after : List ℕ) → CertText p.1 p.0
    → b ≡ p.1 ++ after → IsLonger n after → IsLonger (suc n) b
one_longer n b p after text cut (certificates, octet, others, count, are, rest) = (
  p.1 ∷ certificates,
  octet,
  others,
  ap suc count,
  (p.0, joined certificates, refl, text, are),
  cut ∙ ap (λ (z : List ℕ). p.1 ++ z) rest
      ∙ sym (append_assoc p.1 (joined certificates) (octet ∷ others)),
)

is_longer : (n : ℕ) (b : List ℕ) → IsBytes b → many certificate_text_at too_many n b ≡ Err too_many
    → IsLonger n b
is_longer n [] all is = absurd (cc)
is_longer zero (c ∷ b) all is = ([], c, b, refl, refl, refl)
is_longer (suc n) (c ∷ b) all is =
    ⊎_elim (λ broken. let other : too_many ≡ not_one = text_errs (c ∷ b) too_many broken in
    absurd (cc (other)))
    (λ (a : (x : (Parts × List ℕ) × List ℕ) × (certificate_text_at (c ∷ b) ≡ Ok x)
    × ((many certificate_text_at too_many n x.1 >>= λ others. Ok (x.0 ∷ others)) ≡ Err too_many)).
    let cut = text_cut (c ∷ b) a.0.0 a.0.1 all a.1 in
    ⊎_elim (λ later.
    one_longer n (c ∷ b) a.0.0 a.0.1 cut.0 cut.1
    (is_longer n a.0.1 (bytes_after (c ∷ b) a.0.0.1 a.0.1 all cut.1) later))
    (λ (m : (others : List (Parts × List ℕ))
    × (many certificate_text_at too_many n a.0.1 ≡ Ok others)
    × (◌≡◌ {A = Result (List (Parts × List ℕ)) CertificateError} (Ok (a.0.0 ∷ others))
    (Err too_many))). absurd (cc (m.2)))
    (err_bind {B = List (Parts × List ℕ)} (many certificate_text_at too_many n a.0.1)
    (λ others. Ok (a.0.0 ∷ others)) too_many a.2))
    (err_bind {B = List (Parts × List ℕ)} (certificate_text_at (c ∷ b))
    (λ found. many certificate_text_at too_many n found.1 >>= λ others. Ok (found.0 ∷ others))
    too_many is)

step_err : {A E : Type 0} (one : List ℕ → Result (A × List ℕ) E) (spent : E) (n : ℕ) (b : List ℕ)
    (x : A) (after : List ℕ) (e : E)
    → 0 < length b → one b ≡ Ok (x, after) → many one spent n after ≡ Err e
    → many one spent (suc n) b ≡ Err e
step_err one spent n [] x after e some found more = absurd (omega arith)
step_err one spent n (c ∷ b) x after e some found more = rw (found, more) refl

longer_fails : (n : ℕ) (certificates : List (List ℕ)) (octet : ℕ) (others b : List ℕ)
    → length certificates ≡ n → CertsOf (joined certificates) certificates
    → b ≡ joined certificates ++ octet ∷ others
    → many certificate_text_at too_many n b ≡ Err too_many
longer_fails zero [] octet others b count are cut = ap (many certificate_text_at too_many 0) cut
longer_fails zero (x ∷ xs) octet others b count are cut = absurd (omega arith)
longer_fails (suc n) [] octet others b count are cut = absurd (omega arith)
longer_fails (suc n) (x ∷ xs) octet others b count (parts, rest, same, text, are) cut =
    let left : joined xs ≡ rest = append_cancel_left x (joined xs) rest same in
    let more : CertsOf (joined xs) xs = subst (λ (z : List ℕ). CertsOf z xs) (sym left) are in
    let whole : b ≡ x ++ (joined xs ++ octet ∷ others) =
    cut ∙ append_assoc x (joined xs) (octet ∷ others) in
    step_err certificate_text_at too_many n b (parts, x) (joined xs ++ octet ∷ others) too_many
    (longer x (joined xs ++ octet ∷ others) b parts whole text)
    (ap certificate_text_at whole ∙ text_reads x (joined xs ++ octet ∷ others) parts text)
    (longer_fails n xs octet others (joined xs ++ octet ∷ others) (omega arith) more refl)

pub chain_too_long : (chain : List ℕ) → IsBytes chain
    → (chain_rule chain ≡ Err (TooManyCertificates 16)) ↔ IsTooLong chain
unfolding chain_rule
chain_too_long chain all = (
  λ is. let l = is_longer 16 chain all is in
      record { certificates = l.0; octet = l.1; others = l.2; count = l.3; are = l.4; cut = l.5 },
  λ l. longer_fails 16 l.certificates l.octet l.others chain l.count l.are l.cut,
)

-- ---- a key

pub key_is_text : (der : List ℕ) → IsBytes der → (key_rule der ≡ Ok der) ↔ KeyText der
unfolding key_rule
key_is_text der all = (
  λ is. (key_exact der all).0
      (chosen_ok {E = PrivateKeyError} (is_key der) der der (DecodePkcs8 (record {})) is).0,
  λ text. rw ((key_exact der all).1 text) refl,
)
