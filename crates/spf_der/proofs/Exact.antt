-- The rule of certificates is the grammar: it gives the parts of the
-- certificate at the start, and refuses where there is none.
use Rattle.std.proofs.Common.{◌≡◌, ℕ, zero, suc, ◌-◌, ◌<◌, ◌≤◌, List, [], ◌∷◌, ◌++◌, length, take}
use Rattle.std.proofs.Common.{drop, Option, Some, None, Result, Ok, Err, refl, sym, ap, subst, ◌∙◌}
use Rattle.std.proofs.Common.{arith, length-append, append_assoc, ℤ}
use Rattle.std.specs.Prelude.{◌↔◌, ◌≢◌, IfOk, IfErr}
use Rattle.std.proofs.lemmas.List.{take_at, drop_at, take-append-drop, length-take-le}
use Rattle.spf_io.specs.Rule.{◌>>=◌, Gives, many}
use Rattle.spf_der.specs.Value.{IsBytes}
use Rattle.spf_der.specs.Certificate.{certificate_at, extension_at}
use Rattle.spf_der.specs.Error.{here, is_memory}
use Rattle.spf_der.specs.Part.{Parts}
use Rattle.spf_der.specs.Read.{part_at, extensions_rule, certificate_rule}
use Rattle.spf_der.specs.declared.certificate.ExtensionPart.{ExtensionPart}
use Rattle.spf_der.specs.declared.error.CertReadError.{CertReadError}
use Rattle.spf_der.specs.declared.error.CertReadError.TheVariants.{Parse, OutOfMemory}
use Rattle.spf_der.specs.declared.error.X509ParseKind.TheVariants.{InvalidCertificate}
use Rattle.spf_der.specs.Grammar.{ExtensionTexts, CertText, CertsOf}
use Rattle.spf_der.proofs.Values.{Octets, octets_from, begins}
use Rattle.spf_der.proofs.Texts.{signed_again, signed_taken, extension_again, extension_taken}

abbrev invalid : CertReadError
invalid = Parse InvalidCertificate

-- ---- steps

abbrev done : {A : Type 0} → A → Result A CertReadError
done x = Ok x

ok_parts : {A B : Type 0} (r : Result A CertReadError) (f : A → Result B CertReadError) (y : B)
    → (r >>= f) ≡ Ok y → (x : A) × (r ≡ Ok x) × (f x ≡ Ok y)
ok_parts (Ok x) f y is = (x, refl, is)
ok_parts (Err e) f y is = cc

here_some : {A : Type 0} (found : Option A) (x : A) → here found ≡ Ok x → found ≡ Some x
here_some None x is = cc
here_some (Some y) x is = cc

ok_is : {A : Type 0} (x y : A) (r : Result A CertReadError) → r ≡ Ok x → r ≡ Ok y → x ≡ y
ok_is x y r p q = cc

-- ---- a list of extensions

more : (n : ℕ) (b : List ℕ) (extension : ExtensionPart) (after : List ℕ) → 0 < length b
    → extension_at b ≡ Some (extension, after)
    → many part_at invalid (suc n) b
    ≡ (many part_at invalid n after >>= λ others. Ok (extension ∷ others))
more n [] extension after some is = absurd (omega arith)
more n (b ∷ bytes) extension after some is = rw is refl

listed_reads : (extensions : List ExtensionPart) (text : List ℕ) (n : ℕ)
    → ExtensionTexts text extensions → length text ≤ n → many part_at invalid n text ≡ Ok extensions
listed_reads [] text n texts long = rw texts refl
listed_reads (extension ∷ extensions) text zero (front, others, cut, first, rest) long =
    let size = ap (length {A = ℕ}) (cut ∙ begins front 48 _ others first.value) in
    absurd (omega (arith, size))
listed_reads (extension ∷ extensions) text (suc n) (front, others, cut, first, rest) long =
    let size = ap (length {A = ℕ}) (cut ∙ begins front 48 _ others first.value) in
    let whole = ap (length {A = ℕ}) cut in
    let beginning = ap (length {A = ℕ}) (begins front 48 _ [] first.value) in
    let some : 0 < length text = omega (arith, size) in
    let short : length others ≤ n =
    omega (arith, whole, beginning, long, length-append front others, length-append front []) in
    more n text extension others some
    (ap extension_at cut ∙ extension_again front extension others first)
    ∙ rw (listed_reads extensions others n rest short) refl

listed_is : (n : ℕ) (text : List ℕ) (extensions : List ExtensionPart) → Octets text
    → many part_at invalid n text ≡ Ok extensions → ExtensionTexts text extensions
listed_is n [] extensions o is =
    subst (ExtensionTexts []) (ok_is [] extensions (many part_at invalid n []) refl is) refl
listed_is zero (b ∷ bytes) extensions o is = cc
listed_is (suc n) (b ∷ bytes) extensions o is =
    let a : (x : ExtensionPart × List ℕ) × (part_at (b ∷ bytes) ≡ Ok x)
    × ((many part_at invalid n x.1 >>= λ others. Ok (x.0 ∷ others)) ≡ Ok extensions) =
    ok_parts {B = List ExtensionPart} (part_at (b ∷ bytes))
    (λ x. many part_at invalid n x.1 >>= λ others. Ok (x.0 ∷ others)) extensions is in
    let x = a.0 in
    let c : (others : List ExtensionPart) × (many part_at invalid n x.1 ≡ Ok others)
    × (done (x.0 ∷ others) ≡ Ok extensions) =
    ok_parts {B = List ExtensionPart} (many part_at invalid n x.1) (λ others. Ok (x.0 ∷ others))
    extensions a.2 in
    let first =
    extension_taken (b ∷ bytes) x.0 x.1 o (here_some (extension_at (b ∷ bytes)) x a.1) in
    let rest = listed_is n x.1 c.0 first.outer c.1 in
    let texts : ExtensionTexts (b ∷ bytes) (x.0 ∷ c.0) =
    (first.text, x.1, first.cut, first.is, rest) in
    subst (ExtensionTexts (b ∷ bytes)) (ok_is (x.0 ∷ c.0) extensions (done (x.0 ∷ c.0)) refl c.2)
    texts

-- there is one way to refuse
after_fails : (x : ExtensionPart × List ℕ) (e : CertReadError)
    (others : Result (List ExtensionPart) CertReadError)
    → ((d : CertReadError) → others ≡ Err d → d ≡ invalid)
    → (others >>= λ xs. done (x.0 ∷ xs)) ≡ Err e → e ≡ invalid
after_fails x e (Ok xs) each is = cc
after_fails x e (Err d) each is = each e is

step_fails : (n : ℕ) (e : CertReadError) (found : Option (ExtensionPart × List ℕ))
    → ((after : List ℕ) (d : CertReadError) → many part_at invalid n after ≡ Err d → d ≡ invalid)
    → (here found >>= λ x. many part_at invalid n x.1 >>= λ others. Ok (x.0 ∷ others)) ≡ Err e
    → e ≡ invalid
step_fails n e None each is = cc
step_fails n e (Some x) each is = after_fails x e (many part_at invalid n x.1) (each x.1) is

listed_fails : (n : ℕ) (text : List ℕ) (e : CertReadError) → many part_at invalid n text ≡ Err e
    → e ≡ invalid
listed_fails n [] e is = cc
listed_fails zero (b ∷ bytes) e is = cc
listed_fails (suc n) (b ∷ bytes) e is =
    step_fails n e (extension_at (b ∷ bytes)) (listed_fails n) is

-- ---- certificates

-- what is returned, once the extensions are read
abbrev read_of : List ℕ → ℤ × List ℕ × List ℕ → List ExtensionPart → Parts × ℕ
read_of bytes k extensions =
    (record { expiry = k.0; extensions = extensions }, length bytes - length k.2)

-- a certificate is read, whatever follows it
pub certificate_reads : (b rest : List ℕ) (parts : Parts) → CertText b parts
    → certificate_rule (b ++ rest) ≡ Ok (parts, length b)
unfolding certificate_rule
certificate_reads b rest parts text =
    let size : length (b ++ rest) - length rest ≡ length b = omega (arith, length-append b rest) in
    rw (
      signed_again b parts.expiry text.list rest text.signed,
      listed_reads parts.extensions text.list (length text.list) text.extensions (omega arith),
      size,
    ) refl

-- what is read is a certificate at the start
pub record Read (bytes : List ℕ) (parts : Parts) (n : ℕ) : Type 0 where
  pub text : List ℕ
  pub rest : List ℕ
  pub is : CertText text parts
  pub cut : bytes ≡ text ++ rest
  pub size : n ≡ length text

pub certificate_is : (bytes : List ℕ) (parts : Parts) (n : ℕ) → IsBytes bytes
    → certificate_rule bytes ≡ Ok (parts, n) → Read bytes parts n
unfolding certificate_rule
certificate_is bytes parts n all is =
    let a : (k : ℤ × List ℕ × List ℕ) × (here (certificate_at bytes) ≡ Ok k)
    × ((extensions_rule k.1 >>= λ es. Ok (read_of bytes k es)) ≡ Ok (parts, n)) =
    ok_parts {B = Parts × ℕ} (here (certificate_at bytes))
    (λ k. extensions_rule k.1 >>= λ es. Ok (read_of bytes k es)) (parts, n) is in
    let k = a.0 in
    let c : (es : List ExtensionPart) × (extensions_rule k.1 ≡ Ok es)
    × (done (read_of bytes k es) ≡ Ok (parts, n)) =
    ok_parts {B = Parts × ℕ} (extensions_rule k.1) (λ es. Ok (read_of bytes k es)) (parts, n) a.2 in
    let signed =
    signed_taken bytes k.0 k.1 k.2 (octets_from bytes all)
    (here_some (certificate_at bytes) k a.1) in
    let made : Parts = record { expiry = k.0; extensions = c.0 } in
    let size : length bytes - length k.2 ≡ length signed.text =
    omega (arith, ap (length {A = ℕ}) signed.cut, length-append signed.text k.2) in
    let read : Read bytes made (length bytes - length k.2) = record {
      text = signed.text;
      rest = k.2;
      is = record {
        list = k.1;
        signed = signed.is;
        extensions = listed_is (length k.1) k.1 c.0 signed.listed c.1;
      };
      cut = signed.cut;
      size = size;
    } in
    subst (λ (y : Parts × ℕ). Read bytes y.0 y.1)
    (ok_is (read_of bytes k c.0) (parts, n) (done (read_of bytes k c.0)) refl c.2) read

-- the certificate is the first `n` octets
pub certificate_found : (bytes : List ℕ) (parts : Parts) (n : ℕ) → IsBytes bytes
    → (certificate_rule bytes ≡ Ok (parts, n))
    ↔ ((n ≤ length bytes) × CertText (take n bytes) parts)
certificate_found bytes parts n all = (
  λ is.
      let read = certificate_is bytes parts n all is in
      let front : read.text ≡ take n bytes =
      sym (ap (take n) read.cut ∙ take_at read.text read.rest n (sym read.size)) in (
        omega (arith, read.size, ap (length {A = ℕ}) read.cut, length-append read.text read.rest),
        subst (λ (b : List ℕ). CertText b parts) front read.is,
      ),
  λ text.
      let size : length (take n bytes) ≡ n = length-take-le n bytes text.0 in
      ap certificate_rule (sym (take-append-drop n bytes))
      ∙ certificate_reads (take n bytes) (drop n bytes) parts text.1
      ∙ ap (λ (m : ℕ). Ok (parts, m)) size,
)

-- there is one way to refuse
whole_fails : {A : Type 0} (e : CertReadError) (es : Result (List ExtensionPart) CertReadError)
    (f : List ExtensionPart → A) → ((d : CertReadError) → es ≡ Err d → d ≡ invalid)
    → (es >>= λ xs. done (f xs)) ≡ Err e → e ≡ invalid
whole_fails e (Ok xs) f each is = cc
whole_fails e (Err d) f each is = let same : d ≡ e = cc in sym same ∙ each d refl

rule_fails_at : (bytes : List ℕ) (e : CertReadError) (found : Option (ℤ × List ℕ × List ℕ))
    → (here found >>= λ k. extensions_rule k.1 >>= λ es. done (read_of bytes k es)) ≡ Err e
    → e ≡ invalid
rule_fails_at bytes e None is = cc
rule_fails_at bytes e (Some k) is =
    whole_fails {A = Parts × ℕ} e (extensions_rule k.1) (read_of bytes k)
    (listed_fails (length k.1) k.1) is

pub rule_fails : (bytes : List ℕ) (e : CertReadError) → certificate_rule bytes ≡ Err e → e ≡ invalid
unfolding certificate_rule
rule_fails bytes e is = rule_fails_at bytes e (certificate_at bytes) is

refused_from : (bytes : List ℕ) (r : Result (Parts × ℕ) CertReadError) → IsBytes bytes
    → certificate_rule bytes ≡ r → ((n : ℕ) (parts : Parts) → CertText (take n bytes) parts → ⊥)
    → r ≡ Err invalid
refused_from bytes (Ok read) all is never =
    absurd (never read.1 read.0 ((certificate_found bytes read.0 read.1 all).0 is).1)
refused_from bytes (Err e) all is never = ap Err (rule_fails bytes e is)

-- a certificate is refused exactly where there is none at the start
pub certificate_refused : (bytes : List ℕ) → IsBytes bytes
    → (certificate_rule bytes ≡ Err invalid)
    ↔ ((n : ℕ) (parts : Parts) → CertText (take n bytes) parts → ⊥)
certificate_refused bytes all = (
  λ is n parts text.
      let read = ap certificate_rule (sym (take-append-drop n bytes))
      ∙ certificate_reads (take n bytes) (drop n bytes) parts text in
      cc (is, read),
  λ never. refused_from bytes (certificate_rule bytes) all refl never,
)

-- and what follows it changes nothing
pub certificate_followed : (bytes rest : List ℕ) (parts : Parts) (n : ℕ) → IsBytes bytes
    → certificate_rule bytes ≡ Ok (parts, n) → certificate_rule (bytes ++ rest) ≡ Ok (parts, n)
certificate_followed bytes rest parts n all is =
    let read = certificate_is bytes parts n all is in
    ap certificate_rule
    (ap (λ (z : List ℕ). z ++ rest) read.cut ∙ append_assoc read.text read.rest rest)
    ∙ certificate_reads read.text (read.rest ++ rest) parts read.is
    ∙ ap (λ (m : ℕ). Ok (parts, m)) (sym read.size)

-- what a reader returns for bytes
pub answered : (bytes : List ℕ) (r : Result (Parts × ℕ) CertReadError) → IsBytes bytes
    → Gives is_memory (λ x. (x.0, x.1)) r (certificate_rule bytes)
    → IfOk r (λ x. (x.1 ≤ length bytes) × CertText (take x.1 bytes) x.0)
answered bytes (Ok x) all gives = (certificate_found bytes x.0 x.1 all).0 gives
answered bytes (Err e) all gives = tt

pub unanswered : (bytes : List ℕ) (r : Result (Parts × ℕ) CertReadError) → IsBytes bytes
    → Gives is_memory (λ x. (x.0, x.1)) r (certificate_rule bytes)
    → IfErr r (λ e. e ≢ OutOfMemory → (n : ℕ) (parts : Parts) → CertText (take n bytes) parts → ⊥)
unanswered bytes (Ok x) all gives = tt
unanswered bytes (Err OutOfMemory) all gives = λ other. absurd (other refl)
unanswered bytes (Err (Parse kind)) all gives =
    λ other. (certificate_refused bytes all).0
    (gives ∙ ap Err (rule_fails bytes (Parse kind) gives))

-- ---- one cut

ended : (a b x y : List ℕ) → a ++ x ≡ b ++ y → length a ≡ length b → (a ≡ b) × (x ≡ y)
ended a b x y same size =
    let front : a ≡ b =
    sym (take_at a x (length b) size) ∙ ap (take (length b)) same ∙ take_at b y (length b) refl in
    let back : x ≡ y =
    sym (drop_at a x (length b) size) ∙ ap (drop (length b)) same ∙ drop_at b y (length b) refl in
    (front, back)

-- no certificate is a proper prefix of another
pub one_certificate : (a b x y : List ℕ) (p q : Parts) → CertText a p → CertText b q
    → a ++ x ≡ b ++ y → (a ≡ b) × (p ≡ q) × (x ≡ y)
one_certificate a b x y p q first second same =
    let read = sym (certificate_reads a x p first) ∙ ap certificate_rule same
    ∙ certificate_reads b y q second in
    let both = ok_is (p, length a) (q, length b) (done (p, length a)) refl read in
    let cut = ended a b x y same (ap (λ (z : Parts × ℕ). z.1) both) in
    (cut.0, ap (λ (z : Parts × ℕ). z.0) both, cut.1)

pub cert_some : (b : List ℕ) (parts : Parts) → CertText b parts → 0 < length b
cert_some b parts text =
    omega (arith, ap (length {A = ℕ}) (begins b 48 _ [] text.signed.value), length-append b [])

pub one_cut : (xs ys : List (List ℕ)) (b : List ℕ) → CertsOf b xs → CertsOf b ys → xs ≡ ys
one_cut [] [] b first second = refl
one_cut [] (y ∷ ys) b first (parts, others, cut, text, rest) =
    absurd (omega (
      arith,
      ap (length {A = ℕ}) (sym cut ∙ first),
      length-append y others,
      cert_some y parts text,
    ))
one_cut (x ∷ xs) [] b (parts, others, cut, text, rest) second =
    absurd (omega (
      arith,
      ap (length {A = ℕ}) (sym cut ∙ second),
      length-append x others,
      cert_some x parts text,
    ))
one_cut (x ∷ xs) (y ∷ ys) b (p, others, cut, text, rest) (q, others', cut', text', rest') =
    let same = one_certificate x y others others' p q text text' (sym cut ∙ cut') in
    let tail = one_cut xs ys others rest
    (subst (λ (z : List ℕ). CertsOf z ys) (sym same.2) rest') in
    cc (same.0, tail)
