-- Certificates one after another: how they are read, and that there is no other way.
use Rattle.std.proofs.Common.{◌≡◌, ℕ, zero, suc, ◌<◌, ◌≤◌, ◌↔◌, Bool, true, false, List, [], ◌∷◌}
use Rattle.std.proofs.Common.{◌++◌, length, take, drop, drop-cons, get_or, ◌+◌, Option, Result, Ok}
use Rattle.std.proofs.Common.{Err, ℤ, refl, sym, ap, ◌∙◌, subst, append_assoc, length-append, arith}
use Rattle.std.specs.Prelude.{if◌then◌else◌, ◌==◌}
use Rattle.std.proofs.lemmas.List.{append-nil, append_cancel_left, take_all, take_at, take_more}
use Rattle.std.proofs.lemmas.List.{drop_at, take-append-drop}
use Rattle.std.proofs.lemmas.List.Elements.{All-drop}
use Rattle.spf_io.specs.Rule.{◌>>=◌, broken_as, many}
use Rattle.spf_id.specs.Id.{Id}
use Rattle.spf_der.specs.Grammar.{CertText, CertsOf, joined}
use Rattle.spf_der.specs.Key.{is_key}
use Rattle.spf_der.specs.Part.{Parts}
use Rattle.spf_der.specs.Read.{certificate_rule}
use Rattle.spf_der.specs.Value.{IsBytes}
use Rattle.spf_der.proofs.Exact.{cert_some, certificate_found, certificate_reads}
use Rattle.spf_x509.specs.declared.error.CertificateError.{CertificateError}
use Rattle.spf_x509.specs.declared.error.PrivateKeyError.{PrivateKeyError}
use Rattle.spf_x509.specs.declared.error.X509BundleError.{X509BundleError}
use Rattle.spf_x509.specs.declared.svid_error.X509SvidError.{X509SvidError}
use Rattle.spf_x509.specs.Bundle.{Bundle}
use Rattle.spf_x509.specs.BundleRule.{bundle_of}
use Rattle.spf_x509.specs.Certificate.{IsCertificate, san_rule, spiffe_id_rule, whole_rule}
use Rattle.spf_x509.specs.Chain.{IsSvid, ReadAs, authorities_rule, authority_at}
use Rattle.spf_x509.specs.Chain.{certificate_text_at, chain_rule, intermediates_rule, svid_of}
use Rattle.spf_x509.specs.Chain.{svid_of_parts, texts}
use Rattle.spf_x509.specs.Errors.{bundle_of_certificate, of_read, svid_of_certificate, svid_of_key}
use Rattle.spf_x509.specs.Key.{key_rule}
use Rattle.spf_x509.specs.Rule.{leaf_rule}
use Rattle.spf_x509.specs.Svid.{Svid}

-- ---- rules in order

pub ok_bind : {A B E : Type 0} (r : Result A E) (f : A → Result B E) (y : B) → (r >>= f) ≡ Ok y
    → (x : A) × (r ≡ Ok x) × (f x ≡ Ok y)
ok_bind (Ok x) f y is = (x, refl, is)
ok_bind (Err e) f y is = absurd (cc)

pub ok_is : {A E : Type 0} (x y : A) (r : Result A E) → r ≡ Ok x → r ≡ Ok y → x ≡ y
ok_is x y r p q = cc

pub ok_as : {A E F : Type 0} (f : E → F) (r : Result A E) (x : A) → broken_as f r ≡ Ok x → r ≡ Ok x
ok_as f (Ok y) x is = let same : y ≡ x = cc in ap Ok same
ok_as f (Err e) x is = absurd (cc)

-- ---- one certificate

-- the whole of a certificate is read
pub whole_reads : (der : List ℕ) (parts : Parts) → CertText der parts → whole_rule der ≡ Ok parts
unfolding whole_rule
whole_reads der parts text =
    let read : certificate_rule der ≡ Ok (parts, length der) =
    ap certificate_rule (sym (append-nil der)) ∙ certificate_reads der [] parts text in
    rw (read, same_length (length der)) refl
  where
    same_length : (n : ℕ) → (n == n) ≡ true
    same_length n = grind arith

-- the ID of a certificate is that of its names
pub id_is : (der : List ℕ) (parts : Parts) → CertText der parts
    → spiffe_id_rule der ≡ san_rule parts
unfolding spiffe_id_rule
id_is der parts text = rw (whole_reads der parts text) refl

-- the certificate at the start is read
pub text_reads : (text rest : List ℕ) (parts : Parts) → CertText text parts
    → certificate_text_at (text ++ rest) ≡ Ok ((parts, text), rest)
unfolding certificate_text_at
text_reads text rest parts is =
    rw (certificate_reads text rest parts is)
    (λ i. Ok (
      (parts, take_at text rest (length text) refl i),
      drop_at text rest (length text) refl i,
    ))

authority_reads : (text rest : List ℕ) (parts : Parts) → CertText text parts
    → authority_at (text ++ rest) ≡ Ok (text, rest)
unfolding authority_at
authority_reads text rest parts is = rw (text_reads text rest parts is) refl

-- and is one
pub text_cut : (b : List ℕ) (p : Parts × List ℕ) (after : List ℕ) → IsBytes b
    → certificate_text_at b ≡ Ok (p, after) → CertText p.1 p.0 × (b ≡ p.1 ++ after)
unfolding certificate_text_at
text_cut b p after all is =
    let made : Parts × ℕ → (Parts × List ℕ) × List ℕ =
    λ read. ((read.0, take read.1 b), drop read.1 b) in
    let a = ok_bind {E = CertificateError} (broken_as of_read (certificate_rule b))
    (λ read. Ok (made read)) (p, after) is in
    let read = ok_as of_read (certificate_rule b) a.0 a.1 in
    let found = (certificate_found b a.0.0 a.0.1 all).0 read in
    let P : (Parts × List ℕ) × List ℕ → Type 0 = λ y. CertText y.0.1 y.0.0 × (b ≡ y.0.1 ++ y.1) in
    subst P (ok_is {E = CertificateError} (made a.0) (p, after) (Ok (made a.0)) refl a.2) (
      found.1,
      sym (take-append-drop a.0.1 b),
    )

pub authority_cut : (b text after : List ℕ) → IsBytes b → authority_at b ≡ Ok (text, after)
    → (parts : Parts) × CertText text parts × (b ≡ text ++ after)
unfolding authority_at
authority_cut b text after all is =
    let made : (Parts × List ℕ) × List ℕ → List ℕ × List ℕ = λ read. (read.0.1, read.1) in
    let a = ok_bind {E = CertificateError} (certificate_text_at b) (λ read. Ok (made read)) (
      text,
      after,
    ) is in
    let cut = text_cut b a.0.0 a.0.1 all a.1 in
    let P : List ℕ × List ℕ → Type 0 =
    λ y. (parts : Parts) × CertText y.0 parts × (b ≡ y.0 ++ y.1) in
    subst P (ok_is {E = CertificateError} (made a.0) (text, after) (Ok (made a.0)) refl a.2)
    (a.0.0.0, cut.0, cut.1)

pub bytes_after : (b x after : List ℕ) → IsBytes b → b ≡ x ++ after → IsBytes after
bytes_after b x after all cut =
    subst IsBytes (drop_at x after (length x) refl)
    (All-drop (λ (o : ℕ). o < 256) (length x) (x ++ after) (subst IsBytes cut all))

-- ---- several

pub certs_joined : (xs : List (List ℕ)) (b : List ℕ) → CertsOf b xs → b ≡ joined xs
certs_joined [] b is = is
certs_joined (x ∷ xs) b (parts, others, cut, text, rest) =
    cut ∙ ap (λ (o : List ℕ). x ++ o) (certs_joined xs others rest)

pub certs_more : (xs : List (List ℕ)) (b t : List ℕ) (parts : Parts) → CertsOf b xs
    → CertText t parts → CertsOf (b ++ t) (xs ++ t ∷ [])
certs_more [] b t parts is text =
    (parts, [], ap (λ (z : List ℕ). z ++ t) is ∙ sym (append-nil t), text, refl)
certs_more (x ∷ xs) b t parts (p, others, cut, first, rest) text = (
  p,
  others ++ t,
  ap (λ (z : List ℕ). z ++ t) cut ∙ append_assoc x others t,
  first,
  certs_more xs others t parts rest text,
)

certs_count : (xs : List (List ℕ)) (b : List ℕ) → CertsOf b xs → length xs ≤ length b
certs_count [] b is = omega arith
certs_count (x ∷ xs) b (parts, others, cut, text, rest) =
    omega (
      arith,
      ap (length {A = ℕ}) cut,
      length-append x others,
      cert_some x parts text,
      certs_count xs others rest,
    )

pub step : {A E : Type 0} (one : List ℕ → Result (A × List ℕ) E) (spent : E) (n : ℕ) (b : List ℕ)
    (x : A) (after : List ℕ) (ys : List A)
    → 0 < length b → one b ≡ Ok (x, after) → many one spent n after ≡ Ok ys
    → many one spent (suc n) b ≡ Ok (x ∷ ys)
step one spent n [] x after ys some found more = absurd (omega arith)
step one spent n (c ∷ b) x after ys some found more = rw (found, more) refl

nothing : {A E : Type 0} (one : List ℕ → Result (A × List ℕ) E) (spent : E) (n : ℕ) (b : List ℕ)
    → b ≡ [] → many one spent n b ≡ Ok []
nothing one spent n b none = ap (many one spent n) none

pub longer : (x others b : List ℕ) (parts : Parts) → b ≡ x ++ others → CertText x parts
    → 0 < length b
longer x others b parts cut text =
    omega (arith, ap (length {A = ℕ}) cut, length-append x others, cert_some x parts text)

authorities_within : (spent : CertificateError) (n : ℕ) (xs : List (List ℕ)) (b : List ℕ)
    → CertsOf b xs → length xs ≤ n → many authority_at spent n b ≡ Ok xs
authorities_within spent n [] b is le = nothing authority_at spent n b is
authorities_within spent zero (x ∷ xs) b certs le = absurd (omega arith)
authorities_within spent (suc n) (x ∷ xs) b (parts, others, cut, text, rest) le =
    step authority_at spent n b x others xs (longer x others b parts cut text)
    (ap authority_at cut ∙ authority_reads x others parts text)
    (authorities_within spent n xs others rest (omega arith))

chain_within : (spent : CertificateError) (n : ℕ) (xs : List (List ℕ)) (b : List ℕ) → CertsOf b xs
    → length xs ≤ n → ReadAs (many certificate_text_at spent n b) xs
chain_within spent n [] b is le = record {
  parts = [];
  is = nothing certificate_text_at spent n b is;
  texts_are = refl;
}
chain_within spent zero (x ∷ xs) b certs le = absurd (omega arith)
chain_within spent (suc n) (x ∷ xs) b (parts, others, cut, text, rest) le =
    let more = chain_within spent n xs others rest (omega arith) in
    record {
      parts = (parts, x) ∷ more.parts;
      is = step certificate_text_at spent n b (parts, x) others more.parts
          (longer x others b parts cut text)
          (ap certificate_text_at cut ∙ text_reads x others parts text) more.is;
      texts_are = ap (λ (ys : List (List ℕ)). x ∷ ys) more.texts_are;
    }

authorities_cut : (spent : CertificateError) (n : ℕ) (b : List ℕ) (xs : List (List ℕ)) → IsBytes b
    → many authority_at spent n b ≡ Ok xs → CertsOf b xs
authorities_cut spent n [] xs all is =
    subst (CertsOf []) (ok_is [] xs (many authority_at spent n []) refl is) refl
authorities_cut spent zero (c ∷ b) xs all is = absurd (cc)
authorities_cut spent (suc n) (c ∷ b) xs all is =
    let a = ok_bind (authority_at (c ∷ b))
    (λ found. many authority_at spent n found.1 >>= λ others. Ok (found.0 ∷ others)) xs is in
    let cut = authority_cut (c ∷ b) a.0.0 a.0.1 all a.1 in
    let m = ok_bind (many authority_at spent n a.0.1) (λ others. Ok (a.0.0 ∷ others)) xs a.2 in
    let rest = authorities_cut spent n a.0.1 m.0 (bytes_after (c ∷ b) a.0.0 a.0.1 all cut.2) m.1 in
    subst (CertsOf (c ∷ b))
    (ok_is {E = CertificateError} (a.0.0 ∷ m.0) xs (Ok (a.0.0 ∷ m.0)) refl m.2) (
      cut.0,
      a.0.1,
      cut.2,
      cut.1,
      rest,
    )

-- a chain of at most that many
abbrev pub Within : ℕ → List ℕ → List (Parts × List ℕ) → Type 0
Within n b parts = CertsOf b (texts parts) × (length parts ≤ n)

chain_cut : (spent : CertificateError) (n : ℕ) (b : List ℕ) (ps : List (Parts × List ℕ)) → IsBytes b
    → many certificate_text_at spent n b ≡ Ok ps → Within n b ps
chain_cut spent n [] ps all is =
    subst (Within n []) (ok_is [] ps (many certificate_text_at spent n []) refl is) (
      refl,
      omega arith,
    )
chain_cut spent zero (c ∷ b) ps all is = absurd (cc)
chain_cut spent (suc n) (c ∷ b) ps all is =
    let a = ok_bind (certificate_text_at (c ∷ b))
    (λ found. many certificate_text_at spent n found.1 >>= λ others. Ok (found.0 ∷ others)) ps is in
    let cut = text_cut (c ∷ b) a.0.0 a.0.1 all a.1 in
    let m = ok_bind (many certificate_text_at spent n a.0.1) (λ others. Ok (a.0.0 ∷ others)) ps
    a.2 in
    let rest = chain_cut spent n a.0.1 m.0 (bytes_after (c ∷ b) a.0.0.1 a.0.1 all cut.1) m.1 in
    subst (Within (suc n) (c ∷ b))
    (ok_is {E = CertificateError} (a.0.0 ∷ m.0) ps (Ok (a.0.0 ∷ m.0)) refl m.2)
    ((a.0.0.0, a.0.1, cut.1, cut.0, rest.0), omega (arith, rest.1))

-- ---- the authorities of a bundle

pub authorities_exact : (der : List ℕ) (xs : List (List ℕ)) → IsBytes der
    → (authorities_rule der ≡ Ok xs) ↔ CertsOf der xs
unfolding authorities_rule
authorities_exact der xs all = (
  λ is. authorities_cut _ (length der) der xs all is,
  λ certs. authorities_within _ (length der) xs der certs (certs_count xs der certs),
)

pub bundle_exact : (domain der : List ℕ) (bundle : Bundle) → IsBytes der
    → ((domain ≡ bundle.domain) × CertsOf der bundle.authorities)
    ↔ (bundle_of domain (authorities_rule der) ≡ Ok bundle)
bundle_exact domain der bundle all = (
  λ p. rw ((authorities_exact der bundle.authorities all).1 p.1)
      (λ i. Ok (record { domain = p.0 i; authorities = bundle.authorities })),
  λ is.
      let made : List (List ℕ) → Bundle =
      λ authorities. record { domain = domain; authorities = authorities } in
      let a = ok_bind {E = X509BundleError} (broken_as bundle_of_certificate (authorities_rule der))
      (λ authorities. Ok (made authorities)) bundle is in
      let same = ok_is {E = X509BundleError} (made a.0) bundle (Ok (made a.0)) refl a.2 in
      let certs =
      (authorities_exact der a.0 all).0
      (ok_as bundle_of_certificate (authorities_rule der) a.0 a.1) in (
        ap (λ (b : Bundle). b.domain) same,
        subst (λ (b : Bundle). CertsOf der b.authorities) same certs,
      ),
)

-- ---- the SVID of a chain

pub chain_certs : (chain : List ℕ) (parts : List (Parts × List ℕ)) → IsBytes chain
    → chain_rule chain ≡ Ok parts → Within 16 chain parts
unfolding chain_rule
chain_certs chain parts all is = chain_cut _ 16 chain parts all is

length-texts : (ps : List (Parts × List ℕ)) → length (texts ps) ≡ length ps
length-texts [] = refl
length-texts (p ∷ ps) = ap suc (length-texts ps)

pub chain_exact : (chain : List ℕ) (xs : List (List ℕ)) → IsBytes chain
    → ReadAs (chain_rule chain) xs ↔ (CertsOf chain xs × (length xs ≤ 16))
unfolding chain_rule
chain_exact chain xs all = (
  λ read.
      let within = chain_cut _ 16 chain read.parts all read.is in
      subst (λ (ys : List (List ℕ)). CertsOf chain ys × (length ys ≤ 16)) read.texts_are (
        within.0,
        omega (arith, within.1, length-texts read.parts),
      ),
  λ certs. chain_within _ 16 xs chain certs.0 certs.1,
)

key_kept : (der kept : List ℕ) → broken_as svid_of_key (key_rule der) ≡ Ok kept → kept ≡ der
unfolding key_rule
key_kept der kept is = kept_at (is_key der) _ is
  where
    kept_at : (b : Bool) (e : PrivateKeyError)
        → broken_as svid_of_key (if b then Ok der else Err e) ≡ Ok kept → kept ≡ der
    kept_at true e h = cc
    kept_at false e h = absurd (cc)

-- what an SVID keeps of what it was read from
pub record Kept (key : List ℕ) (hint : Option (List ℕ)) (parts : List (Parts × List ℕ))
    (svid : Svid) : Type 0 where
  pub chain_is : texts parts ≡ svid.chain
  pub key_is : key ≡ svid.key
  pub hint_is : hint ≡ svid.hint

pub kept_of : (key : List ℕ) (hint : Option (List ℕ)) (parts : List (Parts × List ℕ)) (svid : Svid)
    → svid_of_parts key hint parts ≡ Ok svid → Kept key hint parts svid
kept_of key hint [] svid is = absurd (cc)
kept_of key hint (leaf ∷ others) svid is =
    let made : Id × ℤ → List ℕ → Svid =
    λ found kept. record {
      id = found.0;
      hint = hint;
      chain = texts (leaf ∷ others);
      key = kept;
      expiry = found.1;
    } in
    let a = ok_bind {B = Svid} (leaf_rule leaf.0)
    (λ found. intermediates_rule others >>= λ _. broken_as svid_of_key (key_rule key)
    >>= λ kept. Ok (made found kept)) svid is in
    let b = ok_bind {B = Svid} (intermediates_rule others)
    (λ _. broken_as svid_of_key (key_rule key) >>= λ kept. Ok (made a.0 kept)) svid a.2 in
    let c = ok_bind {B = Svid} (broken_as svid_of_key (key_rule key)) (λ kept. Ok (made a.0 kept))
    svid b.2 in
    let same = ok_is {E = X509SvidError} (made a.0 c.0) svid (Ok (made a.0 c.0)) refl c.2 in
    record {
      chain_is = ap (λ (s : Svid). s.chain) same;
      key_is = sym (key_kept key c.0 c.1) ∙ ap (λ (s : Svid). s.key) same;
      hint_is = ap (λ (s : Svid). s.hint) same;
    }

-- where the SVID of a chain, a key and a hint stands
pub record Taken (chain key : List ℕ) (hint : Option (List ℕ)) (svid : Svid) : Type 0 where
  pub parts : List (Parts × List ℕ)
  pub read : chain_rule chain ≡ Ok parts
  pub kept : Kept key hint parts svid

taken : (chain key : List ℕ) (hint : Option (List ℕ)) (svid : Svid)
    → svid_of chain key hint ≡ Ok svid → Taken chain key hint svid
unfolding svid_of
taken chain key hint svid is =
    let a = ok_bind (broken_as svid_of_certificate (chain_rule chain))
    (λ parts. svid_of_parts key hint parts) svid is in
    record {
      parts = a.0;
      read = ok_as svid_of_certificate (chain_rule chain) a.0 a.1;
      kept = kept_of key hint a.0 svid a.2;
    }

chain_of : (chain key : List ℕ) (hint : Option (List ℕ)) (svid : Svid) → IsBytes chain
    → svid_of chain key hint ≡ Ok svid → CertsOf chain svid.chain
chain_of chain key hint svid all is =
    let t = taken chain key hint svid is in
    subst (CertsOf chain) t.kept.chain_is (chain_certs chain t.parts all t.read).0

-- an SVID is that of its own chain, key and hint
pub svid_again : (chain key : List ℕ) (hint : Option (List ℕ)) (svid : Svid) → IsBytes chain
    → svid_of chain key hint ≡ Ok svid → IsSvid svid
svid_again chain key hint svid all is =
    let t = taken chain key hint svid is in
    let cut = certs_joined svid.chain chain (chain_of chain key hint svid all is) in
    (λ i. svid_of (sym cut i) (sym t.kept.key_is i) (sym t.kept.hint_is i)) ∙ is

-- and of no other
pub svid_exact : (chain key : List ℕ) (hint : Option (List ℕ)) (svid : Svid) → IsBytes chain
    → IsSvid svid
    → ((key ≡ svid.key) × (hint ≡ svid.hint) × CertsOf chain svid.chain)
    ↔ (svid_of chain key hint ≡ Ok svid)
svid_exact chain key hint svid all parsed = (
  λ p. (λ i. svid_of (certs_joined svid.chain chain p.2 i) (p.0 i) (p.1 i)) ∙ parsed,
  λ is. let t = taken chain key hint svid is in
      (t.kept.key_is, t.kept.hint_is, chain_of chain key hint svid all is),
)

-- ---- whether bytes are certificates, one after another

-- the bytes begin with those certificates
abbrev pub Begun : List ℕ → List ℕ → List (List ℕ) → Type 0
Begun der rest done = (front : List ℕ) × (der ≡ front ++ rest) × CertsOf front done

-- one more is there
pub begun_more : (certs : List (List ℕ)) (i : ℕ) (item der rest after : List ℕ)
    → Begun der rest (take i certs) → i < length certs → item ≡ get_or certs i item
    → IsCertificate item
    → rest ≡ item ++ after → Begun der after (take (i + 1) certs)
begun_more certs i item der rest after (front, cut, done) lt is (parts, text) whole =
    let more : take (i + 1) certs ≡ take i certs ++ item ∷ [] =
    take_more certs i item lt ∙ ap (λ (z : List ℕ). take i certs ++ z ∷ []) (sym is) in (
      front ++ item,
      cut ∙ ap (λ (z : List ℕ). front ++ z) whole ∙ sym (append_assoc front item after),
      subst (CertsOf (front ++ item)) (sym more)
          (certs_more (take i certs) front item parts done text),
    )

joined-append : (xs ys : List (List ℕ)) → joined (xs ++ ys) ≡ joined xs ++ joined ys
joined-append [] ys = refl
joined-append (x ∷ xs) ys =
    ap (λ (z : List ℕ). x ++ z) (joined-append xs ys) ∙ sym (append_assoc x (joined xs) (joined ys))

-- where the next is not there, the bytes are not these certificates
pub begun_not : (certs : List (List ℕ)) (i : ℕ) (item der rest : List ℕ)
    → Begun der rest (take i certs) → i < length certs → item ≡ get_or certs i item
    → (take (length item) rest ≡ item → ⊥) → CertsOf der certs → ⊥
begun_not certs i item der rest (front, cut, done) lt is other whole =
    let left = drop (suc i) certs in
    let next : drop i certs ≡ item ∷ left =
    drop-cons certs i item lt ∙ ap (λ (z : List ℕ). z ∷ left) (sym is) in
    let tail : certs ≡ take i certs ++ item ∷ left =
    sym (take-append-drop i certs) ∙ ap (λ (z : List (List ℕ)). take i certs ++ z) next in
    let first : front ≡ joined (take i certs) = certs_joined (take i certs) front done in
    let both : front ++ rest ≡ front ++ (item ++ joined left) =
    sym cut ∙ certs_joined certs der whole ∙ ap joined tail
    ∙ joined-append (take i certs) (item ∷ left)
    ∙ ap (λ (z : List ℕ). z ++ joined (item ∷ left)) (sym first) in
    let same = append_cancel_left front rest (item ++ joined left) both in
    other (ap (take (length item)) same ∙ take_at item (joined left) (length item) refl)

-- all are there, and the bytes are these certificates exactly where nothing is left
pub begun_done : (certs : List (List ℕ)) (i : ℕ) (der rest : List ℕ) → Begun der rest (take i certs)
    → length certs ≤ i → (length rest ≡ 0) ↔ CertsOf der certs
begun_done certs i der rest (front, cut, done) le =
    let all : take i certs ≡ certs = take_all i certs le in
    let known : CertsOf front certs = subst (CertsOf front) all done in (
      λ none. subst (λ (z : List ℕ). CertsOf z certs) (sym (cut ∙ ended rest none)) known,
      λ whole. omega (
        arith,
        length-append front rest,
        ap (length {A = ℕ})
            (sym cut ∙ certs_joined certs der whole ∙ sym (certs_joined certs front known)),
      ),
    )
  where
    ended : (r : List ℕ) → length r ≡ 0 → front ++ r ≡ front
    ended [] none = append-nil front
    ended (x ∷ r) none = absurd (omega arith)
