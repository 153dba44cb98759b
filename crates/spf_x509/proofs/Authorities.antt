-- The first authorities of a bundle.
use Rattle.std.proofs.Common.{◌≡◌, ℕ, zero, suc, ◌<◌, ◌≤◌, List, [], ◌∷◌, length, Result, Ok, Err}
use Rattle.std.proofs.Common.{refl, sym, ap, ◌∙◌, length-append, arith}
use Rattle.std.specs.Bool.{MatchBool}
use Rattle.spf_io.specs.Rule.{◌>>=◌, many}
use Rattle.spf_io.proofs.Many.{Goes, many_done, many_fails, many_more, many_starts}
use Rattle.spf_io.proofs.Many.{with_front}
use Rattle.spf_io.proofs.Each.{unless}
use Rattle.spf_der.specs.Value.{IsBytes}
use Rattle.spf_der.specs.declared.error.X509ParseKind.TheVariants.{InvalidCertificate}
use Rattle.spf_der.proofs.Exact.{cert_some}
use Rattle.spf_x509.specs.declared.error.CertificateError.{CertificateError}
use Rattle.spf_x509.specs.declared.error.CertificateError.TheVariants.{ParseX509Certificate}
use Rattle.spf_x509.specs.Chain.{authorities_after, authorities_rule, authority_at}
use Rattle.spf_x509.specs.Errors.{is_memory_certificate}
use Rattle.spf_x509.proofs.Cuts.{authority_cut, bytes_after}

-- what is cut of a bundle, and what is left
abbrev pub Taken : List ℕ → List (List ℕ) → List ℕ → Type 0
Taken der front rest =
    Goes authority_at (ParseX509Certificate InvalidCertificate) front rest (authorities_rule der)

-- nothing is cut
pub none_taken : (der : List ℕ) → Taken der [] der
unfolding authorities_rule
none_taken der = many_starts authority_at (ParseX509Certificate InvalidCertificate) der

-- one is cut
pub one_taken : (der rest x : List ℕ) → 0 < length der → authority_at der ≡ Ok (x, rest)
    → length rest < length der → Taken der (x ∷ []) rest
one_taken der rest x some found shorter =
    many_more authority_at (ParseX509Certificate InvalidCertificate) [] der (authorities_rule der)
    x rest some found shorter (none_taken der)

-- two are
pub two_taken : (der rest after x y : List ℕ) → Taken der (x ∷ []) rest → 0 < length rest
    → authority_at rest ≡ Ok (y, after) → length after < length rest
    → Taken der (x ∷ y ∷ []) after
two_taken der rest after x y taken some found shorter =
    many_more authority_at (ParseX509Certificate InvalidCertificate) (x ∷ []) rest
    (authorities_rule der) y after some found shorter taken

-- all are cut
pub all_taken : (der rest : List ℕ) (front : List (List ℕ)) → Taken der front rest
    → length rest ≡ 0 → authorities_rule der ≡ Ok front
all_taken der rest front taken none =
    many_done authority_at (ParseX509Certificate InvalidCertificate) front rest
    (authorities_rule der) none taken

-- what is left is refused
pub rest_fails : (der rest : List ℕ) (front : List (List ℕ)) (e : CertificateError)
    → Taken der front rest → 0 < length rest
    → MatchBool (is_memory_certificate e) (Unit {0}) (authority_at rest ≡ Err e)
    → MatchBool (is_memory_certificate e) (Unit {0}) (authorities_rule der ≡ Err e)
rest_fails der rest front e taken some =
    unless (is_memory_certificate e)
    (λ broken. many_fails authority_at (ParseX509Certificate InvalidCertificate) front rest
    (authorities_rule der) e some broken taken)

enough_after : (spent : CertificateError) (n m : ℕ) (b : List ℕ) → IsBytes b → length b ≤ suc n
    → length b ≤ suc m → (r : Result (List ℕ × List ℕ) CertificateError) → authority_at b ≡ r
    → ((after : List ℕ) → IsBytes after → length after ≤ n → length after ≤ m
    → many authority_at spent n after ≡ many authority_at spent m after)
    → (r >>= λ found. many authority_at spent n found.1 >>= λ others. Ok (found.0 ∷ others))
    ≡ (r >>= λ found. many authority_at spent m found.1 >>= λ others. Ok (found.0 ∷ others))
enough_after spent n m b all le other (Ok (x, after)) is same =
    let cut = authority_cut b x after all is in
    let shorter : length after < length b =
    omega (arith, ap (length {A = ℕ}) cut.2, length-append x after, cert_some x cut.0 cut.1) in
    ap (λ (r : Result (List (List ℕ)) CertificateError). r >>= λ others. Ok (x ∷ others))
    (same after (bytes_after b x after all cut.2) (omega (arith, shorter))
    (omega (arith, shorter)))
enough_after spent n m b all le other (Err e) is same = refl

-- any number of pieces is enough that is not below the number of octets
enough : (spent : CertificateError) (n m : ℕ) (b : List ℕ) → IsBytes b → length b ≤ n
    → length b ≤ m → many authority_at spent n b ≡ many authority_at spent m b
enough spent n m [] all le other = refl
enough spent zero m (c ∷ b) all le other = absurd (omega arith)
enough spent (suc n) zero (c ∷ b) all le other = absurd (omega arith)
enough spent (suc n) (suc m) (c ∷ b) all le other =
    enough_after spent n m (c ∷ b) all le other (authority_at (c ∷ b)) refl
    (λ after octets few too. enough spent n m after octets few too)

-- the rest decides
pub rest_decides : (der rest : List ℕ) (front : List (List ℕ)) → IsBytes rest
    → Taken der front rest → authorities_rule der ≡ authorities_after front rest
unfolding authorities_rule
rest_decides der rest front all (n, le, is) =
    sym is
    ∙ ap (with_front front)
    (enough (ParseX509Certificate InvalidCertificate) n (length rest) rest all le (omega arith))

-- the octets after an authority
pub octets_after : (b x after : List ℕ) → IsBytes b → authority_at b ≡ Ok (x, after)
    → IsBytes after
octets_after b x after all is = bytes_after b x after all (authority_cut b x after all is).2
