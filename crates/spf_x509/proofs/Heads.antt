-- The first two certificates of a chain.
use Rattle.std.proofs.Common.{◌≡◌, ℕ, ◌<◌, List, [], ◌∷◌, length, Option, Ok, Err}
use Rattle.std.proofs.Common.{Bool, true, false, ◌==◌, refl, sym, ap, ◌∙◌, subst, arith}
use Rattle.std.specs.Bool.{MatchBool}
use Rattle.std.proofs.lemmas.Bool.Decides.{nat_tests}
use Rattle.spf_io.specs.Rule.{many}
use Rattle.spf_io.proofs.Each.{unless}
use Rattle.spf_io.proofs.Many.{with_front}
use Rattle.spf_der.specs.Grammar.{joined}
use Rattle.spf_der.specs.Part.{Parts}
use Rattle.spf_der.specs.Value.{IsBytes}
use Rattle.spf_x509.specs.declared.error.CertificateError.{CertificateError}
use Rattle.spf_x509.specs.declared.error.CertificateError.TheVariants.{OutOfMemory}
use Rattle.spf_x509.specs.declared.error.CertificateError.TheVariants.{TooManyCertificates}
use Rattle.spf_x509.specs.declared.svid_error.X509SvidError.TheVariants.{EmptyChain}
use Rattle.spf_x509.specs.Chain.{IsChain, IsSvid, certificate_text_at, chain_after, chain_rule}
use Rattle.spf_x509.specs.Chain.{svid_of, svid_of_parts, texts}
use Rattle.spf_x509.specs.Errors.{is_memory_certificate, is_memory_svid, svid_of_certificate}
use Rattle.spf_x509.specs.Svid.{Svid}
use Rattle.spf_x509.proofs.Cuts.{chain_certs, certs_joined, kept_of, ok_bind, ok_is}
use Rattle.spf_x509.proofs.Within.{GoesWithin, within_done, within_fails, within_more}
use Rattle.spf_x509.proofs.Within.{within_starts}

-- what is cut of a chain, and what is left
abbrev pub Cut : List ℕ → List (Parts × List ℕ) → List ℕ → Type 0
Cut chain parts rest =
    GoesWithin certificate_text_at (TooManyCertificates 16) 16 parts rest (chain_rule chain)

-- nothing is cut
pub none_cut : (chain : List ℕ) → Cut chain [] chain
unfolding chain_rule
none_cut chain = within_starts certificate_text_at (TooManyCertificates 16) 16 chain

-- one certificate is cut
pub one_cut : (chain rest : List ℕ) (leaf : Parts × List ℕ) → 0 < length chain
    → certificate_text_at chain ≡ Ok (leaf, rest) → Cut chain (leaf ∷ []) rest
one_cut chain rest leaf some found =
    within_more certificate_text_at (TooManyCertificates 16) 16 [] chain (chain_rule chain) leaf
    rest some found (λ none. omega (arith, none)) (none_cut chain)

-- two are
pub two_cut : (chain rest after : List ℕ) (leaf second : Parts × List ℕ) → 0 < length chain
    → certificate_text_at chain ≡ Ok (leaf, rest) → 0 < length rest
    → certificate_text_at rest ≡ Ok (second, after) → Cut chain (leaf ∷ second ∷ []) after
two_cut chain rest after leaf second some found more next =
    within_more certificate_text_at (TooManyCertificates 16) 16 (leaf ∷ []) rest (chain_rule chain)
    second after more next (λ one. omega (arith, one)) (one_cut chain rest leaf some found)

-- all are cut
pub all_cut : (chain rest : List ℕ) (parts : List (Parts × List ℕ)) → Cut chain parts rest
    → length rest ≡ 0 → chain_rule chain ≡ Ok parts
all_cut chain rest parts cut none =
    within_done certificate_text_at (TooManyCertificates 16) 16 parts rest (chain_rule chain) none
    cut

-- what is left starts with no certificate
cut_fails : (chain rest : List ℕ) (parts : List (Parts × List ℕ)) (e : CertificateError)
    → Cut chain parts rest → 0 < length rest → length parts < 16 → certificate_text_at rest ≡ Err e
    → chain_rule chain ≡ Err e
cut_fails chain rest parts e cut some room broken =
    within_fails certificate_text_at (TooManyCertificates 16) 16 parts rest (chain_rule chain) e
    some broken (λ full. omega (arith, full, room)) cut

-- whether an `is_empty` says that something is left
pub is_left : (n : ℕ) (b : Bool) → b ≡ (n == 0) → b ≡ false → 0 < n
is_left n b is off = grind (arith, nat_tests, is, off)

-- or nothing
pub none_left : (n : ℕ) (b : Bool) → b ≡ (n == 0) → b ≡ true → n ≡ 0
none_left n b is on = grind (arith, nat_tests, is, on)

-- the rest of a chain decides, where two are cut
pub others_decide : (chain after : List ℕ) (leaf second : Parts × List ℕ)
    → Cut chain (leaf ∷ second ∷ []) after → chain_rule chain ≡ chain_after leaf second after
others_decide chain after leaf second cut =
    let left : cut.left ≡ 14 = omega (arith, cut.within) in
    sym cut.is
    ∙ ap (λ (n : ℕ). with_front (leaf ∷ second ∷ [])
    (many certificate_text_at (TooManyCertificates 16) n after)) left

-- of a chain whose first two are cut, there are some
pub some_after : (leaf second : Parts × List ℕ) (others : List ℕ) (parts : List (Parts × List ℕ))
    → chain_after leaf second others ≡ Ok parts → 0 < length parts
some_after leaf second others parts is =
    let after : List (Parts × List ℕ) → List (Parts × List ℕ) = λ more. leaf ∷ second ∷ more in
    let more = ok_bind {E = CertificateError}
    (many certificate_text_at (TooManyCertificates 16) 14 others) (λ more. Ok (after more)) parts
    is in
    subst (λ (ps : List (Parts × List ℕ)). 0 < length ps)
    (ok_is {E = CertificateError} (after more.0) parts (Ok (after more.0)) refl more.2)
    (omega arith)

-- the SVID of a chain is that of the certificates that are read of it
pub parts_decide : (chain key : List ℕ) (hint : Option (List ℕ)) (parts : List (Parts × List ℕ))
    → chain_rule chain ≡ Ok parts → svid_of chain key hint ≡ svid_of_parts key hint parts
unfolding svid_of
parts_decide chain key hint parts is = rw is refl

-- and there is none of no certificates
pub none_decide : (chain key : List ℕ) (hint : Option (List ℕ)) (parts : List (Parts × List ℕ))
    → chain_rule chain ≡ Ok parts → length parts ≡ 0 → svid_of chain key hint ≡ Err EmptyChain
none_decide chain key hint [] is none = parts_decide chain key hint [] is
none_decide chain key hint (p ∷ ps) is none = absurd (omega arith)

memory_stays : (e : CertificateError)
    → is_memory_svid (svid_of_certificate e) ≡ is_memory_certificate e
memory_stays OutOfMemory = refl
memory_stays _ = refl

-- a chain that is refused has no SVID
pub none_given : (chain key : List ℕ) (hint : Option (List ℕ)) (e : CertificateError)
    → MatchBool (is_memory_certificate e) (Unit {0}) (chain_rule chain ≡ Err e)
    → MatchBool (is_memory_svid (svid_of_certificate e)) (Unit {0})
    (svid_of chain key hint ≡ Err (svid_of_certificate e))
unfolding svid_of
none_given chain key hint e is =
    rw (memory_stays e) (unless (is_memory_certificate e) (λ broken. rw broken refl) is)

-- nor one of which what is left is refused
pub rest_refused : (chain rest key : List ℕ) (hint : Option (List ℕ))
    (parts : List (Parts × List ℕ)) (e : CertificateError) → Cut chain parts rest → 0 < length rest
    → length parts < 16
    → MatchBool (is_memory_certificate e) (Unit {0}) (certificate_text_at rest ≡ Err e)
    → MatchBool (is_memory_svid (svid_of_certificate e)) (Unit {0})
    (svid_of chain key hint ≡ Err (svid_of_certificate e))
rest_refused chain rest key hint parts e cut some room is =
    none_given chain key hint e
    (unless (is_memory_certificate e) (cut_fails chain rest parts e cut some room) is)

-- what is read of a chain is a chain
pub read_is_chain : (chain : List ℕ) (parts : List (Parts × List ℕ)) → IsBytes chain
    → chain_rule chain ≡ Ok parts → IsChain parts
read_is_chain chain parts all is =
    subst (λ (b : List ℕ). chain_rule b ≡ Ok parts)
    (certs_joined (texts parts) chain (chain_certs chain parts all is).0) is

-- the SVID of such a chain is one
pub parts_give : (key : List ℕ) (hint : Option (List ℕ)) (parts : List (Parts × List ℕ))
    (svid : Svid) → IsChain parts → svid_of_parts key hint parts ≡ Ok svid → IsSvid svid
unfolding svid_of
parts_give key hint parts svid whole is =
    let kept = kept_of key hint parts svid is in
    let read : svid_of (joined (texts parts)) key hint ≡ Ok svid = rw whole is in
    (λ i. svid_of (joined (sym kept.chain_is i)) (sym kept.key_is i) (sym kept.hint_is i)) ∙ read
