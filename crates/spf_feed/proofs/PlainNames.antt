-- The names that the rules of IDs and of certificates let through have no line feed.
use Rattle.std.proofs.Common.{◌≡◌, ℕ, Bool, true, false, not, cond, List, [], ◌∷◌, ◌++◌, length}
use Rattle.std.proofs.Common.{Option, Some, None, Result, Ok, Err, refl, subst, nat_eq}
use Rattle.std.specs.Prelude.{ℤ, codes, ◌==◌, ◌||◌, nat_lt, drop}
use Rattle.std.specs.List.{list_all, slice_split, starts_with}
use Rattle.std.specs.Str.{bytes_eq}
use Rattle.spf_io.specs.Rule.{◌>>=◌, broken_as}
use Rattle.spf_id.specs.Id.{Id, id_text}
use Rattle.spf_id.specs.Rule.{is_slash, is_domain_octet, is_path_octet, domain_rule, segment_rule}
use Rattle.spf_id.specs.Rule.{segments_rule, path_of, parts_rule, id_rule, holds_colon_slash}
use Rattle.spf_id.specs.Rule.{name_rule, has_spiffe_scheme}
use Rattle.spf_id.specs.declared.error.SpiffeIdError.{SpiffeIdError}
use Rattle.spf_id.specs.declared.error.SpiffeIdError.TheVariants.{Empty, TooLong, WrongScheme}
use Rattle.spf_id.specs.declared.error.SpiffeIdError.TheVariants.{MissingTrustDomain}
use Rattle.spf_id.specs.declared.error.SpiffeIdError.TheVariants.{TrustDomainTooLong}
use Rattle.spf_id.specs.declared.error.SpiffeIdError.TheVariants.{BadTrustDomainChar, EmptySegment}
use Rattle.spf_id.specs.declared.error.SpiffeIdError.TheVariants.{DotSegment, BadPathChar}
use Rattle.spf_id.specs.declared.error.SpiffeIdError.TheVariants.{TrailingSlash}
use Rattle.spf_x509.specs.declared.error.CertificateError.TheVariants.{OversizedUriSan}
use Rattle.spf_x509.specs.declared.extension.X509ExtensionId.TheVariants.{SubjectAlternativeName}
use Rattle.spf_x509.specs.declared.svid_error.X509SvidError.TheVariants.{LeafCertificateHasCaFlag}
use Rattle.spf_x509.specs.declared.svid_error.X509SvidError.TheVariants.{LeafSpiffeIdMissingPath}
use Rattle.spf_x509.specs.Errors.{of_id, svid_of_certificate, svid_of_key}
use Rattle.spf_x509.specs.Certificate.{oid_of, extension_rule, found_id, uri_rule, uris_rule}
use Rattle.spf_x509.specs.Certificate.{readable_names, san_rule}
use Rattle.spf_x509.specs.Chain.{chain_rule, intermediates_rule, svid_of_parts, svid_of}
use Rattle.spf_x509.specs.Key.{key_rule}
use Rattle.spf_x509.specs.Rule.{usage_rule, leaf_usage, ca_rule, must, leaf_rule}
use Rattle.spf_x509.specs.Svid.{Svid}
use Rattle.spf_feed.proofs.Plain.{Plain, behind, tested}

-- ---- rules that were not broken

past : {A E : Type 0} (b : Bool) (e : E) (r : Result A E) (y : A) → cond b (Err e) r ≡ Ok y
    → (b ≡ false) × (r ≡ Ok y)
past true e r y h = absurd (cc)
past false e r y h = (refl, h)

pub bound : {A B E Q : Type 0} (r : Result A E) (f : A → Result B E) (y : B) → (r >>= f) ≡ Ok y
    → ((x : A) → r ≡ Ok x → f x ≡ Ok y → Q) → Q
bound (Err e) f y h go = absurd (cc)
bound (Ok x) f y h go = go x refl h

pub as_read : {A E F : Type 0} (g : E → F) (r : Result A E) (y : A) → broken_as g r ≡ Ok y
    → r ≡ Ok y
as_read g (Ok x) y h = cc
as_read g (Err e) y h = absurd (cc)

kept : (b : Bool) → not b ≡ false → b ≡ true
kept true h = refl
kept false h = absurd (cc)

-- ---- IDs

-- the parts of an ID have no line feed
abbrev pub PlainId : Id → Type 0
PlainId id = Plain id.domain × Plain id.path

domain_plain : (domain : List ℕ) (done : Unit {0}) → domain_rule domain ≡ Ok done → Plain domain
unfolding domain_rule
domain_plain domain done h =
    let a = past (nat_lt 255 (length domain)) TrustDomainTooLong _ done h in
    let b = past (not (list_all is_domain_octet domain)) BadTrustDomainChar _ done a.1 in
    tested is_domain_octet refl domain (kept (list_all is_domain_octet domain) b.0)

segment_plain : (empty : SpiffeIdError) (segment : List ℕ) (done : Unit {0})
    → segment_rule empty segment ≡ Ok done → Plain segment
unfolding segment_rule
segment_plain empty segment done h =
    let a = past (length segment == 0) empty _ done h in
    let b = past (bytes_eq segment (codes ".") || bytes_eq segment (codes "..")) DotSegment _ done
    a.1 in
    let c = past (not (list_all is_path_octet segment)) BadPathChar _ done b.1 in
    tested is_path_octet refl segment (kept (list_all is_path_octet segment) c.0)

segments_plain : (segments : List (List ℕ)) (done : Unit {0}) → segments_rule segments ≡ Ok done
    → Plain (path_of segments)
segments_plain [] done h = refl
segments_plain (segment ∷ []) done h =
    behind segment [] (segment_plain TrailingSlash segment done h) refl
segments_plain (segment ∷ next ∷ others) done h =
    bound (segment_rule EmptySegment segment) _ done h (λ first first_is rest.
    behind segment (path_of (next ∷ others)) (segment_plain EmptySegment segment first first_is)
    (segments_plain (next ∷ others) done rest))

parts_plain : (parts : List (List ℕ)) (id : Id) → parts_rule parts ≡ Ok id → PlainId id
unfolding parts_rule
parts_plain [] id h = absurd (cc)
parts_plain (domain ∷ segments) id h =
    let a = past (length domain == 0) MissingTrustDomain _ id h in
    bound (domain_rule domain) _ id a.1 (λ d d_is rest.
    bound (segments_rule segments) _ id rest (λ s s_is made.
    let whole : Id = record { domain = domain; path = path_of segments } in
    let same : whole ≡ id = cc in
    subst PlainId same (domain_plain domain d d_is, segments_plain segments s s_is)))

pub id_plain : (text : List ℕ) (id : Id) → id_rule text ≡ Ok id → PlainId id
unfolding id_rule
id_plain text id h =
    let a = past (length text == 0) Empty _ id h in
    let b = past (nat_lt 2048 (length text)) TooLong _ id a.1 in
    let c = past (not (starts_with nat_eq text (codes "spiffe://"))) WrongScheme _ id b.1 in
    parts_plain (slice_split is_slash (drop 9 text)) id c.1

-- the text of such an ID
pub id_text_plain : (id : Id) → PlainId id → Plain (id_text id)
unfolding id_text
id_text_plain id p =
    behind (codes "spiffe://") (id.domain ++ id.path) refl (behind id.domain id.path p.0 p.1)

-- a name is that of an ID, or a trust domain
pub name_plain : (text name : List ℕ) → name_rule text ≡ Ok name → Plain name
unfolding name_rule
name_plain text name h = by (holds_colon_slash text) h
  where
    by : (b : Bool)
        → cond b (id_rule text >>= λ id. Ok id.domain)
        (cond (length text == 0) (Err Empty) (domain_rule text >>= λ _. Ok text)) ≡ Ok name
        → Plain name
    by true is =
        bound (id_rule text) _ name is (λ id id_is made.
        let same : id.domain ≡ name = cc in
        subst Plain same (id_plain text id id_is).0)
    by false is =
        let a = past (length text == 0) Empty _ name is in
        bound (domain_rule text) _ name a.1 (λ d d_is made.
        let same : text ≡ name = cc in
        subst Plain same (domain_plain text d d_is))

-- ---- the ID of a certificate

uri_plain : (uri : List ℕ) (o : Option Id) (id : Id) → uri_rule uri ≡ Ok o → found_id o ≡ Ok id
    → PlainId id
unfolding uri_rule
uri_plain uri None id h found = absurd (cc)
uri_plain uri (Some x) id h found =
    let a = past (nat_lt 2048 (length uri)) (OversizedUriSan 2048) _ (Some x) h in
    let same : x ≡ id = cc in
    subst PlainId same (by (not (has_spiffe_scheme uri)) a.1)
  where
    by : (b : Bool)
        → cond b (Ok None) (broken_as of_id (id_rule uri) >>= λ i. Ok (Some i)) ≡ Ok (Some x)
        → PlainId x
    by true is = absurd (cc)
    by false is =
        bound (broken_as of_id (id_rule uri)) _ (Some x) is (λ i i_is made.
        let read : i ≡ x = cc in
        subst PlainId read (id_plain uri i (as_read of_id (id_rule uri) i i_is)))

uris_plain : (uris : List (List ℕ)) (id : Id) → uris_rule uris ≡ Ok id → PlainId id
uris_plain [] id h = absurd (cc)
uris_plain (uri ∷ []) id h =
    bound (uri_rule uri) found_id id h (λ o o_is found. uri_plain uri o id o_is found)
uris_plain (uri ∷ second ∷ uris) id h = bound (uri_rule uri) _ id h (λ o o_is broken. absurd (cc))

san_plain : (parts : _) (id : Id) → san_rule parts ≡ Ok id → PlainId id
unfolding san_rule
san_plain parts id h =
    bound (extension_rule (oid_of SubjectAlternativeName) SubjectAlternativeName parts) _ id h
    (λ contents c_is rest.
    bound (readable_names _) _ id rest (λ uris u_is last. uris_plain uris id last))

leaf_plain : (parts : _) (found : Id × ℤ) → leaf_rule parts ≡ Ok found → PlainId found.0
unfolding leaf_rule
leaf_plain parts found h =
    bound (usage_rule parts) _ found h (λ usage u_is after_usage.
    bound (leaf_usage usage) _ found after_usage (λ used l_is after_leaf.
    bound (ca_rule parts) _ found after_leaf (λ ca c_is after_ca.
    bound (must (not ca) LeafCertificateHasCaFlag) _ found after_ca (λ flag f_is after_flag.
    bound (broken_as svid_of_certificate (san_rule parts)) _ found after_flag (λ id i_is after_id.
    bound (must (not (length id.path == 0)) LeafSpiffeIdMissingPath) _ found after_id
    (λ path p_is made.
    let same : id ≡ found.0 = cc in
    subst PlainId same
    (san_plain parts id (as_read svid_of_certificate (san_rule parts) id i_is))))))))

parts_svid_plain : (key : List ℕ) (hint : Option (List ℕ)) (parts : List (_ × List ℕ)) (svid : Svid)
    → svid_of_parts key hint parts ≡ Ok svid → PlainId svid.id
parts_svid_plain key hint [] svid h = absurd (cc)
parts_svid_plain key hint (leaf ∷ signers) svid h =
    bound (leaf_rule leaf.0) _ svid h (λ found f_is rest.
    bound (intermediates_rule signers) _ svid rest (λ signed s_is more.
    bound (broken_as svid_of_key (key_rule key)) _ svid more (λ kept_key k_is made.
    let same : found.0 ≡ svid.id = cc in
    subst PlainId same (leaf_plain leaf.0 found f_is))))

-- the ID of an SVID that the rules let through
pub svid_plain : (chain key : List ℕ) (hint : Option (List ℕ)) (svid : Svid)
    → svid_of chain key hint ≡ Ok svid → PlainId svid.id
unfolding svid_of
svid_plain chain key hint svid h =
    bound (broken_as svid_of_certificate (chain_rule chain)) _ svid h
    (λ parts p_is rest. parts_svid_plain key hint parts svid rest)
