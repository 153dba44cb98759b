-- The text of an ID is ASCII.
use Rattle.std.proofs.Common.{◌≡◌, ℕ, ◌<◌, Bool, true, false, List, [], ◌∷◌, ◌++◌, length, drop}
use Rattle.std.proofs.Common.{nat_eq, Ok, refl, not, arith}
use Rattle.std.specs.Prelude.{◌||◌, ◌==◌, nat_lt, codes}
use Rattle.std.specs.List.{list_all, slice_split, starts_with}
use Rattle.std.specs.Str.{IsAscii, bytes_eq}
use Rattle.std.proofs.lemmas.Bool.Decides.{nat_tests}
use Rattle.std.proofs.lemmas.Str.{IsAscii-append}
use Rattle.std.proofs.lemmas.Str.Ascii.{IsAscii-cons, IsAscii-nil}
use Rattle.spf_id.specs.declared.error.SpiffeIdError.{SpiffeIdError}
use Rattle.spf_id.specs.declared.error.SpiffeIdError.TheVariants.{Empty, TooLong, WrongScheme}
use Rattle.spf_id.specs.declared.error.SpiffeIdError.TheVariants.{MissingTrustDomain, EmptySegment}
use Rattle.spf_id.specs.declared.error.SpiffeIdError.TheVariants.{TrailingSlash}
use Rattle.spf_id.specs.Id.{Id, id_text}
use Rattle.spf_id.specs.Rule.{is_slash, is_domain_octet, is_path_octet, domain_rule, segment_rule}
use Rattle.spf_id.specs.Rule.{segments_rule, path_of, parts_rule, id_rule}
use Rattle.spf_id.proofs.Ids.{past, after}
use Rattle.spf_id.proofs.Names.{both_true}

unless : (b : Bool) → not b ≡ false → b ≡ true
unless true h = refl
unless false h = absurd (cc)

domain_octet : (x : ℕ) → is_domain_octet x ≡ true → x < 128
domain_octet x h = grind (arith, nat_tests, h)

path_octet : (x : ℕ) → is_path_octet x ≡ true → x < 128
path_octet x h = grind (arith, nat_tests, h)

all_ascii : (p : ℕ → Bool) (xs : List ℕ) → ((x : ℕ) → p x ≡ true → x < 128)
    → list_all p xs ≡ true → IsAscii xs
all_ascii p [] below h = IsAscii-nil
all_ascii p (x ∷ xs) below h =
    let both = both_true (p x) (list_all p xs) h in
    IsAscii-cons x xs (below x both.0) (all_ascii p xs below both.1)

domain_ascii : (d : List ℕ) → domain_rule d ≡ Ok tt → IsAscii d
unfolding domain_rule
domain_ascii d h =
    let a = past (nat_lt 255 (length d)) _ _ tt h in
    let b = past (not (list_all is_domain_octet d)) _ _ tt a.1 in
    all_ascii is_domain_octet d domain_octet (unless (list_all is_domain_octet d) b.0)

segment_ascii : (e : SpiffeIdError) (s : List ℕ) → segment_rule e s ≡ Ok tt → IsAscii s
unfolding segment_rule
segment_ascii e s h =
    let a = past (length s == 0) _ _ tt h in
    let b = past (bytes_eq s (codes ".") || bytes_eq s (codes "..")) _ _ tt a.1 in
    let c = past (not (list_all is_path_octet s)) _ _ tt b.1 in
    all_ascii is_path_octet s path_octet (unless (list_all is_path_octet s) c.0)

path_ascii : (segments : List (List ℕ)) → segments_rule segments ≡ Ok tt
    → IsAscii (path_of segments)
path_ascii [] h = IsAscii-nil
path_ascii (s ∷ []) h =
    IsAscii-cons 47 _ (omega arith)
    (IsAscii-append s [] (segment_ascii TrailingSlash s h) IsAscii-nil)
path_ascii (s ∷ next ∷ others) h =
    let a = after (segment_rule EmptySegment s) _ tt h in
    IsAscii-cons 47 _ (omega arith)
    (IsAscii-append s (path_of (next ∷ others)) (segment_ascii EmptySegment s a.1)
    (path_ascii (next ∷ others) a.2))

parts_ascii : (parts : List (List ℕ)) (id : Id) → parts_rule parts ≡ Ok id
    → IsAscii (id.domain ++ id.path)
unfolding parts_rule
parts_ascii [] id h = absurd (cc)
parts_ascii (domain ∷ segments) id h =
    let a = past (length domain == 0) MissingTrustDomain _ id h in
    let b = after (domain_rule domain) _ id a.1 in
    let c = after (segments_rule segments) _ id b.2 in
    let same : domain ≡ id.domain = cc in
    let path : path_of segments ≡ id.path = cc in
    rw (← same, ← path)
    (IsAscii-append domain (path_of segments) (domain_ascii domain b.1) (path_ascii segments c.1))

-- the text of an ID that breaks no rule is ASCII
pub id_ascii : (t : List ℕ) (id : Id) → id_rule t ≡ Ok id → IsAscii (id_text id)
unfolding id_rule id_text
id_ascii t id h =
    let a = past (length t == 0) Empty _ id h in
    let b = past (nat_lt 2048 (length t)) TooLong _ id a.1 in
    let c = past (not (starts_with nat_eq t (codes "spiffe://"))) WrongScheme _ id b.1 in
    let scheme : IsAscii (codes "spiffe://") = search arith in
    IsAscii-append (codes "spiffe://") (id.domain ++ id.path) scheme
    (parts_ascii (slice_split is_slash (drop 9 t)) id c.1)
