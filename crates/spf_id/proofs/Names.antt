-- The name of a trust domain that the rules give: they accept it as it is.
use Rattle.std.proofs.Common.{◌≡◌, ℕ, Bool, true, false, eqb, List, [], ◌∷◌, length, drop, nat_eq}
use Rattle.std.proofs.Common.{Ok, refl, ap, ◌∙◌, not, arith}
use Rattle.std.specs.Prelude.{◌&&◌, ◌==◌, nat_lt, codes}
use Rattle.std.specs.List.{list_all, slice_split, starts_with}
use Rattle.std.proofs.lemmas.Bool.{eqb-true}
use Rattle.spf_id.specs.declared.error.SpiffeIdError.TheVariants.{Empty, TooLong, WrongScheme}
use Rattle.spf_id.specs.declared.error.SpiffeIdError.TheVariants.{MissingTrustDomain}
use Rattle.spf_id.specs.Id.{Id}
use Rattle.spf_id.specs.Rule.{is_slash, is_domain_octet, domain_rule, holds_colon_slash, parts_rule}
use Rattle.spf_id.specs.Rule.{segments_rule, id_rule, name_rule, IsName}
use Rattle.spf_id.proofs.Ids.{past, after}

pub both_true : (a b : Bool) → (a && b) ≡ true → (a ≡ true) × (b ≡ true)
both_true true b h = (refl, h)
both_true false b h = absurd (cc)

colon_step : (b : Bool) (x : ℕ) (xs : List ℕ) → eqb 58 x ≡ b → is_domain_octet x ≡ true
    → holds_colon_slash xs ≡ false → holds_colon_slash (x ∷ xs) ≡ false
colon_step true x xs is octet none =
    absurd (let e : 58 ≡ x = eqb-true 58 x is in
    let no : is_domain_octet 58 ≡ true = ap is_domain_octet e ∙ octet in cc)
colon_step false x xs is octet none = rw is none

-- a trust domain has no colon
no_colon : (xs : List ℕ) → list_all is_domain_octet xs ≡ true → holds_colon_slash xs ≡ false
no_colon [] h = refl
no_colon (x ∷ xs) h =
    let both = both_true (is_domain_octet x) (list_all is_domain_octet xs) h in
    colon_step (eqb 58 x) x xs refl both.0 (no_colon xs both.1)

-- a trust domain that is not empty and breaks no rule is its own name
own_name : (d : List ℕ) → (length d == 0) ≡ false → domain_rule d ≡ Ok tt → IsName d
unfolding name_rule domain_rule
own_name d some h =
    let a = past (nat_lt 255 (length d)) _ _ tt h in
    let b = past (not (list_all is_domain_octet d)) _ _ tt a.1 in
    let octets : list_all is_domain_octet d ≡ true = grind arith in
    rw (no_colon d octets, some, a.0, octets) refl

parts_name : (parts : List (List ℕ)) (id : Id) → parts_rule parts ≡ Ok id → IsName id.domain
unfolding parts_rule
parts_name [] id h = absurd (cc)
parts_name (domain ∷ segments) id h =
    let a = past (length domain == 0) MissingTrustDomain _ id h in
    let b = after (domain_rule domain) _ id a.1 in
    let c = after (segments_rule segments) _ id b.2 in
    let same : domain ≡ id.domain = cc in
    rw (← same) (own_name domain a.0 b.1)

-- and so is the trust domain of an ID
pub domain_name : (t : List ℕ) (id : Id) → id_rule t ≡ Ok id → IsName id.domain
unfolding id_rule
domain_name t id h =
    let a = past (length t == 0) Empty _ id h in
    let b = past (nat_lt 2048 (length t)) TooLong _ id a.1 in
    let c = past (not (starts_with nat_eq t (codes "spiffe://"))) WrongScheme _ id b.1 in
    parts_name (slice_split is_slash (drop 9 t)) id c.1

named_step : (b : Bool) (t name : List ℕ) → holds_colon_slash t ≡ b → name_rule t ≡ Ok name
    → IsName name
unfolding name_rule
named_step true t name is h =
    let a = after (id_rule t) _ name (rw is at h) in
    let same : a.0.domain ≡ name = cc in
    rw (← same) (domain_name t a.0 a.1)
named_step false t name is h =
    let a = past (length t == 0) Empty _ name (rw is at h) in
    let b = after (domain_rule t) _ name a.1 in
    let same : t ≡ name = cc in
    rw (← same) (own_name t a.0 b.1)

-- what the rules give is a name
pub name_name : (t name : List ℕ) → name_rule t ≡ Ok name → IsName name
name_name t name h = named_step (holds_colon_slash t) t name refl h
