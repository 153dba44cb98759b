-- The equality and the order of IDs, and their texts.
use Rattle.std.proofs.Common.{◌≡◌, Bool, true, ℕ, ◌+◌, List, length, drop, nat_eq, refl, ap, sym}
use Rattle.std.proofs.Common.{◌∙◌, Ok}
use Rattle.std.specs.declared.cmp.Ordering.{Ordering}
use Rattle.std.specs.declared.cmp.Ordering.TheVariants.{Less, Equal, Greater}
use Rattle.std.specs.Ordering.{nat_cmp, ordering_then, is_eq}
use Rattle.std.specs.Cmp.Lexicographic.{pointwise, slice_cmp, texts_ties}
use Rattle.std.proofs.lemmas.Bool.Decides.{Decides-and, Decides-like}
use Rattle.spf_io.specs.Exact.{IsExact}
use Rattle.spf_io.proofs.Exact.{bytes_exact}
use Rattle.spf_id.specs.Id.{Id, id_text}
use Rattle.spf_id.specs.Rule.{id_rule}
use Rattle.spf_id.specs.contracts.spiffe_id.SpiffeIdPartialEq.TheImpl as equality
use Rattle.spf_id.specs.contracts.spiffe_id.SpiffeIdOrd.TheImpl as order
use Rattle.spf_id.proofs.Ids.{path_drop}

abbrev pub id_eq : Id → Id → Bool
id_eq = equality.ghosts.eq

abbrev pub id_cmp : Id → Id → Ordering
id_cmp = order.ghosts.cmp

-- equal texts and equal trust domains make equal IDs
same_id : (a b : Id) → (id_text a ≡ id_text b) × (a.domain ≡ b.domain) → a ≡ b
same_id a b (text, domain) =
    let path : a.path ≡ b.path =
    sym (path_drop (id_text a) a refl) ∙ ap (λ (t : List ℕ). drop (9 + length a.domain) t) text
    ∙ ap (λ (d : List ℕ). drop (9 + length d) (id_text b)) domain ∙ path_drop (id_text b) b refl in
    λ i. record { domain = domain i; path = path i }

-- the equality of IDs decides `≡`
pub id_exact : IsExact Id id_eq
id_exact a b =
    Decides-like _ (same_id a b) (λ (e : a ≡ b). (ap id_text e, ap (λ (x : Id). x.domain) e))
    (Decides-and (pointwise nat_eq (id_text a) (id_text b)) (pointwise nat_eq a.domain b.domain)
    (bytes_exact (id_text a) (id_text b)) (bytes_exact a.domain b.domain))

-- names of which neither stands before the other are equal
pub name_ties : (x y : List ℕ) → slice_cmp nat_cmp x y ≡ Equal → x ≡ y
name_ties x y h = (bytes_exact x y).0 (texts_ties x y ∙ ap is_eq h)

names_tie : (x y : List ℕ) → x ≡ y → is_eq (slice_cmp nat_cmp x y) ≡ true
names_tie x y h = sym (texts_ties x y) ∙ (bytes_exact x y).1 h

both_tie : (o p : Ordering) → ordering_then o p ≡ Equal → (o ≡ Equal) × (p ≡ Equal)
both_tie Less p h = absurd (cc)
both_tie Equal p h = (refl, h)
both_tie Greater p h = absurd (cc)

-- and so are IDs
pub id_ties : (a b : Id) → id_cmp a b ≡ Equal → a ≡ b
id_ties a b h =
    let both = both_tie (slice_cmp nat_cmp (id_text a) (id_text b))
    (slice_cmp nat_cmp a.domain b.domain) h in
    same_id a b (name_ties (id_text a) (id_text b) both.0, name_ties a.domain b.domain both.1)

first_decides : (o p : Ordering) → (is_eq o ≡ true → is_eq p ≡ true) → ordering_then o p ≡ o
first_decides Less p h = refl
first_decides Equal Less h = absurd (let e = h refl in cc)
first_decides Equal Equal h = refl
first_decides Equal Greater h = absurd (let e = h refl in cc)
first_decides Greater p h = refl

-- IDs whose texts are IDs by the rules are in the order of the texts
pub order_of_text : (a b : Id) → (id_text a ≡ id_text b → a ≡ b)
    → id_cmp a b ≡ slice_cmp nat_cmp (id_text a) (id_text b)
order_of_text a b same =
    first_decides (slice_cmp nat_cmp (id_text a) (id_text b)) (slice_cmp nat_cmp a.domain b.domain)
    (λ tie. names_tie a.domain b.domain
    (ap (λ (x : Id). x.domain)
    (same ((bytes_exact (id_text a) (id_text b)).0 (texts_ties (id_text a) (id_text b) ∙ tie)))))

-- the rules give one ID for a text
pub one_id : (a b : Id) (s t : List ℕ) → s ≡ id_text a → id_rule s ≡ Ok a → t ≡ id_text b
    → id_rule t ≡ Ok b → id_text a ≡ id_text b → a ≡ b
one_id a b s t of_a rule_a of_b rule_b text =
    let both : id_rule s ≡ id_rule t = ap id_rule (of_a ∙ text ∙ sym of_b) in
    cc
