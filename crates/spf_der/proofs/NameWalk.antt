-- The names of a subject alternative name, as a walk over them sees them.
use Rattle.std.proofs.Common.{◌≡◌, ℕ, zero, suc, ◌<◌, ◌≤◌, Bool, true, false, List, [], ◌∷◌, length}
use Rattle.std.proofs.Common.{Option, Some, None, refl, ap, sym, ◌∙◌, subst, arith, unwrap_or}
use Rattle.std.specs.Prelude.{is_some, nat_lt}
use Rattle.std.specs.List.{list_all}
use Rattle.std.specs.Str.{IsAscii}
use Rattle.std.proofs.lemmas.Bool.{lt-ltb}
use Rattle.std.specs.Option.{option_map_or}
use Rattle.spf_io.specs.Option.{◌>>=◌}
use Rattle.spf_der.specs.Value.{value_at}
use Rattle.spf_der.specs.Names.{name_at, name_of, with_name, uris_within, uris_of, uris_before}
use Rattle.spf_der.specs.Names.{uris_left}
use Rattle.spf_der.proofs.Steps.{bind_some, pair_parts}
use Rattle.spf_der.proofs.Shorter.{value_leaves}

name_leaves : (bytes : List ℕ) (uri : Option (List ℕ)) (rest : List ℕ)
    → name_at bytes ≡ Some (uri, rest) → length rest < length bytes
unfolding name_at
name_leaves bytes uri rest is =
    let value : (v : ℕ × List ℕ × List ℕ) × (value_at bytes ≡ Some v)
    × ((name_of v.0 v.1 >>= λ name. Some (name, v.2)) ≡ Some (uri, rest)) =
    bind_some {B = Option (List ℕ) × List ℕ} (value_at bytes)
    (λ v. name_of v.0 v.1 >>= λ name. Some (name, v.2)) (uri, rest) is in
    let v = value.0 in
    let name : (u : Option (List ℕ)) × (name_of v.0 v.1 ≡ Some u)
    × (Some (u, v.2) ≡ Some (uri, rest)) =
    bind_some {B = Option (List ℕ) × List ℕ} (name_of v.0 v.1) (λ u. Some (u, v.2)) (uri, rest)
    value.2 in
    let e : v.2 ≡ rest = (pair_parts (name.0, v.2) (uri, rest) name.2).1 in
    let less : length v.2 < length bytes = value_leaves bytes v.0 v.1 v.2 value.1 in
    let P : List ℕ → Type 0 = λ left. length left < length bytes in
    subst P e less

same_after : (n m : ℕ) (found : Option (Option (List ℕ) × List ℕ))
    → ((name : Option (List ℕ) × List ℕ) → found ≡ Some name
    → uris_before n name.1 ≡ uris_before m name.1)
    → option_map_or (λ name. with_name name.0 (uris_before n name.1)) found []
    ≡ option_map_or (λ name. with_name name.0 (uris_before m name.1)) found []
same_after n m None each = refl
same_after n m (Some name) each = ap (with_name name.0) (each name refl)

-- how many steps are left does not matter where they are enough
enough : (n m : ℕ) (bytes : List ℕ) → length bytes ≤ n → length bytes ≤ m
    → uris_before n bytes ≡ uris_before m bytes
enough n m [] h k = refl
enough zero m (b ∷ bytes) h k = absurd (omega arith)
enough (suc n) zero (b ∷ bytes) h k = absurd (omega arith)
enough (suc n) (suc m) (b ∷ bytes) h k =
    same_after n m (name_at (b ∷ bytes)) (λ name is.
    let less : length name.1 < length (b ∷ bytes) = name_leaves (b ∷ bytes) name.0 name.1 is in
    let low : length name.1 ≤ n = omega arith in
    let high : length name.1 ≤ m = omega arith in
    enough n m name.1 low high)

-- one more name is walked over
pub uris_left-name : (bytes : List ℕ) (uri : Option (List ℕ)) (rest : List ℕ) → 0 < length bytes
    → name_at bytes ≡ Some (uri, rest)
    → uris_left bytes ≡ with_name uri (uris_left rest)
uris_left-name [] uri rest some is = absurd (omega arith)
uris_left-name (b ∷ bytes) uri rest some is =
    let less : length rest < length (b ∷ bytes) = name_leaves (b ∷ bytes) uri rest is in
    ap (λ (found : Option (Option (List ℕ) × List ℕ)).
    option_map_or (λ name. with_name name.0 (uris_before (length bytes) name.1)) found []) is
    ∙ ap (with_name uri) (enough (length bytes) (length rest) rest (omega arith) (omega arith))

-- the walk stops at a name that is unreadable
pub uris_left-none : (bytes : List ℕ) → 0 < length bytes → name_at bytes ≡ None
    → uris_left bytes ≡ []
uris_left-none [] some is = absurd (omega arith)
uris_left-none (b ∷ bytes) some is =
    ap (λ (found : Option (Option (List ℕ) × List ℕ)).
    option_map_or (λ name. with_name name.0 (uris_before (length bytes) name.1)) found []) is

-- what is left of a test, where that many steps are enough
abbrev pub Tests : List ℕ → Bool → Type 0
Tests rest answer = (n : ℕ) × (length rest ≤ n) × (is_some (uris_within n rest) ≡ answer)

is_some_after : (name : Option (List ℕ)) (uris : Option (List (List ℕ)))
    → is_some (uris >>= λ others. Some (with_name name others)) ≡ is_some uris
is_some_after name None = refl
is_some_after name (Some uris) = refl

pub tests_start : (names : List ℕ) → Tests names (is_some (uris_of names))
tests_start names = (length names, omega arith, refl)

pub tests_more : (rest : List ℕ) (answer : Bool) (name : Option (List ℕ)) (after : List ℕ)
    → 0 < length rest → name_at rest ≡ Some (name, after)
    → length after < length rest → Tests rest answer → Tests after answer
tests_more [] answer name after some is less so_far = absurd (omega arith)
tests_more (b ∷ bytes) answer name after some is less (zero, le, so_far) = absurd (omega arith)
tests_more (b ∷ bytes) answer name after some is less (suc n, le, so_far) =
    (n, omega arith, sym (is_some_after name (uris_within n after)) ∙ sym (rw is refl) ∙ so_far)

pub tests_fail : (rest : List ℕ) (answer : Bool) → 0 < length rest → name_at rest ≡ None
    → Tests rest answer → answer ≡ false
tests_fail [] answer some is so_far = absurd (omega arith)
tests_fail (b ∷ bytes) answer some is (zero, le, so_far) = absurd (omega arith)
tests_fail (b ∷ bytes) answer some is (suc n, le, so_far) = sym so_far ∙ rw is refl

pub tests_done : (rest : List ℕ) (answer : Bool) → length rest ≡ 0 → Tests rest answer
    → answer ≡ true
tests_done [] answer none (n, le, so_far) = sym so_far
tests_done (b ∷ bytes) answer none so_far = absurd (omega arith)

before_some : (name : Option (List ℕ)) (others : Option (List (List ℕ))) (uris : List (List ℕ))
    → (others >>= λ us. Some (with_name name us)) ≡ Some uris
    → (us : List (List ℕ)) × (others ≡ Some us) × (with_name name us ≡ uris)
before_some name None uris is = cc
before_some name (Some us) uris is =
    (us, refl, ap (λ (o : Option (List (List ℕ))). unwrap_or o uris) is)

-- where all names are readable, a walk finds the same
within_is_before : (n : ℕ) (names : List ℕ) (uris : List (List ℕ)) → uris_within n names ≡ Some uris
    → uris_before n names ≡ uris
within_is_before n [] uris is = ap (λ (o : Option (List (List ℕ))). unwrap_or o uris) is
within_is_before zero (b ∷ bytes) uris is = cc
within_is_before (suc n) (b ∷ bytes) uris is =
    let name : (x : Option (List ℕ) × List ℕ) × (name_at (b ∷ bytes) ≡ Some x)
    × ((uris_within n x.1 >>= λ us. Some (with_name x.0 us)) ≡ Some uris) =
    bind_some {B = List (List ℕ)} (name_at (b ∷ bytes))
    (λ x. uris_within n x.1 >>= λ us. Some (with_name x.0 us)) uris is in
    let others = before_some name.0.0 (uris_within n name.0.1) uris name.2 in
    ap (λ (found : Option (Option (List ℕ) × List ℕ)).
    option_map_or (λ x. with_name x.0 (uris_before n x.1)) found []) name.1
    ∙ ap (with_name name.0.0) (within_is_before n name.0.1 others.0 others.1) ∙ others.2

read_from : (names : List ℕ) (found : Option (List (List ℕ))) → uris_of names ≡ found
    → is_some found ≡ true → Some (uris_left names) ≡ found
read_from names None is some = cc
read_from names (Some uris) is some = ap Some (within_is_before (length names) names uris is)

pub left_is_all : (names : List ℕ) → is_some (uris_of names) ≡ true
    → Some (uris_left names) ≡ uris_of names
left_is_all names some = read_from names (uris_of names) refl some

pub unreadable : (found : Option (List (List ℕ))) → is_some found ≡ false → found ≡ None
unreadable None some = refl
unreadable (Some uris) some = cc

pub all_ascii : (octets : List ℕ) → IsAscii octets → list_all (λ b. nat_lt b 128) octets ≡ true
all_ascii [] below = refl
all_ascii (b ∷ octets) below = rw (lt-ltb b 128 (below 0)) (all_ascii octets (λ i. below (suc i)))
