-- Lists are equal as bags exactly where each value counts the same in both.
use Rattle.std.proofs.Common.{◌≡◌, ℕ, ◌+◌, Bool, true, false, cond, List, [], ◌∷◌, Option, None}
use Rattle.std.proofs.Common.{Some, refl, sym, ap, ◌∙◌, arith}
use Rattle.std.specs.Cmp.{IsEquivalence}
use Rattle.std.specs.Option.{option_map, option_map_or}
use Rattle.std.specs.List.Sorted.{IsPermutation}
use Rattle.std.proofs.lemmas.List.Sorted.{sum_by-IsPermutation}
use Rattle.std.proofs.lemmas.List.Recursion.{is_count_by}
use Rattle.spf_x509.specs.Bag.{take_out, same_bag}

-- a test is true or false, with the equation
data Known (b : Bool) : Type 0 where
  Yes : b ≡ true → Known b
  No : b ≡ false → Known b

known : (b : Bool) → Known b
known true = Yes refl
known false = No refl

-- how many members pass a test
abbrev pub count : {X : Type 0} → (X → Bool) → List X → ℕ
count p [] = 0
count p (x ∷ xs) = cond (p x) 1 0 + count p xs

-- each value counts the same in both, by equality with it
pub record SameCounts {X : Type 0} (E : X → X → Bool) (xs ys : List X) : Type 0 where
  pub each : (z : X) → count (E z) xs ≡ count (E z) ys

-- ---- taking out

pub alike : {X : Type 0} (E : X → X → Bool) (o : IsEquivalence E) (x y z : X) → E x y ≡ true
    → E z x ≡ E z y
alike E o x y z h = o.symm z x ∙ o.congr x y z h ∙ o.symm y z

none_some : {A : Type 0} {o : Option A} {a : A} {C : Type 0} → o ≡ None → o ≡ Some a → C
none_some e f = cc

mapped_none : {A B : Type 0} (f : A → B) (o : Option A) → option_map f o ≡ None → o ≡ None
mapped_none f None e = refl
mapped_none f (Some a) e = cc

-- what is left, and one more
pub taken : {X : Type 0} (E : X → X → Bool) (o : IsEquivalence E) (x : X) (ys rest : List X)
    → take_out E x ys ≡ Some rest → (z : X) → count (E z) ys ≡ cond (E z x) 1 0 + count (E z) rest
taken E o x [] rest e z = cc
taken {X} E o x (y ∷ ys) rest e z =
    elim (known (E x y)) [
      | Yes h ↦ let f : Some ys ≡ Some rest =
          sym (ap (λ b. cond b (Some ys) (option_map (λ r. y ∷ r) (take_out E x ys))) h) ∙ e in
          let g : ys ≡ rest = cc in
          ap (λ b. cond b 1 0 + count (E z) ys) (sym (alike E o x y z h))
          ∙ ap (λ r. cond (E z x) 1 0 + count (E z) r) g
      | No h ↦ let f : option_map (λ r. y ∷ r) (take_out E x ys) ≡ Some rest =
          sym (ap (λ b. cond b (Some ys) (option_map (λ r. y ∷ r) (take_out E x ys))) h) ∙ e in
          under (λ r t. taken E o x ys r t z) (take_out E x ys) refl f
    ]
  where
    under : ((r : List X) → take_out E x ys ≡ Some r
        → count (E z) ys ≡ cond (E z x) 1 0 + count (E z) r)
        → (t : Option (List X)) → take_out E x ys ≡ t → option_map (λ r. y ∷ r) t ≡ Some rest
        → cond (E z y) 1 0 + count (E z) ys ≡ cond (E z x) 1 0 + count (E z) rest
    under ih None t f = cc
    under ih (Some r) t f = let g : (y ∷ r) ≡ rest = cc in
        let i = ih r t in
        let j : count (E z) rest ≡ cond (E z y) 1 0 + count (E z) r = ap (count (E z)) (sym g) in
        omega (arith, i, j)

-- none is there to be taken
pub untaken : {X : Type 0} (E : X → X → Bool) (x : X) (ys : List X) → take_out E x ys ≡ None
    → count (E x) ys ≡ 0
untaken E x [] e = refl
untaken E x (y ∷ ys) e =
    elim (known (E x y)) [
      | Yes h ↦ let f : Some ys ≡ None =
          sym (ap (λ b. cond b (Some ys) (option_map (λ r. y ∷ r) (take_out E x ys))) h) ∙ e in cc
      | No h ↦ let f : option_map (λ r. y ∷ r) (take_out E x ys) ≡ None =
          sym (ap (λ b. cond b (Some ys) (option_map (λ r. y ∷ r) (take_out E x ys))) h) ∙ e in
          let i = untaken E x ys (mapped_none (λ r. y ∷ r) (take_out E x ys) f) in
          let j : cond (E x y) 1 0 + count (E x) ys ≡ 0 + count (E x) ys =
          ap (λ b. cond b 1 0 + count (E x) ys) h in
          omega (arith, i, j)
    ]

pub counted : {X : Type 0} (E : X → X → Bool) (x : X) (n : ℕ) → E x x ≡ true
    → cond (E x x) 1 0 + n ≡ 1 + n
counted E x n h = ap (λ b. cond b 1 0 + n) h

-- ---- bags and counts

pub counts_from_bag : {X : Type 0} (E : X → X → Bool) (o : IsEquivalence E) (xs ys : List X)
    → same_bag E xs ys ≡ true → SameCounts E xs ys
counts_from_bag E o [] [] e = record { each = λ z. refl }
counts_from_bag E o [] (y ∷ ys) e = cc
counts_from_bag {X} E o (x ∷ xs) ys e =
    under (λ r. counts_from_bag E o xs r) (take_out E x ys) refl e
  where
    under : ((r : List X) → same_bag E xs r ≡ true → SameCounts E xs r)
        → (t : Option (List X)) → take_out E x ys ≡ t
        → option_map_or (λ r. same_bag E xs r) t false ≡ true → SameCounts E (x ∷ xs) ys
    under ih None t f = cc
    under ih (Some r) t f =
        record {
          each = λ z. let i = (ih r f).each z in let j = taken E o x ys r t z in
              omega (arith, i, j);
        }

pub bag_from_counts : {X : Type 0} (E : X → X → Bool) (o : IsEquivalence E) (xs ys : List X)
    → SameCounts E xs ys → same_bag E xs ys ≡ true
bag_from_counts E o [] [] h = refl
bag_from_counts E o [] (y ∷ ys) h = let i = h.each y in
    let j = counted E y (count (E y) ys) (o.refl y) in absurd (omega (arith, i, j))
bag_from_counts {X} E o (x ∷ xs) ys h = under (λ r. bag_from_counts E o xs r) (take_out E x ys) refl
  where
    under : ((r : List X) → SameCounts E xs r → same_bag E xs r ≡ true)
        → (t : Option (List X)) → take_out E x ys ≡ t
        → option_map_or (λ r. same_bag E xs r) t false ≡ true
    under ih None t = let i = h.each x in let j = counted E x (count (E x) xs) (o.refl x) in
        let k = untaken E x ys t in absurd (omega (arith, i, j, k))
    under ih (Some r) t =
        ih r (record {
          each = λ z. let i = h.each z in let j = taken E o x ys r t z in
              omega (arith, i, j);
        })

-- two tests that imply each other are one
pub both_ways : (b c : Bool) → (b ≡ true → c ≡ true) → (c ≡ true → b ≡ true) → b ≡ c
both_ways true c f g = sym (f refl)
both_ways false true f g = g refl
both_ways false false f g = refl

-- equal bags do not depend on the order
pub bag_moved : {X : Type 0} (E : X → X → Bool) (o : IsEquivalence E) (xs xs' ys ys' : List X)
    → SameCounts E xs xs' → SameCounts E ys ys' → same_bag E xs ys ≡ same_bag E xs' ys'
bag_moved E o xs xs' ys ys' p q = both_ways (same_bag E xs ys) (same_bag E xs' ys')
    (λ e. bag_from_counts E o xs' ys'
    (let c = counts_from_bag E o xs ys e in
    record { each = λ z. sym (p.each z) ∙ c.each z ∙ q.each z }))
    (λ e. bag_from_counts E o xs ys
    (let c = counts_from_bag E o xs' ys' e in
    record { each = λ z. p.each z ∙ c.each z ∙ sym (q.each z) }))

pub bag_equiv : {X : Type 0} (E : X → X → Bool) → IsEquivalence E → IsEquivalence (same_bag E)
bag_equiv E o = record {
  refl = λ xs. bag_from_counts E o xs xs (record { each = λ z. refl });
  symm = λ xs ys. both_ways (same_bag E xs ys) (same_bag E ys xs)
      (λ e. bag_from_counts E o ys xs
      (let c = counts_from_bag E o xs ys e in record { each = λ z. sym (c.each z) }))
      (λ e. bag_from_counts E o xs ys
      (let c = counts_from_bag E o ys xs e in record { each = λ z. sym (c.each z) }));
  congr = λ xs ys zs e. let c = counts_from_bag E o xs ys e in
      bag_moved E o xs ys zs zs c (record { each = λ z. refl });
}

pub counts_from_permutation : {X : Type 0} (E : X → X → Bool) (xs ys : List X) → IsPermutation xs ys
    → SameCounts E xs ys
counts_from_permutation E xs ys p = record {
  each = λ z.
      is_count_by (count (E z)) (E z) refl (λ x l. by_test (E z x) (count (E z) l)) xs
      ∙ sym (sum_by-IsPermutation (λ x. cond (E z x) 1 0) xs ys p)
      ∙ sym (is_count_by (count (E z)) (E z) refl (λ x l. by_test (E z x) (count (E z) l)) ys);
}
  where
    by_test : (b : Bool) (n : ℕ) → cond b 1 0 + n ≡ cond b (1 + n) n
    by_test true n = refl
    by_test false n = omega arith

-- the order of the members makes no difference
pub bag_reordered : {X : Type 0} (E : X → X → Bool) → IsEquivalence E → (xs ys : List X)
    → IsPermutation xs ys → same_bag E xs ys ≡ true
bag_reordered E o xs ys p = bag_from_counts E o xs ys (counts_from_permutation E xs ys p)
