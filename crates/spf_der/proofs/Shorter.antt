-- What follows a value is shorter than what begins with it.
use Rattle.std.proofs.Common.{◌≡◌, ℕ, ◌<◌, ◌≤◌, List, [], ◌∷◌, length, take, drop, cond, Option}
use Rattle.std.proofs.Common.{Some, None, nat_lt, nat_eq, arith, ap, sym, ⊎_elim, length-drop}
use Rattle.std.proofs.lemmas.Bool.Decides.{nat_tests}
use Rattle.std.specs.Prelude.{bit_and}
use Rattle.spf_der.proofs.Steps.{chosen, bind_some, pair_parts, triple_parts}
use Rattle.spf_io.specs.Option.{◌>>=◌}
use Rattle.spf_der.specs.Value.{length_at, long_length_at, contents_at, value_at}

long_length_leaves : (n : ℕ) (bytes : List ℕ) (m : ℕ) (rest : List ℕ)
    → long_length_at n bytes ≡ Some (m, rest) → length rest ≤ length bytes
unfolding long_length_at
long_length_leaves n [] m rest is = grind (arith, nat_tests)
long_length_leaves n (a ∷ []) m rest is = grind (arith, nat_tests)
long_length_leaves n (a ∷ b ∷ []) m rest is = grind (arith, nat_tests)
long_length_leaves n (a ∷ b ∷ c ∷ []) m rest is = grind (arith, nat_tests)
long_length_leaves n (a ∷ b ∷ c ∷ d ∷ bytes) m rest is = grind (arith, nat_tests)

length_leaves : (bytes : List ℕ) (m : ℕ) (rest : List ℕ) → length_at bytes ≡ Some (m, rest)
    → length rest < length bytes
unfolding length_at
length_leaves [] m rest is = cc
length_leaves (n ∷ bytes) m rest is = grind (arith, nat_tests, long_length_leaves n bytes m rest)

-- the contents of a length, and what follows them
abbrev cut : ℕ × List ℕ → Option (List ℕ × List ℕ)
cut n = cond (nat_lt (length n.1) n.0) None (Some (take n.0 n.1, drop n.0 n.1))

pub contents_leaves : (bytes contents rest : List ℕ) → contents_at bytes ≡ Some (contents, rest)
    → length rest < length bytes
unfolding contents_at
contents_leaves bytes contents rest is =
    let found : (n : ℕ × List ℕ) × (length_at bytes ≡ Some n) × (cut n ≡ Some (contents, rest)) =
    bind_some {B = List ℕ × List ℕ} (length_at bytes) cut (contents, rest) is in
    let n = found.0 in
    let less : length n.1 < length bytes = length_leaves bytes n.0 n.1 found.1 in
    ⊎_elim (λ p. cc (p.1)) (λ p.
    let e : drop n.0 n.1 ≡ rest =
    (pair_parts (take n.0 n.1, drop n.0 n.1) (contents, rest) p.1).1 in
    let size = length-drop n.0 n.1 in
    let same : length rest ≡ length (drop n.0 n.1) = ap (length {A = ℕ}) (sym e) in
    omega arith)
    (chosen (nat_lt (length n.1) n.0) None (Some (take n.0 n.1, drop n.0 n.1))
    (Some (contents, rest)) found.2)

pub value_leaves : (bytes : List ℕ) (tag : ℕ) (contents rest : List ℕ)
    → value_at bytes ≡ Some (tag, contents, rest) → length rest < length bytes
unfolding value_at
value_leaves [] tag contents rest is = cc
value_leaves (t ∷ bytes) tag contents rest is =
    ⊎_elim (λ p. cc (p.1)) (λ p.
    let found : (v : List ℕ × List ℕ) × (contents_at bytes ≡ Some v)
    × (Some (t, v.0, v.1) ≡ Some (tag, contents, rest)) =
    bind_some {B = ℕ × List ℕ × List ℕ} (contents_at bytes) (λ v. Some (t, v.0, v.1)) (
      tag,
      contents,
      rest,
    ) p.1 in
    let e : found.0.1 ≡ rest =
    (triple_parts (t, found.0.0, found.0.1) (tag, contents, rest) found.2).2 in
    let less : length found.0.1 < length bytes =
    contents_leaves bytes found.0.0 found.0.1 found.1 in
    let same : length rest ≡ length found.0.1 = ap (length {A = ℕ}) (sym e) in
    omega arith)
    (chosen (nat_eq (bit_and t 31) 31) None (contents_at bytes >>= λ v. Some (t, v.0, v.1))
    (Some (tag, contents, rest)) is)
