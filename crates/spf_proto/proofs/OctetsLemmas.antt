-- Messages that have come in part.
use Rattle.std.proofs.Common.{◌≡◌, ◌∙◌, ℕ, zero, suc, ◌+◌, ◌-◌, ◌^◌, ◌≤◌, ◌<◌, List, [], ◌∷◌}
use Rattle.std.proofs.Common.{◌++◌}
use Rattle.std.proofs.Common.{length, take, drop, Option, Some, None, Bool, true, false, cond, refl}
use Rattle.std.proofs.Common.{sym}
use Rattle.std.proofs.Common.{ap, arith, length-append, take_at, drop_at}
use Rattle.std.proofs.Common.{length-take-le}
use Rattle.std.specs.Prelude.{nat_lt, ◌==◌, if◌then◌else◌}
use Rattle.std.specs.Int.{w32, from_be_bytes}
use Rattle.std.proofs.lemmas.Bool.Decides.{nat_tests}
use Rattle.spf_io.specs.Option.{◌>>=◌}
use Rattle.spf_api.specs.declared.response.ContextResponse.{ContextResponse}
use Rattle.spf_api.specs.Reading.{number_at, byte_field_at}
use Rattle.spf_proto.specs.Body.{message_at, response_of, total}
use Rattle.spf_proto.specs.Octets.{IsWhole, NeedsOctets, IsBad}

-- the octets of a field of `n`, and what follows them
abbrev field_of_size : ℕ → List ℕ → Option (List ℕ × List ℕ)
field_of_size n bytes = if nat_lt (length bytes) n then None else Some (take n bytes, drop n bytes)

size_whole : (n : ℕ) (octets more : List ℕ) → length octets ≡ n
    → field_of_size n (octets ++ more) ≡ Some (octets, more)
size_whole n octets more is =
    let enough : nat_lt (length (octets ++ more)) n ≡ false =
    grind (arith, nat_tests, length-append octets more, is) in
    let front : take n (octets ++ more) ≡ octets = take_at octets more n is in
    let back : drop n (octets ++ more) ≡ more = drop_at octets more n is in
    rw (enough, front, back) refl

size_short : (n : ℕ) (octets : List ℕ) → length octets < n → field_of_size n octets ≡ None
size_short n octets lt =
    let test : nat_lt (length octets) n ≡ true = grind (arith, nat_tests, lt) in
    rw test refl

abbrev after_field : List ℕ × List ℕ → Option (ContextResponse × List ℕ)
after_field f = response_of f.0 >>= λ r. Some (r, f.1)

too_long : (octets : List ℕ) → 2 ^ 24 < length octets → response_of octets ≡ None
unfolding response_of
too_long octets gt =
    let test : nat_lt (2 ^ 24) (length octets) ≡ true = grind (arith, nat_tests, gt) in
    rw test refl

size_bad : (n : ℕ) (octets : List ℕ) (b : Bool) → nat_lt (length octets) n ≡ b → 2 ^ 24 < n
    → (cond b None (Some (take n octets, drop n octets)) >>= after_field) ≡ None
size_bad n octets true test gt = refl
size_bad n octets false test gt =
    let enough : n ≤ length octets = grind (arith, nat_tests, test) in
    let long : length (take n octets) ≡ n = length-take-le n octets enough in
    rw (too_long (take n octets) (omega (arith, long, gt))) refl

pub message_whole : (a b c d : ℕ) (octets : List ℕ)
    → length octets ≡ from_be_bytes w32 (a ∷ b ∷ c ∷ d ∷ [])
    → IsWhole (0 ∷ a ∷ b ∷ c ∷ d ∷ octets) octets
unfolding message_at byte_field_at number_at
message_whole a b c d octets is more =
    ap (λ (f : Option (List ℕ × List ℕ)). f >>= after_field)
    (size_whole (from_be_bytes w32 (a ∷ b ∷ c ∷ d ∷ [])) octets more is)

pub message_short : (a b c d : ℕ) (octets : List ℕ)
    → length octets < from_be_bytes w32 (a ∷ b ∷ c ∷ d ∷ [])
    → message_at (0 ∷ a ∷ b ∷ c ∷ d ∷ octets) ≡ None
unfolding message_at byte_field_at number_at
message_short a b c d octets lt =
    ap (λ (f : Option (List ℕ × List ℕ)). f >>= after_field)
    (size_short (from_be_bytes w32 (a ∷ b ∷ c ∷ d ∷ [])) octets lt)

pub message_long : (a b c d : ℕ) (octets : List ℕ)
    → 2 ^ 24 < from_be_bytes w32 (a ∷ b ∷ c ∷ d ∷ [])
    → IsBad (0 ∷ a ∷ b ∷ c ∷ d ∷ octets)
unfolding message_at byte_field_at number_at
message_long a b c d octets gt more =
    size_bad (from_be_bytes w32 (a ∷ b ∷ c ∷ d ∷ [])) (octets ++ more) _ refl gt

-- another flag makes no message
pub flag_bad : (flag : ℕ) (bytes : List ℕ) → (flag ≡ 0 → ⊥) → IsBad (flag ∷ bytes)
unfolding message_at
flag_bad zero bytes other more = absurd (other refl)
flag_bad (suc flag) bytes other more =
    let test : (suc flag == 0) ≡ false = grind (arith, nat_tests) in
    rw test refl

-- five octets say nothing yet
pub head_short : (bytes : List ℕ) → length bytes < 4 → message_at (0 ∷ bytes) ≡ None
unfolding message_at byte_field_at number_at
head_short [] lt = refl
head_short (a ∷ []) lt = refl
head_short (a ∷ b ∷ []) lt = refl
head_short (a ∷ b ∷ c ∷ []) lt = refl
head_short (a ∷ b ∷ c ∷ d ∷ bytes) lt = absurd (omega (arith, lt))

pub total_head : (bytes : List ℕ) → length bytes < 5 → total bytes ≡ 5
total_head [] lt = refl
total_head (f ∷ []) lt = refl
total_head (f ∷ a ∷ []) lt = refl
total_head (f ∷ a ∷ b ∷ []) lt = refl
total_head (f ∷ a ∷ b ∷ c ∷ []) lt = refl
total_head (f ∷ a ∷ b ∷ c ∷ d ∷ bytes) lt = absurd (omega (arith, lt))

pub total_least : (bytes : List ℕ) → 5 ≤ total bytes
total_least [] = omega arith
total_least (f ∷ []) = omega arith
total_least (f ∷ a ∷ []) = omega arith
total_least (f ∷ a ∷ b ∷ []) = omega arith
total_least (f ∷ a ∷ b ∷ c ∷ []) = omega arith
total_least (f ∷ a ∷ b ∷ c ∷ d ∷ bytes) = omega arith

-- what is needed comes in parts
pub total_more : (got given : List ℕ) → length got + length given ≤ total got
    → length (got ++ given) ≤ total (got ++ given)
total_more [] given le = omega (arith, le, total_least given)
total_more (f ∷ []) given le = omega (arith, le, total_least (f ∷ given))
total_more (f ∷ a ∷ []) given le = omega (arith, le, total_least (f ∷ a ∷ given))
total_more (f ∷ a ∷ b ∷ []) given le = omega (arith, le, total_least (f ∷ a ∷ b ∷ given))
total_more (f ∷ a ∷ b ∷ c ∷ []) given le = omega (arith, le, total_least (f ∷ a ∷ b ∷ c ∷ given))
total_more (f ∷ a ∷ b ∷ c ∷ d ∷ octets) given le =
    omega (arith, le, length-append octets given)

-- ---- what is needed

-- four octets and what follows them
record Parts (rest : List ℕ) (n : ℕ) (octets : List ℕ) : Type 0 where
  a : ℕ
  b : ℕ
  c : ℕ
  d : ℕ
  is : rest ≡ a ∷ b ∷ c ∷ d ∷ octets
  number : n ≡ from_be_bytes w32 (a ∷ b ∷ c ∷ d ∷ [])

parts_of : (rest : List ℕ) (n : ℕ) (octets : List ℕ) → Some (n, octets) ≡ number_at rest
    → Parts rest n octets
unfolding number_at
parts_of [] n octets is = absurd cc
parts_of (a ∷ []) n octets is = absurd cc
parts_of (a ∷ b ∷ []) n octets is = absurd cc
parts_of (a ∷ b ∷ c ∷ []) n octets is = absurd cc
parts_of (a ∷ b ∷ c ∷ d ∷ others) n octets is =
    let both : (n, octets) ≡ (from_be_bytes w32 (a ∷ b ∷ c ∷ d ∷ []), others) = cc in
    record {
      a = a;
      b = b;
      c = c;
      d = d;
      is = ap (λ (x : ℕ × List ℕ). a ∷ b ∷ c ∷ d ∷ x.1) (sym both);
      number = ap (λ (x : ℕ × List ℕ). x.0) both;
    }

short_of : (rest : List ℕ) → None ≡ number_at rest → length rest < 4
unfolding number_at
short_of [] is = omega arith
short_of (a ∷ []) is = omega arith
short_of (a ∷ b ∷ []) is = omega arith
short_of (a ∷ b ∷ c ∷ []) is = omega arith
short_of (a ∷ b ∷ c ∷ d ∷ others) is = absurd cc

pub needs_head : (got rest : List ℕ) (count : ℕ) → got ≡ 0 ∷ rest → None ≡ number_at rest
    → count ≡ 4 - length rest → NeedsOctets got count
needs_head got rest count is none count_is =
    let lt = short_of rest none in
    let counted : length got ≡ length (0 ∷ rest) = ap length is in
    let size : length got ≡ 1 + length rest = omega (arith, counted) in
    let all : total got ≡ 5 = total_head got (omega (arith, lt, size)) in
    record {
      some = omega (arith, lt, count_is);
      missing = omega (arith, lt, count_is, size, all);
      short = omega (arith, all);
      none = ap message_at is ∙ head_short rest lt;
    }

pub needs_first : (got : List ℕ) → got ≡ [] → NeedsOctets got 5
unfolding message_at
needs_first got is = record {
  some = omega arith;
  missing = rw is (omega arith);
  short = rw is (omega arith);
  none = rw is refl;
}

pub needs_rest : (got rest octets : List ℕ) (n count : ℕ) → got ≡ 0 ∷ rest
    → Some (n, octets) ≡ number_at rest → n ≤ 2 ^ 24 → length octets < n
    → count ≡ n - length octets → NeedsOctets got count
needs_rest got rest octets n count is number le lt count_is =
    let p = parts_of rest n octets number in
    let whole : got ≡ 0 ∷ p.a ∷ p.b ∷ p.c ∷ p.d ∷ octets = is ∙ ap (λ (l : List ℕ). 0 ∷ l) p.is in
    let all : total got ≡ 5 + n = ap total whole ∙ ap (λ k. 5 + k) (sym p.number) in
    let counted : length got ≡ length (0 ∷ p.a ∷ p.b ∷ p.c ∷ p.d ∷ octets) = ap length whole in
    let size : length got ≡ 5 + length octets = omega (arith, counted) in
    record {
      some = omega (arith, lt, count_is);
      missing = omega (arith, lt, count_is, size, all);
      short = omega (arith, all, le);
      none = ap message_at whole
          ∙ message_short p.a p.b p.c p.d octets (omega (arith, lt, p.number));
    }

pub needs_nothing : (got rest octets : List ℕ) (n : ℕ) → got ≡ 0 ∷ rest
    → Some (n, octets) ≡ number_at rest → n ≤ length octets → length got ≤ total got
    → IsWhole got (drop 5 got) × (5 ≤ length got)
needs_nothing got rest octets n is number le short =
    let p = parts_of rest n octets number in
    let whole : got ≡ 0 ∷ p.a ∷ p.b ∷ p.c ∷ p.d ∷ octets = is ∙ ap (λ (l : List ℕ). 0 ∷ l) p.is in
    let all : total got ≡ 5 + n = ap total whole ∙ ap (λ k. 5 + k) (sym p.number) in
    let counted : length got ≡ length (0 ∷ p.a ∷ p.b ∷ p.c ∷ p.d ∷ octets) = ap length whole in
    let size : length got ≡ 5 + length octets = omega (arith, counted) in (
      rw whole
          (message_whole p.a p.b p.c p.d octets (omega (arith, le, short, all, size, p.number))),
      omega (arith, size),
    )

pub is_too_long : (got rest octets : List ℕ) (n : ℕ) → got ≡ 0 ∷ rest
    → Some (n, octets) ≡ number_at rest → 2 ^ 24 < n → IsBad got
is_too_long got rest octets n is number gt =
    let p = parts_of rest n octets number in
    let whole : got ≡ 0 ∷ p.a ∷ p.b ∷ p.c ∷ p.d ∷ octets = is ∙ ap (λ (l : List ℕ). 0 ∷ l) p.is in
    rw whole (message_long p.a p.b p.c p.d octets (omega (arith, gt, p.number)))
