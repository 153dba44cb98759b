-- What a search for a needle says of the text.
use Rattle.std.proofs.Common.{◌≡◌, ◌≤◌, ◌+◌, ◌||◌, ℕ, zero, suc, Bool, true, false, List, [], ◌∷◌}
use Rattle.std.proofs.Common.{◌++◌, length, take, drop, Option, Some, None, nat_eq, is_some, refl}
use Rattle.std.proofs.Common.{sym, ap, ◌∙◌, arith, length-append, ⊎_elim, take_at, drop_at}
use Rattle.std.proofs.lemmas.Bool.{cases_Bool}
use Rattle.std.proofs.lemmas.Bool.Decides.{Decides-eqb}
use Rattle.std.proofs.lemmas.Slice.Eq.{starts_is}
use Rattle.std.specs.List.{starts_with}
use Rattle.std.specs.Str.Iter.{HasSubslice}
use Rattle.memchr.specs.Find.{OccursAt, FindsNeedle}
use Rattle.memchr.proofs.lemmas.MatchLemmas.{OccursAt-split, OccursAt-from_part}
use Rattle.spf_api.specs.Status.{holds}

starts : (needle text rest : List ℕ) → text ≡ needle ++ rest → starts_with nat_eq text needle ≡ true
starts needle text rest is =
    (starts_is Decides-eqb text needle (starts_with nat_eq text needle) refl).1 rest is

started : (needle text : List ℕ) → starts_with nat_eq text needle ≡ true
    → text ≡ needle ++ drop (length needle) text
started needle text e =
    (starts_is Decides-eqb text needle (starts_with nat_eq text needle) refl).0 e

or_true : (b : Bool) → (b || true) ≡ true
or_true true = refl
or_true false = refl

-- a text that has the needle at a position holds it
holds_at : (needle text rest : List ℕ) (k : ℕ) → k ≤ length text → drop k text ≡ needle ++ rest
    → holds needle text ≡ true
holds_at needle [] rest zero le is = starts needle [] rest is
holds_at needle [] rest (suc k) le is = absurd (omega arith)
holds_at needle (x ∷ text) rest zero le is = rw (starts needle (x ∷ text) rest is) refl
holds_at needle (x ∷ text) rest (suc k) le is =
    rw (holds_at needle text rest k (omega arith) is)
    (or_true (starts_with nat_eq (x ∷ text) needle))

-- a text that holds the needle has it at some position
held : (needle text : List ℕ) → holds needle text ≡ true → HasSubslice text needle
held needle [] e = ([], drop (length needle) [], started needle [] e)
held needle (x ∷ text) e = ⊎_elim
    (λ first. ([], drop (length needle) (x ∷ text), started needle (x ∷ text) first))
    (λ later. let found = held needle text (rw later at e) in
    (x ∷ found.0, found.1, ap (λ (l : List ℕ). x ∷ l) found.2))
    (cases_Bool (starts_with nat_eq (x ∷ text) needle))

occurs : (needle text : List ℕ) → HasSubslice text needle
    → (k : ℕ) × (k ≤ length text) × OccursAt text needle k
occurs needle text (front, rest, is) =
    let long : length text ≡ length front + (length needle + length rest) =
    ap length is ∙ length-append front (needle ++ rest)
    ∙ ap (λ (n : ℕ). length front + n) (length-append needle rest) in
    let part : take (length needle) (drop (length front) text) ≡ needle =
    ap (λ (l : List ℕ). take (length needle) (drop (length front) l)) is
    ∙ ap (λ (l : List ℕ). take (length needle) l)
    (drop_at front (needle ++ rest) (length front) refl)
    ∙ take_at needle rest (length needle) refl in
    (length front, omega arith, OccursAt-from_part text needle (length front) (omega arith) part)

-- the result of a search, as a test
pub is_some-find : (needle text : List ℕ) (r : Option ℕ) → FindsNeedle text needle 0 r
    → is_some r ≡ holds needle text
is_some-find needle text (Some k) (before, at) =
    sym (holds_at needle text _ k (omega (arith, at.fits)) (OccursAt-split text needle k at))
is_some-find needle text None nowhere = ⊎_elim
    (λ yes. let found = occurs needle text (held needle text yes) in
    absurd (nowhere found.0 (omega arith) (omega (arith, found.1)) found.2))
    (λ is. sym is)
    (cases_Bool (holds needle text))
