-- A header by the index of its name.
use Rattle.std.proofs.Common.{◌≡◌, ℕ, ◌+◌, ◌<◌, ◌≤◌, suc, Bool, true, false, not, cond, nat_lt}
use Rattle.std.proofs.Common.{List, [], ◌∷◌, ◌++◌, length, set, get_or, None, Some, refl, sym, ap}
use Rattle.std.proofs.Common.{◌∙◌, arith}
use Rattle.std.specs.Prelude.{bytes_eq, position}
use Rattle.std.specs.List.{position_or_len}
use Rattle.std.proofs.lemmas.Bool.Decides.{nat_tests}
use borrow.Author.Tests.{ltb-true}
use Rattle.std.specs.List.{remove}
use Rattle.spf_link.specs.Headers.{Header, with_header, without}

abbrev named : List ℕ → Header → Bool
named name h = bytes_eq h.0 name

-- a number that a test adds one to, or begins again
abbrev step : Bool → ℕ → ℕ
step b n = cond (not b) (1 + n) 0

set_next : (h : Header) (headers : List Header) (n : ℕ) (x : Header)
    → set (h ∷ headers) (1 + n) x ≡ h ∷ set headers n x
set_next h headers n x = ap (λ k. set (h ∷ headers) k x) (let e : 1 + n ≡ suc n = omega arith in e)

get_next : (h : Header) (headers : List Header) (n : ℕ) (d : Header)
    → get_or (h ∷ headers) (1 + n) d ≡ get_or headers n d
get_next h headers n d = ap (λ k. get_or (h ∷ headers) k d)
    (let e : 1 + n ≡ suc n = omega arith in e)

remove_next : (h : Header) (headers : List Header) (n : ℕ)
    → remove (h ∷ headers) (1 + n) ≡ h ∷ remove headers n
remove_next h headers n = ap (remove (h ∷ headers)) (let e : 1 + n ≡ suc n = omega arith in e)

pub replaced : (name value : List ℕ) (headers : List Header) (d : Header)
    → position_or_len (named name) headers < length headers
    → set headers (position_or_len (named name) headers)
    ((get_or headers (position_or_len (named name) headers) d).0, value) ≡ with_header name
    value headers
replaced name value [] d within = absurd (omega arith)
replaced name value (h ∷ headers) d within = at (bytes_eq h.0 name) within
    (λ more. replaced name value headers d more)
  where
    n : ℕ
    n = position_or_len (named name) headers

    at : (b : Bool) → step b n < length (h ∷ headers)
        → (n < length headers → set headers n ((get_or headers n d).0, value) ≡ with_header name
        value headers)
        → set (h ∷ headers) (step b n) ((get_or (h ∷ headers) (step b n) d).0, value) ≡ cond b
        ((h.0, value) ∷ headers) (h ∷ with_header name value headers)
    at true more ih = refl
    at false more ih = set_next h headers n _ ∙ ap (λ (x : Header). h ∷ set headers n (x.0, value))
        (get_next h headers n d) ∙ ap (λ l. h ∷ l) (ih (omega arith))

pub taken_out : (name : List ℕ) (headers : List Header)
    → position_or_len (named name) headers < length headers
    → remove headers (position_or_len (named name) headers) ≡ without name headers
taken_out name [] within = absurd (omega arith)
taken_out name (h ∷ headers) within = at (bytes_eq h.0 name) within
    (λ more. taken_out name headers more)
  where
    n : ℕ
    n = position_or_len (named name) headers

    at : (b : Bool) → step b n < length (h ∷ headers)
        → (n < length headers → remove headers n ≡ without name headers)
        → remove (h ∷ headers) (step b n) ≡ cond b headers (h ∷ without name headers)
    at true more ih = refl
    at false more ih = remove_next h headers n ∙ ap (λ l. h ∷ l) (ih (omega arith))

-- where no header has the name, the value stands at the end, and nothing is to be taken out
pub appended : (name value : List ℕ) (headers : List Header)
    → length headers ≤ position_or_len (named name) headers
    → headers ++ (name, value) ∷ [] ≡ with_header name value headers
appended name value [] none = refl
appended name value (h ∷ headers) none = at (bytes_eq h.0 name) none
    (λ more. appended name value headers more)
  where
    n : ℕ
    n = position_or_len (named name) headers

    at : (b : Bool) → length (h ∷ headers) ≤ step b n
        → (length headers ≤ n → headers ++ (name, value) ∷ [] ≡ with_header name value headers)
        → h ∷ (headers ++ (name, value) ∷ []) ≡ cond b ((h.0, value) ∷ headers)
        (h ∷ with_header name value headers)
    at true more ih = absurd (omega arith)
    at false more ih = ap (λ l. h ∷ l) (ih (omega arith))

pub left : (name : List ℕ) (headers : List Header)
    → length headers ≤ position_or_len (named name) headers → headers ≡ without name headers
left name [] none = refl
left name (h ∷ headers) none = at (bytes_eq h.0 name) none (λ more. left name headers more)
  where
    n : ℕ
    n = position_or_len (named name) headers

    at : (b : Bool) → length (h ∷ headers) ≤ step b n
        → (length headers ≤ n → headers ≡ without name headers)
        → h ∷ headers ≡ cond b headers (h ∷ without name headers)
    at true more ih = absurd (omega arith)
    at false more ih = ap (λ l. h ∷ l) (ih (omega arith))

-- what the first index of a test says
found : (k m : ℕ) (b : Bool) (i : ℕ) → b ≡ nat_lt k m → cond b (Some k) None ≡ Some i → (k ≡ i)
    × (k < m)
found k m true i is e = let f : k ≡ i = cc in (f, ltb-true k m (sym is))
found k m false i is e = cc

unfound : (k m : ℕ) (b : Bool) → b ≡ nat_lt k m → cond b (Some k) None ≡ None → m ≤ k
unfound k m true is e = cc
unfound k m false is e = grind (arith, nat_tests)

pub first_found : (name : List ℕ) (headers : List Header) (i : ℕ)
    → position (named name) headers ≡ Some i → (position_or_len (named name) headers ≡ i)
    × (position_or_len (named name) headers < length headers)
first_found name headers i e = found (position_or_len (named name) headers) (length headers) _ i
    refl e

pub none_found : (name : List ℕ) (headers : List Header) → position (named name) headers ≡ None
    → length headers ≤ position_or_len (named name) headers
none_found name headers e = unfound (position_or_len (named name) headers) (length headers) _ refl e
