-- A number of entries, as a loop reads them.
use Rattle.std.proofs.Common.{◌≡◌, ℕ, zero, suc, ◌+◌, ◌<◌, List, [], ◌∷◌, ◌++◌, Option, Some, None}
use Rattle.std.proofs.Common.{refl, sym, ap, ◌∙◌, append_assoc, arith}
use Rattle.std.proofs.lemmas.List.{append-nil}
use Rattle.spf_api.specs.Reading.{◌>>=◌, counted}

-- what was read before, and what is still read
abbrev pub with_front : {A : Type 0} → List A → Option (List A × List ℕ) → Option (List A × List ℕ)
with_front front read = read >>= λ others. Some (front ++ others.0, others.1)

-- what a loop keeps: n entries are still to be read
abbrev pub Goes : {A : Type 0} → (List ℕ → Option (A × List ℕ)) → ℕ → List A → List ℕ
    → Option (List A × List ℕ) → Type 0
Goes one n front rest total = with_front front (counted one n rest) ≡ total

pub counted_starts : {A : Type 0} (one : List ℕ → Option (A × List ℕ)) (n : ℕ) (bytes : List ℕ)
    → Goes one n [] bytes (counted one n bytes)
counted_starts one n bytes = nothing_before (counted one n bytes)
  where
    nothing_before : {A : Type 0} (read : Option (List A × List ℕ)) → with_front [] read ≡ read
    nothing_before None = refl
    nothing_before (Some others) = refl

regroup : {A : Type 0} (front : List A) (x : A) (read : Option (List A × List ℕ))
    → with_front front (read >>= λ others. Some (x ∷ others.0, others.1))
    ≡ with_front (front ++ x ∷ []) read
regroup front x None = refl
regroup front x (Some others) = λ i. Some (sym (append_assoc front (x ∷ []) others.0) i, others.1)

-- one more entry is read
pub counted_more : {A : Type 0} (one : List ℕ → Option (A × List ℕ)) (n m : ℕ) (front : List A)
    (rest : List ℕ) (total : Option (List A × List ℕ)) (x : A) (after : List ℕ)
    → n ≡ m + 1 → one rest ≡ Some (x, after) → Goes one n front rest total
    → Goes one m (front ++ x ∷ []) after total
counted_more one zero m front rest total x after is found going = absurd (omega arith)
counted_more one (suc n) m front rest total x after is found going =
    let same : n ≡ m = omega arith in
    ap (λ k. with_front (front ++ x ∷ []) (counted one k after)) (sym same)
    ∙ sym (regroup front x (counted one n after)) ∙ sym (rw found refl) ∙ going

-- an entry is missing
pub counted_fails : {A : Type 0} (one : List ℕ → Option (A × List ℕ)) (n : ℕ) (front : List A)
    (rest : List ℕ) (total : Option (List A × List ℕ))
    → 0 < n → one rest ≡ None → Goes one n front rest total → None ≡ total
counted_fails one zero front rest total some none going = absurd (omega arith)
counted_fails one (suc n) front rest total some none going = sym (rw none refl) ∙ going

-- all entries are read
pub counted_done : {A : Type 0} (one : List ℕ → Option (A × List ℕ)) (n : ℕ) (front : List A)
    (rest : List ℕ) (total : Option (List A × List ℕ))
    → n ≡ 0 → Goes one n front rest total → Some (front, rest) ≡ total
counted_done one zero front rest total is going =
    (λ i. Some (sym (append-nil front) i, rest)) ∙ going
counted_done one (suc n) front rest total is going = absurd (omega arith)
