-- A rule for each piece of the bytes, as a loop applies it.
use Rattle.std.proofs.Common.{◌≡◌, ℕ, zero, suc, ◌≤◌, ◌<◌, List, [], ◌∷◌, ◌++◌, length, Result, Ok}
use Rattle.std.proofs.Common.{Err, refl, sym, ap, ◌∙◌, append_assoc, arith}
use Rattle.std.proofs.lemmas.List.{append-nil}
use Rattle.spf_io.specs.Rule.{◌>>=◌, many}

-- what was read before, and what is still read
abbrev pub with_front : {A E : Type 0} → List A → Result (List A) E → Result (List A) E
with_front front read = read >>= λ others. Ok (front ++ others)

regroup : {A E : Type 0} (front : List A) (x : A) (read : Result (List A) E)
    → with_front front (read >>= λ others. Ok (x ∷ others)) ≡ with_front (front ++ x ∷ []) read
regroup front x (Ok others) = ap Ok (sym (append_assoc front (x ∷ []) others))
regroup front x (Err e) = refl

-- what a loop keeps: some number of pieces is still enough
abbrev pub Goes : {A E : Type 0} → (List ℕ → Result (A × List ℕ) E) → E → List A → List ℕ
    → Result (List A) E → Type 0
Goes one spent front rest total =
    (n : ℕ) × (length rest ≤ n) × (with_front front (many one spent n rest) ≡ total)

nothing_before : {A E : Type 0} (read : Result (List A) E) → with_front [] read ≡ read
nothing_before (Ok others) = refl
nothing_before (Err e) = refl

-- nothing is read yet
pub many_starts : {A E : Type 0} (one : List ℕ → Result (A × List ℕ) E) (spent : E) (bytes : List ℕ)
    → Goes one spent [] bytes (many one spent (length bytes) bytes)
many_starts one spent bytes =
    (length bytes, omega arith, nothing_before (many one spent (length bytes) bytes))

-- one more piece is read
pub many_more : {A E : Type 0} (one : List ℕ → Result (A × List ℕ) E) (spent : E) (front : List A)
    (rest : List ℕ) (total : Result (List A) E) (x : A) (after : List ℕ)
    → 0 < length rest → one rest ≡ Ok (x, after) → length after < length rest
    → Goes one spent front rest total → Goes one spent (front ++ x ∷ []) after total
many_more one spent front [] total x after some found shorter going = absurd (omega arith)
many_more one spent front (b ∷ bytes) total x after some found shorter (zero, le, is) =
    absurd (omega arith)
many_more one spent front (b ∷ bytes) total x after some found shorter (suc n, le, is) =
    (n, omega arith, sym (regroup front x (many one spent n after)) ∙ sym (rw found refl) ∙ is)

-- a piece breaks a rule
pub many_fails : {A E : Type 0} (one : List ℕ → Result (A × List ℕ) E) (spent : E) (front : List A)
    (rest : List ℕ) (total : Result (List A) E) (e : E)
    → 0 < length rest → one rest ≡ Err e → Goes one spent front rest total → total ≡ Err e
many_fails one spent front [] total e some broken going = absurd (omega arith)
many_fails one spent front (b ∷ bytes) total e some broken (zero, le, is) = absurd (omega arith)
many_fails one spent front (b ∷ bytes) total e some broken (suc n, le, is) = sym is ∙ rw broken refl

-- all of the bytes are read
pub many_done : {A E : Type 0} (one : List ℕ → Result (A × List ℕ) E) (spent : E) (front : List A)
    (rest : List ℕ) (total : Result (List A) E)
    → length rest ≡ 0 → Goes one spent front rest total → total ≡ Ok front
many_done one spent front [] total none (n, le, is) = sym is ∙ ap Ok (append-nil front)
many_done one spent front (b ∷ bytes) total none going = absurd (omega arith)
