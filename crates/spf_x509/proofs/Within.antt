-- Concatenated certificates, as a loop with a bound reads them.
use Rattle.std.proofs.Common.{◌≡◌, ◌≢◌, ℕ, zero, suc, ◌+◌, ◌<◌, List, [], ◌∷◌, ◌++◌, length, Result}
use Rattle.std.proofs.Common.{Ok, Err, refl, sym, ap, ◌∙◌, append_assoc, length-append, arith}
use Rattle.std.proofs.lemmas.List.{append-nil}
use Rattle.spf_io.specs.Rule.{◌>>=◌, each, many}
use Rattle.spf_der.specs.Part.{Parts}
use Rattle.spf_x509.specs.declared.svid_error.X509SvidError.{X509SvidError}
use Rattle.spf_x509.specs.Rule.{intermediate_rule}
use Rattle.spf_x509.specs.Chain.{intermediates_rule}
use Rattle.spf_io.proofs.Many.{with_front}

regroup : {A E : Type 0} (front : List A) (x : A) (read : Result (List A) E)
    → with_front front (read >>= λ others. Ok (x ∷ others)) ≡ with_front (front ++ x ∷ []) read
regroup front x (Ok others) = ap Ok (sym (append_assoc front (x ∷ []) others))
regroup front x (Err e) = refl

-- what a loop keeps: as many pieces may follow as the bound leaves
pub record GoesWithin {A E : Type 0} (one : List ℕ → Result (A × List ℕ) E) (spent : E) (bound : ℕ)
    (front : List A) (rest : List ℕ) (total : Result (List A) E) : Type 0 where
  pub left : ℕ
  pub within : left + length front ≡ bound
  pub is : with_front front (many one spent left rest) ≡ total

nothing_before : {A E : Type 0} (read : Result (List A) E) → with_front [] read ≡ read
nothing_before (Ok others) = refl
nothing_before (Err e) = refl

-- nothing is read yet
pub within_starts : {A E : Type 0} (one : List ℕ → Result (A × List ℕ) E) (spent : E) (bound : ℕ)
    (bytes : List ℕ) → GoesWithin one spent bound [] bytes (many one spent bound bytes)
within_starts one spent bound bytes = record {
  left = bound;
  within = omega arith;
  is = nothing_before (many one spent bound bytes);
}

step_more : {A E : Type 0} (one : List ℕ → Result (A × List ℕ) E) (spent : E) (bound : ℕ)
    (front : List A) (rest : List ℕ) (total : Result (List A) E) (x : A) (after : List ℕ) (left : ℕ)
    → 0 < length rest → one rest ≡ Ok (x, after) → length front ≢ bound
    → left + length front ≡ bound → with_front front (many one spent left rest) ≡ total
    → GoesWithin one spent bound (front ++ x ∷ []) after total
step_more one spent bound front [] total x after left some found room within is =
    absurd (omega arith)
step_more one spent bound front (b ∷ bytes) total x after zero some found room within is =
    absurd (omega arith)
step_more one spent bound front (b ∷ bytes) total x after (suc n) some found room within is =
    record {
      left = n;
      within = omega (arith, length-append front (x ∷ []));
      is = sym (regroup front x (many one spent n after)) ∙ sym (rw found refl) ∙ is;
    }

-- one more piece is read
pub within_more : {A E : Type 0} (one : List ℕ → Result (A × List ℕ) E) (spent : E) (bound : ℕ)
    (front : List A) (rest : List ℕ) (total : Result (List A) E) (x : A) (after : List ℕ)
    → 0 < length rest → one rest ≡ Ok (x, after) → length front ≢ bound
    → GoesWithin one spent bound front rest total
    → GoesWithin one spent bound (front ++ x ∷ []) after total
within_more one spent bound front rest total x after some found room g =
    step_more one spent bound front rest total x after g.left some found room g.within g.is

step_fails : {A E : Type 0} (one : List ℕ → Result (A × List ℕ) E) (spent : E) (bound : ℕ)
    (front : List A) (rest : List ℕ) (total : Result (List A) E) (e : E) (left : ℕ)
    → 0 < length rest → one rest ≡ Err e → length front ≢ bound → left + length front ≡ bound
    → with_front front (many one spent left rest) ≡ total → total ≡ Err e
step_fails one spent bound front [] total e left some broken room within is = absurd (omega arith)
step_fails one spent bound front (b ∷ bytes) total e zero some broken room within is =
    absurd (omega arith)
step_fails one spent bound front (b ∷ bytes) total e (suc n) some broken room within is =
    sym is ∙ rw broken refl

-- a piece breaks a rule
pub within_fails : {A E : Type 0} (one : List ℕ → Result (A × List ℕ) E) (spent : E) (bound : ℕ)
    (front : List A) (rest : List ℕ) (total : Result (List A) E) (e : E)
    → 0 < length rest → one rest ≡ Err e → length front ≢ bound
    → GoesWithin one spent bound front rest total → total ≡ Err e
within_fails one spent bound front rest total e some broken room g =
    step_fails one spent bound front rest total e g.left some broken room g.within g.is

step_spent : {A E : Type 0} (one : List ℕ → Result (A × List ℕ) E) (spent : E) (bound : ℕ)
    (front : List A) (rest : List ℕ) (total : Result (List A) E) (left : ℕ)
    → 0 < length rest → length front ≡ bound → left + length front ≡ bound
    → with_front front (many one spent left rest) ≡ total → total ≡ Err spent
step_spent one spent bound front [] total left some full within is = absurd (omega arith)
step_spent one spent bound front (b ∷ bytes) total zero some full within is = sym is
step_spent one spent bound front (b ∷ bytes) total (suc n) some full within is =
    absurd (omega arith)

-- bytes are left after as many pieces as there may be
pub within_spent : {A E : Type 0} (one : List ℕ → Result (A × List ℕ) E) (spent : E) (bound : ℕ)
    (front : List A) (rest : List ℕ) (total : Result (List A) E)
    → 0 < length rest → length front ≡ bound → GoesWithin one spent bound front rest total
    → total ≡ Err spent
within_spent one spent bound front rest total some full g =
    step_spent one spent bound front rest total g.left some full g.within g.is

step_done : {A E : Type 0} (one : List ℕ → Result (A × List ℕ) E) (spent : E) (front : List A)
    (rest : List ℕ) (total : Result (List A) E) (left : ℕ)
    → length rest ≡ 0 → with_front front (many one spent left rest) ≡ total → total ≡ Ok front
step_done one spent front [] total left none is = sym is ∙ ap Ok (append-nil front)
step_done one spent front (b ∷ bytes) total left none is = absurd (omega arith)

-- all of the bytes are read
pub within_done : {A E : Type 0} (one : List ℕ → Result (A × List ℕ) E) (spent : E) (bound : ℕ)
    (front : List A) (rest : List ℕ) (total : Result (List A) E)
    → length rest ≡ 0 → GoesWithin one spent bound front rest total → total ≡ Ok front
within_done one spent bound front rest total none g =
    step_done one spent front rest total g.left none g.is

-- the rule of each intermediate, as a loop applies it
pub intermediates_at : (parts : List (Parts × List ℕ))
    (answers : Result (List (Unit {0})) X509SvidError)
    → each (λ (p : Parts × List ℕ). intermediate_rule p.0) parts ≡ answers
    → intermediates_rule parts ≡ (answers >>= λ _. Ok tt)
intermediates_at parts answers is =
    ap (λ (r : Result (List (Unit {0})) X509SvidError). r >>= λ _. Ok (tt {0})) is
