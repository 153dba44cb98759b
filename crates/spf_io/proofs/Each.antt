-- A rule for each member, as a loop applies it.
use Rattle.std.proofs.Common.{◌≡◌, Bool, true, false, ℕ, ◌+◌, ◌<◌, List, [], ◌∷◌, ◌++◌, length}
use Rattle.std.proofs.Common.{get_or, take, drop, Result, Ok, Err, refl, sym, ap, ◌∙◌, suc}
use Rattle.std.proofs.Common.{drop-cons}
use Rattle.std.proofs.lemmas.List.{take_more, take-append-drop}
use Rattle.std.specs.Bool.{MatchBool}
use Rattle.spf_io.specs.Rule.{◌>>=◌, each}

joined : {B E : Type 0} (a b : Result (List B) E) (y : B)
    → ((a >>= λ ys. b >>= λ ws. Ok (ys ++ ws)) >>= λ r. Ok (y ∷ r))
    ≡ ((a >>= λ ys. Ok (y ∷ ys)) >>= λ ys. b >>= λ ws. Ok (ys ++ ws))
joined (Ok ys) (Ok ws) y = refl
joined (Ok ys) (Err e) y = refl
joined (Err e) b y = refl

same : {B E : Type 0} (r : Result (List B) E) → r ≡ (r >>= λ ws. Ok ([] ++ ws))
same (Ok ws) = refl
same (Err e) = refl

front : {A B E : Type 0} (f : A → Result B E) (xs zs : List A) (x : A) (fx : Result B E)
    → each f (xs ++ zs) ≡ (each f xs >>= λ ys. each f zs >>= λ ws. Ok (ys ++ ws))
    → (fx >>= λ y. each f (xs ++ zs) >>= λ ys. Ok (y ∷ ys))
    ≡ ((fx >>= λ y. each f xs >>= λ ys. Ok (y ∷ ys)) >>= λ ys. each f zs >>= λ ws. Ok (ys ++ ws))
front f xs zs x (Ok y) h = ap (λ r. r >>= λ ys. Ok (y ∷ ys)) h ∙ joined (each f xs) (each f zs) y
front f xs zs x (Err e) h = refl

pub each-append : {A B E : Type 0} (f : A → Result B E) (xs zs : List A)
    → each f (xs ++ zs) ≡ (each f xs >>= λ ys. each f zs >>= λ ws. Ok (ys ++ ws))
each-append f [] zs = same (each f zs)
each-append f (x ∷ xs) zs = front f xs zs x (f x) (each-append f xs zs)

-- one more member is read
pub each_more : {A B E : Type 0} (f : A → Result B E) (xs : List A) (i : ℕ) (x : A) (ys : List B)
    (y : B)
    → each f (take i xs) ≡ Ok ys → i < length xs → x ≡ get_or xs i x → f x ≡ Ok y
    → each f (take (i + 1) xs) ≡ Ok (ys ++ y ∷ [])
each_more {A} f xs i x ys y so_far lt is fx =
    let cut : take (i + 1) xs ≡ take i xs ++ x ∷ [] =
    take_more xs i x lt ∙ ap (λ (z : A). take i xs ++ z ∷ []) (sym is) in
    ap (each f) cut ∙ each-append f (take i xs) (x ∷ []) ∙ (rw (so_far, fx) refl)

-- a member breaks a rule
pub each_fails : {A B E : Type 0} (f : A → Result B E) (xs : List A) (i : ℕ) (x : A) (ys : List B)
    (e : E)
    → each f (take i xs) ≡ Ok ys → i < length xs → x ≡ get_or xs i x → f x ≡ Err e
    → each f xs ≡ Err e
each_fails {A} f xs i x ys e so_far lt is fx =
    let rest : drop i xs ≡ x ∷ drop (suc i) xs =
    drop-cons xs i x lt ∙ ap (λ (z : A). z ∷ drop (suc i) xs) (sym is) in
    let cut : xs ≡ take i xs ++ x ∷ drop (suc i) xs =
    sym (take-append-drop i xs) ∙ ap (λ (z : List A). take i xs ++ z) rest in
    ap (each f) cut ∙ each-append f (take i xs) (x ∷ drop (suc i) xs) ∙ (rw (so_far, fx) refl)

pub unless : {P Q : Type 0} (m : Bool) → (P → Q) → MatchBool m (Unit {0}) P
    → MatchBool m (Unit {0}) Q
unless true f h = tt
unless false f h = f h
