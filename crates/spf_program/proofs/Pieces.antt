-- A text that is put in two pieces.
use Rattle.std.proofs.Common.{◌≡◌, ℕ, zero, suc, List, [], ◌∷◌, ◌++◌, take, Option, Result, Ok, Err}
use Rattle.std.proofs.Common.{refl, sym, ap, subst}
use Rattle.std.specs.Io.KnownBytes.{Appends}
use Rattle.std.proofs.KnownBytes.{Appends-trans}
use Rattle.spf_io.specs.Outside.{PutAppends}

-- a beginning of the first piece begins both
front_of : (n : ℕ) (a b : List ℕ) → (m : ℕ) × (take m (a ++ b) ≡ take n a)
front_of zero a b = (0, refl)
front_of (suc n) [] b = (0, refl)
front_of (suc n) (x ∷ a) b = let front = front_of n a b in
    (suc front.0, ap (λ (l : List ℕ). x ∷ l) front.1)

-- the first piece and a beginning of the second begin both
both_of : (n : ℕ) (a b : List ℕ) → (m : ℕ) × (take m (a ++ b) ≡ a ++ take n b)
both_of n [] b = (n, refl)
both_of n (x ∷ a) b = let rest = both_of n a b in
    (suc rest.0, ap (λ (l : List ℕ). x ∷ l) rest.1)

pub first_failed : {T E : Type 0} (old new : Option (List ℕ)) (r : Result T E) (e : E)
    (a b : List ℕ) → r ≡ Err e → (n : ℕ) × Appends old new (take n a)
    → PutAppends old new r (a ++ b)
first_failed old new r e a b is put =
    let front = front_of put.0 a b in
    subst (λ x. PutAppends old new x (a ++ b)) (sym is) (
      front.0,
      subst (Appends old new) (sym front.1) put.1,
    )

pub then_second : {T E : Type 0} (old mid new : Option (List ℕ)) (r : Result T E) (a b : List ℕ)
    → Appends old mid a → PutAppends mid new r b → PutAppends old new r (a ++ b)
then_second old mid new (Ok done) a b first put = Appends-trans old mid new a b first put
then_second old mid new (Err e) a b first put =
    let both = both_of put.0 a b in (
      both.0,
      subst (Appends old new) (sym both.1) (Appends-trans old mid new a (take put.0 b) first put.1),
    )
