-- An equality test that decides `≡`: for lists of
-- values whose test does, and so for texts and bytes.
use Rattle.std.proofs.Common.{Bool, ℕ, nat_eq, List, refl}
use Rattle.std.specs.Cmp.Lexicographic.{pointwise}
use Rattle.std.proofs.lemmas.Bool.Decides.{Decides-eqb}
use Rattle.std.proofs.lemmas.Slice.Eq.{slice_eq-Decides}
use Rattle.spf_io.specs.Exact.{IsExact}

-- lists of values whose test is exact
pub list_exact : {A : Type 0} {E : A → A → Bool} → IsExact A E → IsExact (List A) (pointwise E)
list_exact {A} {E} each xs ys = slice_eq-Decides each xs ys (pointwise E xs ys) refl

-- texts and bytes
pub bytes_exact : IsExact (List ℕ) (pointwise nat_eq)
bytes_exact = list_exact Decides-eqb
