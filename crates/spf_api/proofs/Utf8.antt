-- The test for UTF-8.
use Rattle.std.proofs.Common.{◌≡◌, false, ℕ, List, ⊎_elim}
use Rattle.std.proofs.lemmas.Bool.{cases_Bool}
use Rattle.std.proofs.lemmas.Str.{IsUtf8-from_is_utf8}
use Rattle.std.specs.Str.{IsUtf8, is_utf8}

pub is_utf8-false : (bs : List ℕ) → ¬ (IsUtf8 bs) → is_utf8 bs ≡ false
is_utf8-false bs never =
    ⊎_elim (λ yes. absurd (never (IsUtf8-from_is_utf8 bs yes))) (λ is. is) (cases_Bool (is_utf8 bs))
