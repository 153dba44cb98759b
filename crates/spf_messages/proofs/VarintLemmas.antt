-- No varint begins another.
use Rattle.std.proofs.Common.{◌≡◌, ◌∙◌, ℕ, zero, suc, ◌+◌, ◌-◌, ◌*◌, ◌^◌, Bool, true, false, cond}
use Rattle.std.proofs.Common.{List, [], ◌∷◌, ◌++◌, Option, Some, None, refl, ap}
use Rattle.std.specs.Prelude.{nat_lt}
use Rattle.spf_io.specs.Option.{◌>>=◌}
use Rattle.spf_messages.specs.Wire.{below64, varint_within}

abbrev with_more : List ℕ → ℕ × List ℕ → ℕ × List ℕ
with_more more v = (v.0, v.1 ++ more)

fits_still : (b : Bool) (value n : ℕ) (rest end more : List ℕ)
    → cond {A = Option (ℕ × List ℕ)} b (Some (value, rest)) None ≡ Some (n, end)
    → cond {A = Option (ℕ × List ℕ)} b (Some (value, rest ++ more)) None ≡ Some (n, end ++ more)
fits_still true value n rest end more is =
    ap (λ (o : Option (ℕ × List ℕ)). o >>= λ v. Some (with_more more v)) is
fits_still false value n rest end more is = absurd cc

high_still : (octet n : ℕ) (end more : List ℕ) (high longer : Option (ℕ × List ℕ))
    → ((m : ℕ) (rest : List ℕ) → high ≡ Some (m, rest) → longer ≡ Some (m, rest ++ more))
    → (high >>= λ v. below64 (128 * v.0 + (octet - 128)) v.1) ≡ Some (n, end)
    → (longer >>= λ v. below64 (128 * v.0 + (octet - 128)) v.1) ≡ Some (n, end ++ more)
high_still octet n end more None longer grows is = absurd cc
high_still octet n end more (Some v) longer grows is =
    ap (λ (o : Option (ℕ × List ℕ)). o >>= λ v. below64 (128 * v.0 + (octet - 128)) v.1)
    (grows v.0 v.1 refl)
    ∙ fits_still (nat_lt (128 * v.0 + (octet - 128)) (2 ^ 64)) (128 * v.0 + (octet - 128)) n v.1 end
    more is

octet_still : (b : Bool) (octet n : ℕ) (bytes end more : List ℕ) (high longer : Option (ℕ × List ℕ))
    → ((m : ℕ) (rest : List ℕ) → high ≡ Some (m, rest) → longer ≡ Some (m, rest ++ more))
    → cond {A = Option (ℕ × List ℕ)} b (Some (octet, bytes))
    (high >>= λ v. below64 (128 * v.0 + (octet - 128)) v.1)
    ≡ Some (n, end)
    → cond {A = Option (ℕ × List ℕ)} b (Some (octet, bytes ++ more))
    (longer >>= λ v. below64 (128 * v.0 + (octet - 128)) v.1) ≡ Some (n, end ++ more)
octet_still true octet n bytes end more high longer grows is =
    fits_still true octet n bytes end more is
octet_still false octet n bytes end more high longer grows is =
    high_still octet n end more high longer grows is

pub ends_alone : (max : ℕ) (bytes more : List ℕ) (n : ℕ) (rest : List ℕ)
    → varint_within max bytes ≡ Some (n, rest)
    → varint_within max (bytes ++ more) ≡ Some (n, rest ++ more)
ends_alone zero bytes more n rest is = absurd cc
ends_alone (suc max) [] more n rest is = absurd cc
ends_alone (suc max) (octet ∷ bytes) more n rest is =
    octet_still (nat_lt octet 128) octet n bytes rest more (varint_within max bytes)
    (varint_within max (bytes ++ more)) (λ m others. ends_alone max bytes more m others) is
