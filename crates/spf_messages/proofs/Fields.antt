-- Reading fields one after another.
use Rattle.std.proofs.Common.{◌≡◌, ◌≤◌, ◌<◌, ◌∙◌, ℕ, zero, suc, List, [], ◌∷◌, length, Option, Some}
use Rattle.std.proofs.Common.{None}
use Rattle.std.proofs.Common.{refl, sym, ap, arith}
use Rattle.spf_io.specs.Option.{◌>>=◌}
use Rattle.spf_messages.specs.Wire.{WireField, field_at}
use Rattle.spf_messages.specs.Message.{fields_within}
use Rattle.spf_messages.specs.Folded.{folded, message_from}

-- what the fields that are left make of a message, where that number of steps is enough
abbrev pub Left : {M : Type 0} → (M → WireField → Option M) → M → List ℕ → Option M → Type 0
Left step message bytes found =
    (n : ℕ) × (length bytes ≤ n) × ((fields_within n bytes >>= folded step message) ≡ found)

pub all_left : {M : Type 0} (step : M → WireField → Option M) (message : M) (bytes : List ℕ)
    → Left step message bytes (message_from step message bytes)
all_left step message bytes = (length bytes, omega arith, refl)

pub none_left : {M : Type 0} (step : M → WireField → Option M) (message : M) (found : Option M)
    → Left step message [] found → Some message ≡ found
none_left step message found left = left.2

pub done_left : {M : Type 0} (step : M → WireField → Option M) (message : M) (bytes : List ℕ)
    (found : Option M)
    → length bytes ≡ 0 → Left step message bytes found → Some message ≡ found
done_left step message [] found none left = left.2
done_left step message (b ∷ bytes) found none left = absurd (omega (arith, none))

-- one more field
onto : {M : Type 0} (step : M → WireField → Option M) (message next : M) (f : WireField)
    (fs : Option (List WireField))
    → step message f ≡ Some next
    → ((fs >>= λ others. Some (f ∷ others)) >>= folded step message) ≡ (fs >>= folded step next)
onto step message next f None is = refl
onto step message next f (Some fs) is = ap (λ (m : Option _). m >>= λ next. folded step next fs) is

refused : {M : Type 0} (step : M → WireField → Option M) (message : M) (f : WireField)
    (fs : Option (List WireField))
    → step message f ≡ None
    → ((fs >>= λ others. Some (f ∷ others)) >>= folded step message) ≡ None
refused step message f None is = refl
refused step message f (Some fs) is = ap (λ (m : Option _). m >>= λ next. folded step next fs) is

pub field_left : {M : Type 0} (step : M → WireField → Option M) (message next : M) (bytes : List ℕ)
    (f : WireField) (after : List ℕ) (found : Option M)
    → 0 < length bytes → Some (f, after) ≡ field_at bytes → length after < length bytes
    → step message f ≡ Some next
    → Left step message bytes found → Left step next after found
field_left step message next [] f after found some is less stepped left = absurd (omega arith)
field_left step message next (b ∷ bytes) f after found some is less stepped (zero, short, left) =
    absurd (omega (arith, short))
field_left step message next (b ∷ bytes) f after found some is less stepped (suc n, short, left) = (
  n,
  omega (arith, short, less),
  sym (onto step message next f (fields_within n after) stepped)
      ∙ ap (λ (x : Option (WireField × List ℕ)).
      (x >>= λ f. fields_within n f.1 >>= λ fs. Some (f.0 ∷ fs)) >>= folded step message) is
      ∙ left,
)

pub refused_left : {M : Type 0} (step : M → WireField → Option M) (message : M) (bytes : List ℕ)
    (f : WireField) (after : List ℕ) (found : Option M)
    → 0 < length bytes → Some (f, after) ≡ field_at bytes → step message f ≡ None
    → Left step message bytes found → None ≡ found
refused_left step message [] f after found some is stepped left = absurd (omega arith)
refused_left step message (b ∷ bytes) f after found some is stepped (zero, short, left) =
    absurd (omega (arith, short))
refused_left step message (b ∷ bytes) f after found some is stepped (suc n, short, left) =
    sym (refused step message f (fields_within n after) stepped)
    ∙ ap (λ (x : Option (WireField × List ℕ)).
    (x >>= λ f. fields_within n f.1 >>= λ fs. Some (f.0 ∷ fs)) >>= folded step message) is
    ∙ left

pub broken_left : {M : Type 0} (step : M → WireField → Option M) (message : M) (bytes : List ℕ)
    (found : Option M)
    → 0 < length bytes → None ≡ field_at bytes → Left step message bytes found → None ≡ found
broken_left step message [] found some is left = absurd (omega arith)
broken_left step message (b ∷ bytes) found some is (zero, short, left) =
    absurd (omega (arith, short))
broken_left step message (b ∷ bytes) found some is (suc n, short, left) =
    ap (λ (x : Option (WireField × List ℕ)).
    (x >>= λ f. fields_within n f.1 >>= λ fs. Some (f.0 ∷ fs)) >>= folded step message) is
    ∙ left
