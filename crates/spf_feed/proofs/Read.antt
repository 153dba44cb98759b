-- An element that is read by its index.
use Rattle.std.proofs.Common.{◌≡◌, ℕ, List, Option, Some, None, map, refl, sym, ap, ◌∙◌}
use Rattle.std.proofs.lemmas.Option.{slice_get-map, slice_get_past, slice_get-get_or}
use Rattle.std.specs.Prelude.{slice_get}
use Rattle.std.specs.Borrow.{Bor}
use Rattle.std.specs.Option.{option_copied, option_map}
use Rattle.std.specs.Slice.{IsItemAt}

pub item_read : {X : Type 0} (xs : List X) (i : ℕ) (r : Option (Bor X)) → IsItemAt xs i r
    → option_copied r ≡ slice_get xs i
item_read xs i None h = sym (slice_get_past xs i h.3)
item_read xs i (Some x) h = sym (slice_get-get_or xs i x.now h.3.0 ∙ ap Some (sym h.1))

seen : {X Y : Type 0} (f : X → Y) (r : Option (Bor X))
    → option_map (λ x. f x.now) r ≡ option_map f (option_copied r)
seen f None = refl
seen f (Some x) = refl

-- the same, by what a function gives
pub seen_read : {X Y : Type 0} (f : X → Y) (xs : List X) (i : ℕ) (r : Option (Bor X))
    → IsItemAt xs i r → option_map (λ x. f x.now) r ≡ slice_get (map f xs) i
seen_read f xs i r h =
    seen f r ∙ ap (option_map f) (item_read xs i r h) ∙ sym (slice_get-map f xs i)
