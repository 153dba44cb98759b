use Rattle.std.proofs.Common.{◌≡◌, ℕ, ◌+◌, ◌<◌, List, [], ◌∷◌, ◌++◌, length, get_or, map, take}
use Rattle.std.proofs.Common.{refl, ◌∙◌}
use Rattle.std.proofs.lemmas.List.{map_push, take_all, take_more}
use Rattle.spf_der.specs.Part.{plain}
use Rattle.spf_der.proofs.certificate.owned_all.Goals as goal

map_more : {X Y : Type 0} (f : X → Y) (xs : List X) (i : ℕ) (d : X) (ys : List Y) (y : Y)
    → i < length xs → ys ≡ map f (take i xs) → y ≡ f (get_or xs i d)
    → ys ++ y ∷ [] ≡ map f (take (i + 1) xs)
map_more f xs i d ys y lt are is = rw (take_more xs i d lt, map_push, ← is, ← are) refl

pub loop-extension-preserved : goal.loop-extension-preserved
loop-extension-preserved c =
    c.in_ok-push.ensures.items
    ∙ map_more plain c.args.extensions.now c.loop-extension.extension-index _
    c.loop-extension.copies.items c.in_ok-copy.copy c.loop-extension-test.true
    c.loop-extension.invariant c.in_ok-copy.ensures

pub returns : goal.returns
returns c =
    let i = c.loop-extension.extension-index in
    let all = take_all i c.args.extensions.now c.loop-extension-test.false in
    rw all at c.loop-extension.invariant
