-- The other files where one is changed.
use Rattle.std.proofs.Common.{◌≡◌, ℕ, ◌∙◌}
use Rattle.spf_disk.specs.declared.disk.HelperFile.{HelperFile}
use Rattle.spf_disk.specs.declared.disk.HelperFile.TheVariants.{Gates, First, Second}
use Rattle.spf_disk.specs.Crash.{Torn}
use Rattle.spf_disk.specs.Image.{Image, SameOthers}

pub same_others : (file : HelperFile) (m c : Image) → c ≡ m → SameOthers file m c
same_others Gates m c is = ((λ i. (is i).first), (λ i. (is i).second))
same_others First m c is = ((λ i. (is i).gates), (λ i. (is i).second))
same_others Second m c is = ((λ i. (is i).gates), (λ i. (is i).first))

others_trans : (file : HelperFile) (m d c : Image) → SameOthers file m d → SameOthers file d c
    → SameOthers file m c
others_trans Gates m d c first then = (then.0 ∙ first.0, then.1 ∙ first.1)
others_trans First m d c first then = (then.0 ∙ first.0, then.1 ∙ first.1)
others_trans Second m d c first then = (then.0 ∙ first.0, then.1 ∙ first.1)

pub torn_others : (file : HelperFile) (untouched : ℕ → Type 0) (end : ℕ) (m : Image)
    (old new : Image → Type 0) → ((d : Image) → old d → SameOthers file m d)
    → ((c : Image) → new c → Torn file untouched end old c) → (c : Image) → new c
    → SameOthers file m c
torn_others file untouched end m old new before torn c left =
    let from = (torn c left).others in
    others_trans file m from.0 c (before from.0 from.1) from.2
