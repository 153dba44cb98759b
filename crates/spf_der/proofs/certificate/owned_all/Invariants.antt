use Rattle.std.proofs.Common.{◌≡◌, map, take}
use Rattle.spf_der.specs.Part.{plain}
use Rattle.spf_der.proofs.certificate.owned_all.Given as goal

abbrev pub invariant-loop-extension : goal.invariant-loop-extension
invariant-loop-extension l = l.copies.items ≡ map plain (take l.extension-index l.extensions)
