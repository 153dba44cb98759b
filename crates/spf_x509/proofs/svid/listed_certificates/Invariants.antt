use Rattle.std.proofs.Common.{◌≡◌, ◌∷◌, take}
use Rattle.spf_x509.specs.Chain.{texts}
use Rattle.spf_x509.proofs.svid.listed_certificates.Given as goal

abbrev pub invariant-loop-part : goal.invariant-loop-part
invariant-loop-part l = l.certificates ≡ l.fn.leaf ∷ texts (take l.part-index l.others)
