use Rattle.std.proofs.Common.{◌≡◌, map, take, Ok}
use Rattle.spf_der.specs.Part.{plain}
use Rattle.spf_der.specs.Value.{seen}
use Rattle.spf_der.specs.Read.{unique_rule}
use Rattle.spf_der.proofs.certificate.unique_contents.Given as goal

abbrev pub invariant-loop-extension : goal.invariant-loop-extension
invariant-loop-extension l =
    unique_rule l.oid (map plain (take l.extension-index l.extensions)) ≡ Ok (seen l.found)
