use Rattle.std.proofs.Common.{◌≡◌, ◌++◌, drop}
use Rattle.spf_export.specs.Pem.{certificates_text}
use Rattle.spf_export.proofs.pem_texts.chain_text.Given as goal

abbrev pub invariant-loop-certificate : goal.invariant-loop-certificate
invariant-loop-certificate l =
    l.out.items ++ certificates_text (drop l.certificate-index l.chain)
    ≡ l.initial.out.items ++ certificates_text l.chain
