use Rattle.std.proofs.Common.{◌≡◌, ◌++◌, drop}
use Rattle.spf_export.specs.Pem.{certificates_text}
use Rattle.spf_export.proofs.pem_texts.put_authorities.Given as goal

abbrev pub invariant-loop-authority : goal.invariant-loop-authority
invariant-loop-authority l =
    l.out.items ++ certificates_text (drop l.authority-index l.authorities)
    ≡ l.initial.out.items ++ certificates_text l.authorities
