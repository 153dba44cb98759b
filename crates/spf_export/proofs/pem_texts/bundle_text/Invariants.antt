use Rattle.std.proofs.Common.{◌≡◌, ◌++◌, drop}
use Rattle.spf_export.specs.Pem.{authorities_of, certificates_text}
use Rattle.spf_export.proofs.pem_texts.bundle_text.Given as goal

abbrev pub invariant-loop-list : goal.invariant-loop-list
invariant-loop-list l =
    l.out.items ++ certificates_text (authorities_of l.trust_domain (drop l.list-index l.lists))
    ≡ l.initial.out.items ++ certificates_text (authorities_of l.trust_domain l.lists)
