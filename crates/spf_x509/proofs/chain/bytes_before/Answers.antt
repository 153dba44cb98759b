use Rattle.std.proofs.Common.{ℕ, List, ◌++◌, ◌-◌, length, sym}
use Rattle.std.proofs.Common.{ap, ◌∙◌}
use Rattle.std.proofs.lemmas.List.{take-append-drop}
use Rattle.spf_x509.proofs.Cuts.{certs_joined}
use Rattle.spf_x509.proofs.chain.bytes_before.Goals as goal

pub returns-then-is_concatenation : goal.returns-then-is_concatenation
returns-then-is_concatenation c =
    let at = length c.args.chain.now - c.length_of-length.result in
    let others = certs_joined c.args.certificates.now c.split_at.result.1.now
    (c.is_concatenation.ensures.0 c.if-is_concatenation.true) in
    sym (take-append-drop at c.args.chain.now)
    ∙ (λ i. sym c.split_at.ensures.front i ++ sym c.split_at.ensures.back i)
    ∙ ap (λ (z : List ℕ). c.split_at.result.0.now ++ z) others
