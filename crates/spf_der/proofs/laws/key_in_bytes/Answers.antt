use Rattle.std.proofs.Common.{ℕ, ◌<◌, ◌∙◌, sym, arith}
use Rattle.std.proofs.lemmas.List.Elements.{All-from_get_or}
use Rattle.spf_der.proofs.Keys.{key_exact}
use Rattle.spf_der.proofs.laws.key_in_bytes.Goals as goal

pub returns : goal.returns
returns c =
    let octets =
    All-from_get_or (λ (b : ℕ). b < 256) c.args.der.now 0
    (λ i lt. omega (arith, c.type_inv.der i)) in
    let exact = key_exact c.args.der.now octets in
    let same = c.is_ok.ensures.value ∙ c.read_key.ensures in
    (λ taken. exact.0 (sym same ∙ taken), λ text. same ∙ exact.1 text)
