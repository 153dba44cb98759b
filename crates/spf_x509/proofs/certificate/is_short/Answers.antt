use Rattle.std.proofs.Common.{◌≡◌, Ok, arith, false, length, refl}
use Rattle.std.specs.Prelude.{nat_lt}
use Rattle.std.proofs.lemmas.Bool.Decides.{nat_tests}
use Rattle.spf_id.specs.Id.{id_text}
use Rattle.spf_id.specs.Rule.{has_spiffe_scheme, id_rule}
use Rattle.spf_x509.specs.Certificate.{uri_rule}
use Rattle.spf_x509.proofs.certificate.is_short.Goals as goal

pub returns : goal.returns
unfolding uri_rule has_spiffe_scheme id_text
returns c =
    λ short.
    let id = c.args.id.now in
    let rule : id_rule (id_text id) ≡ Ok id = rw c.as_str.ensures.text at c.as_str.ensures.rule in
    let within : nat_lt 2048 (length (id_text id)) ≡ false =
    grind (arith, nat_tests, c.as_str.ensures.text, short) in
    rw (within, rule) refl
