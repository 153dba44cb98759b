use Rattle.std.proofs.Common.{sym, ◌∙◌}
use Rattle.spf_x509.proofs.Tails.{others_follow}
use Rattle.spf_x509.proofs.svid.X509Svid.intermediates.Goals as goal

pub returns-in-Some : goal.returns-in-Some
returns-in-Some c =
    others_follow c.args.self.now c.in-Some.field-0-0.now c.in-Some.others.now
    c.cert_chain.ensures.parsed
    (sym c.cert_chain.ensures.chain ∙ c.in-Some.ensures.cases.0)
