use Rattle.spf_x509.proofs.OnlyName.{only_uri_read}
use Rattle.spf_x509.proofs.certificate.only_uri.Goals as goal

pub returns-in-48 : goal.returns-in-48
returns-in-48 c =
    only_uri_read c.args.contents.now c.in-48.len_at_least (cc) (cc) c.if-names-lt128.true
    c.if-names-uri.true c.if-length-uri.true
