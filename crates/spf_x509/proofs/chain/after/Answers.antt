use Rattle.spf_x509.proofs.Starts.{same_head}
use Rattle.spf_x509.proofs.chain.after.Goals as goal

pub returns-in-Some : goal.returns-in-Some
returns-in-Some c =
    let head = c.in-Some.ensures in
    same_head (λ r. r.now) c.strip_prefix.result head.0 c.in-Some.others.now c.in-Some.end.now
    c.args.bytes.now c.args.text.now head.1 head.2 c.strip_prefix.ensures.cases
