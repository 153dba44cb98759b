use Rattle.std.proofs.Common.{sym, arith, rules}
use Rattle.spf_http2.proofs.HeaderLemmas.{no_header, some_header, said_text}
use Rattle.spf_http2.proofs.header.read_header.Goals as goal

pub returns-in_default-clause-exact : goal.returns-in_default-clause-exact
returns-in_default-clause-exact c = sym (no_header c.args.bytes.now (search rules))

pub returns-in-len9-up-clause-exact : goal.returns-in-len9-up-clause-exact
returns-in-len9-up-clause-exact c =
    rw (c.from_be_bytes.ensures, c.from_be_bytes-in-len9-up.ensures)
    (sym (some_header c.args.bytes.now (search rules)))

pub returns-in-len9-up-clause-text : goal.returns-in-len9-up-clause-text
returns-in-len9-up-clause-text c =
    rw (c.from_be_bytes.ensures, c.from_be_bytes-in-len9-up.ensures)
    (said_text c.args.bytes.now (search rules)
    (λ i. omega (arith, c.type_inv.bytes i)))
