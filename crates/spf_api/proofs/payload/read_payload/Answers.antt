use Rattle.std.proofs.Common.{arith}
use Rattle.spf_api.proofs.Payloads.{finds_ok}
use Rattle.spf_api.proofs.payload.read_payload.Goals as goal

pub returns-clause-laid : goal.returns-clause-laid
returns-clause-laid c =
    finds_ok c.args.kind c.args.payload.now c.read.result (λ i. omega (arith, c.type_inv.payload i))
    c.read.ensures
