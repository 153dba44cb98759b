use Rattle.std.proofs.Common.{arith}
use Rattle.spf_api.proofs.Payloads.{context_finds_ok}
use Rattle.spf_api.proofs.payload_view.read_context_view.Goals as goal

pub returns-clause-laid : goal.returns-clause-laid
returns-clause-laid c =
    context_finds_ok c.args.payload.now c.context.result (λ i. omega (arith, c.type_inv.payload i))
    c.context.ensures
