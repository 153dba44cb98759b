use Rattle.spf_id.proofs.Ids.{kept}
use Rattle.spf_id.proofs.Names.{domain_name}
use Rattle.spf_id.proofs.spiffe_id.SpiffeId.new_sharing.Goals as goal

pub invariant_of-result : goal.invariant_of-result
invariant_of-result c =
    rw (c.in_ok-text.ensures, c.in_ok-domain-2.ensures)
    (kept c.args.text.now c.in_ok-domain.domain.now c.in_ok-domain.field-0-1.now
    c.in_ok-domain.ensures)

pub returns : goal.returns
returns c =
    rw (c.in_ok-text.ensures, c.in_ok-domain-2.ensures)
    (kept c.args.text.now c.in_ok-domain.domain.now c.in_ok-domain.field-0-1.now
    c.in_ok-domain.ensures).rule

pub named-requires : goal.named-requires
named-requires c = domain_name c.args.text.now _ c.in_ok-domain.ensures
