use Rattle.std.proofs.Common.{None}
use Rattle.spf_messages.proofs.Keyed.{validation_found, validation_owned}
use Rattle.spf_messages.specs.Members.{claims_shown}
use Rattle.spf_messages.proofs.validation.read_validation.Goals as goal

pub returns-in_default : goal.returns-in_default
returns-in_default c =
    validation_found c.args.bytes.now None (rw c.in_default.is at c.in_ok-spiffe_id.ensures)

pub returns : goal.returns
returns c =
    validation_owned c.args.bytes.now c.in-Some.field-0.spiffe_id.now c.in_ok-spiffe_id-2.spiffe_id
    (claims_shown c.in-Some.field-0.claims) c.in_ok-claims.claims
    (rw c.in-Some.is at c.in_ok-spiffe_id.ensures) c.in_ok-spiffe_id-2.ensures
    c.in_ok-claims.ensures
