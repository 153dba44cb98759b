use Rattle.std.proofs.Common.{length, arith}
use Rattle.std.specs.Int.{w32, to_be_bytes}
use Rattle.spf_api.proofs.Laid.{laid_more, laid_octets}
use Rattle.spf_link.specs.Requests.{header_text, list_text}
use Rattle.spf_link.proofs.wire_request.put_headers.Goals as goal

pub headers-preserved : goal.headers-preserved
headers-preserved c =
    laid_more header_text (λ _. Unit {0}) c.put_number.new.out.items c.headers.out.items
    c.put_header.new.out.items c.args.headers.now c.headers.header-index c.header-item.result
    c.headers.invariant c.headers-test.true c.header-item.is c.in_ok-put_header.ensures tt

pub returns : goal.returns
unfolding list_text
returns c =
    laid_octets header_text (λ _. Unit {0}) c.args.out.now.items
    (to_be_bytes w32 (length c.args.headers.now)) c.put_number.new.out.items c.headers.out.items
    c.args.headers.now
    c.headers.header-index c.headers.invariant (omega arith) c.in_ok-put_number.ensures
