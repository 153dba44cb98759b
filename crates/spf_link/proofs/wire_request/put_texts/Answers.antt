use Rattle.std.proofs.Common.{length, arith}
use Rattle.std.specs.Int.{w32, to_be_bytes}
use Rattle.spf_api.proofs.Laid.{laid_more, laid_octets}
use Rattle.spf_link.specs.Requests.{field_text, list_text}
use Rattle.spf_link.proofs.wire_request.put_texts.Goals as goal

pub texts-preserved : goal.texts-preserved
texts-preserved c =
    laid_more field_text (λ _. Unit {0}) c.put_number.new.out.items c.texts.out.items
    c.put_text.new.out.items c.args.texts.now c.texts.text-index c.text-item.result
    c.texts.invariant c.texts-test.true c.text-item.is c.in_ok-put_text.ensures tt

pub returns : goal.returns
unfolding list_text
returns c =
    laid_octets field_text (λ _. Unit {0}) c.args.out.now.items
    (to_be_bytes w32 (length c.args.texts.now)) c.put_number.new.out.items c.texts.out.items
    c.args.texts.now
    c.texts.text-index c.texts.invariant (omega arith) c.in_ok-put_number.ensures
