use Rattle.std.proofs.Common.{refl, Some}
use Rattle.std.proofs.lemmas.Str.{is_utf8-from_IsUtf8}
use Rattle.spf_api.proofs.Utf8.{is_utf8-false}
use Rattle.spf_messages.proofs.message.text.Goals as goal

pub returns-in-Ok : goal.returns-in-Ok
returns-in-Ok c =
    rw (is_utf8-from_IsUtf8 c.args.octets.now c.in-Ok.ensures.cases.1)
    (λ i. Some (c.in-Ok.ensures.cases.0 i))

pub returns-in-Err : goal.returns-in-Err
returns-in-Err c = rw (is_utf8-false c.args.octets.now c.in-Err.ensures.cases.0) refl
