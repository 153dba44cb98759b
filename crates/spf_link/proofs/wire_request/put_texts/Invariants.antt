use Rattle.std.proofs.Common.{take}
use Rattle.spf_link.specs.Requests.{field_text}
use Rattle.spf_api.proofs.Laid.{Laid}
use Rattle.spf_link.proofs.wire_request.put_texts.Given as goal

abbrev pub invariant-texts : goal.invariant-texts
invariant-texts l =
    Laid field_text (λ _. Unit {0}) l.initial.out.items l.out.items (take l.text-index l.texts)
