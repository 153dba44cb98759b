use Rattle.std.proofs.Common.{take}
use Rattle.spf_link.specs.Requests.{header_text}
use Rattle.spf_api.proofs.Laid.{Laid}
use Rattle.spf_link.proofs.wire_request.put_headers.Given as goal

abbrev pub invariant-headers : goal.invariant-headers
invariant-headers l =
    Laid header_text (λ _. Unit {0}) l.initial.out.items l.out.items (take l.header-index l.headers)
