use Rattle.std.proofs.Common.{◌∙◌, ◌+◌, ◌≤◌, arith, ap, length, take, drop}
use Rattle.std.proofs.lemmas.List.Edits.{length-between}
use Rattle.spf_http2.specs.Reading.{Buffered}
use Rattle.spf_http2.proofs.Parts.{range_take, range_drop}
use Rattle.spf_http2.proofs.buffer.FrameBuffer.take_frame.Goals as goal

pub returns-clause-payload : goal.returns-clause-payload
returns-clause-payload c =
    let b = c.self.inside in
    let pending = ap (λ (v : Buffered). v.pending) c.self.view_is in
    let size = length-between b.octets.items b.start b.end in
    let fits : b.start + 9 + c.args.payload ≤ b.end = omega (arith, ap length pending, size) in
    range_take b.octets.items b.start b.end 9 c.args.payload fits
    ∙ ap (λ l. take c.args.payload (drop 9 l)) pending

pub returns-clause-pending : goal.returns-clause-pending
returns-clause-pending c =
    let b = c.self.inside in
    let pending = ap (λ (v : Buffered). v.pending) c.self.view_is in
    let size = length-between b.octets.items b.start b.end in
    let fits : b.start + 9 + c.args.payload ≤ b.end = omega (arith, ap length pending, size) in
    range_drop b.octets.items b.start (b.start + 9 + c.args.payload) b.end (9 + c.args.payload)
    (omega arith) fits ∙ ap (drop (9 + c.args.payload)) pending
