use Rattle.std.proofs.Common.{◌≡◌, ◌∙◌, ◌≤◌, ◌+◌, ◌++◌, sym, ap, length}
use Rattle.std.proofs.Common.{drop, length-take-le, length-drop, arith}
use Rattle.std.proofs.KnownBytes.{Keeps-trans, prepend_known-read}
use Rattle.spf_http2.specs.Frames.{header_at, header_text}
use Rattle.spf_http2.proofs.HeaderLemmas.{none_told, short_header, told_header, header_stays}
use Rattle.spf_http2.proofs.HeaderLemmas.{text_stays, told_more, short_payload, frame_split}
use Rattle.spf_http2.proofs.read.read_frame.Goals as goal

pub returns-then-is_empty-clause-quiet : goal.returns-then-is_empty-clause-quiet
returns-then-is_empty-clause-quiet g c told = (c.gather.ensures.quiet (told_header _ told)).0

pub returns-else-is_empty-clause-read : goal.returns-else-is_empty-clause-read
returns-else-is_empty-clause-read g c =
    let end = rw c.in-Ok-false.field-0-test at c.in-Ok-false.ensures.enough in
    (c.gather.ensures.kept, short_header _ end.0, end.1)

pub returns-else-is_empty-clause-quiet : goal.returns-else-is_empty-clause-quiet
returns-else-is_empty-clause-quiet g c told = (c.gather.ensures.quiet (told_header _ told)).0

pub returns-in-Err-clause-read : goal.returns-in-Err-clause-read
returns-in-Err-clause-read g c =
    (c.gather.ensures.kept, short_header _ c.in-Err.ensures.fault)

pub returns-in-Err-clause-quiet : goal.returns-in-Err-clause-quiet
returns-in-Err-clause-quiet g c told = (c.gather.ensures.quiet (told_header _ told)).0

pub unreachable-requires : goal.unreachable-requires
unreachable-requires g c =
    none_told c.gather.new.buffer.pending
    (rw c.in-Ok-true.field-0-test at c.in-Ok-true.ensures.enough)
    (sym c.in_default.is ∙ c.read_header.ensures.exact ∙ ap header_at c.pending-2.ensures)

pub returns-then-header-gt-MAX_PAYLOAD-clause-quiet
    : goal.returns-then-header-gt-MAX_PAYLOAD-clause-quiet
returns-then-header-gt-MAX_PAYLOAD-clause-quiet g c told =
    (c.gather.ensures.quiet (told_header _ told)).0

pub returns-in-Ok-false-gather-clause-read : goal.returns-in-Ok-false-gather-clause-read
returns-in-Ok-false-gather-clause-read g c =
    let h = c.in-Some.header in
    let first = sym (c.in-Some.ensures.exact ∙ ap header_at c.pending-2.ensures) in
    let second = header_stays _ _ h c.gather-2.ensures.grown first in
    let end = rw c.in-Ok-false-gather.field-0-test at c.in-Ok-false-gather.ensures.enough in (
      Keeps-trans _ _ _ c.gather.ensures.kept c.gather-2.ensures.kept,
      short_payload _ h second c.if-header-gt-MAX_PAYLOAD.false end.0,
      end.1,
    )

pub returns-in-Ok-false-gather-clause-quiet : goal.returns-in-Ok-false-gather-clause-quiet
returns-in-Ok-false-gather-clause-quiet g c told =
    let h = c.in-Some.header in
    let first = sym (c.in-Some.ensures.exact ∙ ap header_at c.pending-2.ensures) in
    let same = c.gather.ensures.quiet (told_header _ told) in
    (c.gather-2.ensures.quiet
    (told_more _ _ h same.1 first c.if-header-gt-MAX_PAYLOAD.false told)).0 ∙ same.0

pub returns-in-Err-gather-clause-read : goal.returns-in-Err-gather-clause-read
returns-in-Err-gather-clause-read g c =
    let h = c.in-Some.header in
    let first = sym (c.in-Some.ensures.exact ∙ ap header_at c.pending-2.ensures) in
    let second = header_stays _ _ h c.gather-2.ensures.grown first in (
      Keeps-trans _ _ _ c.gather.ensures.kept c.gather-2.ensures.kept,
      short_payload _ h second c.if-header-gt-MAX_PAYLOAD.false c.in-Err-gather.ensures.fault,
    )

pub returns-in-Err-gather-clause-quiet : goal.returns-in-Err-gather-clause-quiet
returns-in-Err-gather-clause-quiet g c told =
    let h = c.in-Some.header in
    let first = sym (c.in-Some.ensures.exact ∙ ap header_at c.pending-2.ensures) in
    let same = c.gather.ensures.quiet (told_header _ told) in
    (c.gather-2.ensures.quiet
    (told_more _ _ h same.1 first c.if-header-gt-MAX_PAYLOAD.false told)).0 ∙ same.0

pub returns-clause-quiet : goal.returns-clause-quiet
returns-clause-quiet g c told =
    let h = c.in-Some.header in
    let first = sym (c.in-Some.ensures.exact ∙ ap header_at c.pending-2.ensures) in
    let same = c.gather.ensures.quiet (told_header _ told) in
    (c.gather-2.ensures.quiet
    (told_more _ _ h same.1 first c.if-header-gt-MAX_PAYLOAD.false told)).0 ∙ same.0

pub returns-clause-read : goal.returns-clause-read
returns-clause-read g c =
    let h = c.in-Some.header in
    let pending = c.gather-2.new.buffer.pending in
    let old = c.gather.new.buffer.pending in
    let long : 9 ≤ length old = rw c.in-Ok-true.field-0-test at c.in-Ok-true.ensures.enough in
    let whole : 9 + h.length ≤ length pending =
    rw c.in-Ok-true-gather.field-0-test at c.in-Ok-true-gather.ensures.enough in
    let text : old ≡ header_text h ++ drop 9 old =
    sym c.pending-2.ensures ∙ c.in-Some.ensures.text
    ∙ ap (λ l. header_text h ++ drop 9 l) c.pending-2.ensures in
    let now = text_stays old pending (header_text h) c.gather-2.ensures.grown long text in
    let size : length c.take_frame.new.self.payload ≡ h.length =
    ap length c.take_frame.ensures.payload
    ∙ length-take-le h.length (drop 9 pending) (omega (arith, length-drop 9 pending)) in
    let payload = c.take_frame.new.self.payload in
    let left = c.take_frame.new.self.pending in
    let front : pending ≡ (header_text h ++ payload) ++ left =
    frame_split pending (header_text h) h.length now
    ∙ ap (λ l. (header_text h ++ l) ++ drop (9 + h.length) pending)
    (sym c.take_frame.ensures.payload)
    ∙ ap (λ l. (header_text h ++ payload) ++ l) (sym c.take_frame.ensures.pending) in (
      record {
        header = c.in-Some.ensures.fits;
        says = sym size;
        short = omega (arith, size, c.if-header-gt-MAX_PAYLOAD.false);
      },
      (prepend_known-read _ _ pending c.take_frame.new.self.pending _ ⊥
          (Keeps-trans _ _ _ c.gather.ensures.kept c.gather-2.ensures.kept) front
          (λ no. absurd no)).0,
    )
