use Rattle.std.proofs.Common.{◌≡◌, ◌∙◌, ◌+◌, ◌-◌, ◌≤◌, ◌++◌, arith, ap, length, take, rules}
use Rattle.std.proofs.Common.{List, ℕ, length-append, length-take-le}
use Rattle.std.specs.Vec.{with_items}
use Rattle.std.proofs.lemmas.List.{with_items_is, places}
use Rattle.std.proofs.lemmas.Result.{err_from_is_err_and}
use borrow.Rule.Slice.PartMut.{put_mid}
use Rattle.spf_http2.specs.Reading.{Buffered}
use Rattle.spf_http2.proofs.KnownLemmas.{prepend_kept, prepend_moved}
use Rattle.spf_http2.specs.declared.buffer.TheConstants.{FRAME_ROOM}
use Rattle.spf_http2.proofs.Parts.{range_kept, range_more}
use Rattle.spf_http2.proofs.buffer.FrameBuffer.read_more.Goals as goal

pub returns-in_err-n-clause-kept : goal.returns-in_err-n-clause-kept
returns-in_err-n-clause-kept g c =
    let b = c.self.inside in
    let xs = c.deref_mut.result.now in
    let k = length xs - b.end in
    let put = put_mid b.end k xs c.read.new.buf in
    let same : (with_items b.octets put).items ≡ put =
    with_items_is b.octets put (search (rules, places)) in
    prepend_kept _ _ c.args.self.now.pending _ c.in_err-n.ensures.bytes
    (range_kept _ b.octets.items xs c.read.new.buf b.start b.end b.end k same
    c.deref_mut.ensures.value (search rules) (search rules)
    ∙ ap (λ (v : Buffered). v.pending) c.self.view_is)

pub returns-in_err-n-clause-came : goal.returns-in_err-n-clause-came
returns-in_err-n-clause-came g c =
    let b = c.self.inside in
    let xs = c.deref_mut.result.now in
    let k = length xs - b.end in
    let put = put_mid b.end k xs c.read.new.buf in
    let same : (with_items b.octets put).items ≡ put =
    with_items_is b.octets put (search (rules, places)) in
    let pending = range_kept _ b.octets.items xs c.read.new.buf b.start b.end b.end k same
    c.deref_mut.ensures.value (search rules) (search rules) in
    let payload = range_kept _ b.octets.items xs c.read.new.buf b.payload b.start b.end k same
    c.deref_mut.ensures.value (search rules) (search rules) in
    let parts : (List ℕ → List ℕ → Buffered) = λ p q. record {
      payload = p;
      pending = q;
      room = FRAME_ROOM - b.end;
    } in
    let p = err_from_is_err_and c.from_residual.result c.from_residual.ensures.1 in
    rw p.1 ((λ i. parts (payload i) (pending i)) ∙ c.self.view_is)

pub returns-clause-kept : goal.returns-clause-kept
returns-clause-kept g c =
    let b = c.self.inside in
    let xs = c.deref_mut.result.now in
    let k = length xs - b.end in
    let n = c.in_ok-n.n in
    let put = put_mid b.end k xs c.read.new.buf in
    let same : (with_items b.octets put).items ≡ put =
    with_items_is b.octets put (search (rules, places)) in
    prepend_moved _ _ c.args.self.now.pending _ (take n c.read.new.buf)
    c.in_ok-n.ensures.bytes.0
    (range_more _ b.octets.items xs c.read.new.buf b.start b.end k n same c.deref_mut.ensures.value
    (search rules) (search rules) (search rules)
    ∙ ap (λ (v : Buffered). v.pending ++ take n c.read.new.buf) c.self.view_is)

pub returns-clause-came : goal.returns-clause-came
returns-clause-came g c =
    let b = c.self.inside in
    let xs = c.deref_mut.result.now in
    let k = length xs - b.end in
    let n = c.in_ok-n.n in
    let put = put_mid b.end k xs c.read.new.buf in
    let same : (with_items b.octets put).items ≡ put =
    with_items_is b.octets put (search (rules, places)) in
    let is = range_more _ b.octets.items xs c.read.new.buf b.start b.end k n same
    c.deref_mut.ensures.value (search rules) (search rules) (search rules)
    ∙ ap (λ (v : Buffered). v.pending ++ take n c.read.new.buf) c.self.view_is in
    let size : length (take n c.read.new.buf) ≡ n =
    length-take-le n c.read.new.buf (search rules) in
    let room = ap (λ (v : Buffered). v.room) c.self.view_is in
    let fits : b.end + n ≤ FRAME_ROOM = search rules in
    record {
      grown = record { come = take n c.read.new.buf; is = is };
      pending = ap length is ∙ length-append c.args.self.now.pending (take n c.read.new.buf)
          ∙ ap (λ m. length c.args.self.now.pending + m) size;
      room = omega (arith, room);
    }
