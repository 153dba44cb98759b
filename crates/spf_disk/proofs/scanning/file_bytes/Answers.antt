use Rattle.std.proofs.Common.{◌≡◌, ℕ, ◌+◌, ◌-◌, ◌<◌, ◌≤◌, List, ◌++◌, length, take}
use Rattle.std.proofs.Common.{refl, sym, ap, ◌∙◌, subst, length-append, length-drop, length-take-le}
use Rattle.std.proofs.Common.{drop, arith, rules, take-add, take_all}
use Rattle.std.proofs.lemmas.Result.{err_from_is_err_and}
use Rattle.spf_disk.specs.Image.{Image, IsRead, bytes_of}
use Rattle.spf_disk.proofs.Looking.{looks_start, looks_more}
use Rattle.spf_disk.proofs.Moments.{later_rose}
use Rattle.spf_disk.proofs.scanning.file_bytes.Goals as goal

read_on : (all bytes buf : List ℕ) (at n : ℕ) → at ≡ length bytes
    → bytes ≡ take (length bytes) all → IsRead (drop at all) n buf → length bytes ≤ length all
    → (bytes ++ take n buf ≡ take (length (bytes ++ take n buf)) all)
    × (length (bytes ++ take n buf) ≤ length all)
read_on all bytes buf at n here is read le =
    let got : take n buf ≡ take n (drop (length bytes) all) = rw here at read.octets in
    let size : length (bytes ++ take n buf) ≡ length bytes + n =
    length-append bytes (take n buf)
    ∙ ap (λ (k : ℕ). length bytes + k) (length-take-le n buf read.fits) in (
      ap (λ (l : List ℕ). bytes ++ l) got
          ∙ ap (λ (l : List ℕ). l ++ take n (drop (length bytes) all)) is
          ∙ sym (take-add (length bytes) n all) ∙ ap (λ (k : ℕ). take k all) (sym size),
      omega (arith, size, here, le, read.inside, length-drop at all),
    )

read_less : (all bytes buf new : List ℕ) (at n : ℕ) → at ≡ length bytes
    → new ≡ bytes ++ take n buf → 0 < n → IsRead (drop at all) n buf
    → length all - length new < length all - length bytes
read_less all bytes buf new at n here is some read = omega (
  arith,
  ap length is,
  length-append bytes (take n buf),
  length-take-le n buf read.fits,
  read.inside,
  length-drop at all,
)

read_all : (all bytes buf : List ℕ) (at n : ℕ) → at ≡ length bytes
    → bytes ≡ take (length bytes) all → n ≡ 0 → 0 < length buf → IsRead (drop at all) n buf
    → bytes ≡ all
read_all all bytes buf at n here is none room read =
    is ∙ take_all (length bytes) all (grind (arith, read.some room, length-drop at all))

pub loop-bytes-init : goal.loop-bytes-init
loop-bytes-init g c = rw c.new-bytes.ensures.items (
  refl,
  omega arith,
  looks_start g.D.Disk.seen g.D.Disk.may_leave g.D.Disk.moment g.D.Disk.left_since
      c.args.disk.now g.met.D.Disk.only_now,
  omega arith,
)

pub returns-in_err-count-clause-bytes : goal.returns-in_err-count-clause-bytes
returns-in_err-count-clause-bytes g c =
    let p = err_from_is_err_and c.from_residual.result c.from_residual.ensures.1 in rw p.1 tt

pub returns-in_err-count-clause-free : goal.returns-in_err-count-clause-free
returns-in_err-count-clause-free g c =
    let p = err_from_is_err_and c.from_residual.result c.from_residual.ensures.1 in
    rw (p.1, p.2) refl

pub returns-in_err-count-clause-looks : goal.returns-in_err-count-clause-looks
returns-in_err-count-clause-looks g c =
    looks_more g.D.Disk.seen g.D.Disk.may_leave g.D.Disk.moment g.D.Disk.left_since
    c.args.disk.now c.loop-bytes.disk c.read.new.self c.loop-bytes.invariant.2
    c.read.ensures.seen c.read.ensures.crash c.read.ensures.time

pub returns-in_err-count-clause-cause : goal.returns-in_err-count-clause-cause
returns-in_err-count-clause-cause g c =
    let p = err_from_is_err_and c.from_residual.result c.from_residual.ensures.1 in
    let before = c.loop-bytes.invariant.3 in
    let cause = c.in_err-count.ensures.cause in
    rw p.1 (record {
      later = omega (arith, before, cause.later);
      fault = λ _. later_rose _ _ _ before (cause.failed (search rules));
    })

pub returns-then-count-eq0-clause-bytes : goal.returns-then-count-eq0-clause-bytes
returns-then-count-eq0-clause-bytes g c =
    let read = subst
    (λ (i : Image). IsRead (drop c.len.result (bytes_of i c.args.file)) c.in_ok-count.count
    c.read.new.buf)
    c.loop-bytes.invariant.2.same c.in_ok-count.ensures.octets in
    read_all _ _ c.read.new.buf c.len.result _ (search rules) c.loop-bytes.invariant.0
    c.if-count-eq0.true (search rules) read

pub returns-then-count-eq0-clause-looks : goal.returns-then-count-eq0-clause-looks
returns-then-count-eq0-clause-looks g c =
    looks_more g.D.Disk.seen g.D.Disk.may_leave g.D.Disk.moment g.D.Disk.left_since
    c.args.disk.now c.loop-bytes.disk c.read.new.self c.loop-bytes.invariant.2
    c.read.ensures.seen c.read.ensures.crash c.read.ensures.time

pub returns-then-count-eq0-clause-cause : goal.returns-then-count-eq0-clause-cause
returns-then-count-eq0-clause-cause g c = record {
  later = omega (arith, c.loop-bytes.invariant.3, c.in_ok-count.ensures.cause.later);
  fault = λ e. absurd cc;
}

pub slice_bounds-piece-end : goal.slice_bounds-piece-end
slice_bounds-piece-end g c = c.in_ok-count.ensures.octets.fits

pub slice_bounds-extend_from_slice-end : goal.slice_bounds-extend_from_slice-end
slice_bounds-extend_from_slice-end g c =
    sym (length-take-le c.in_ok-count.count c.read.new.buf c.in_ok-count.ensures.octets.fits)

pub loop-bytes-smaller : goal.loop-bytes-smaller
loop-bytes-smaller g c =
    let read = subst
    (λ (i : Image). IsRead (drop c.len.result (bytes_of i c.args.file)) c.in_ok-count.count
    c.read.new.buf)
    c.loop-bytes.invariant.2.same c.in_ok-count.ensures.octets in
    read_less _ c.loop-bytes.bytes.items c.read.new.buf c.extend_from_slice.new.self.items
    c.len.result c.in_ok-count.count (search rules) c.in_ok-extend_from_slice.ensures.items
    (search rules) read

pub loop-bytes-preserved : goal.loop-bytes-preserved
loop-bytes-preserved g c =
    let all = bytes_of (g.D.Disk.seen c.args.disk.now) c.args.file in
    let read = subst
    (λ (i : Image). IsRead (drop c.len.result (bytes_of i c.args.file)) c.in_ok-count.count
    c.read.new.buf)
    c.loop-bytes.invariant.2.same c.in_ok-count.ensures.octets in
    let more = read_on all c.loop-bytes.bytes.items c.read.new.buf c.len.result
    c.in_ok-count.count (search rules) c.loop-bytes.invariant.0 read c.loop-bytes.invariant.1 in
    rw c.in_ok-extend_from_slice.ensures.items (
      more.0,
      more.1,
      looks_more g.D.Disk.seen g.D.Disk.may_leave g.D.Disk.moment g.D.Disk.left_since
          c.args.disk.now c.loop-bytes.disk c.read.new.self c.loop-bytes.invariant.2
          c.read.ensures.seen c.read.ensures.crash c.read.ensures.time,
      omega (arith, c.loop-bytes.invariant.3, c.in_ok-count.ensures.cause.later),
    )

pub returns-in_err-extend_from_slice-clause-bytes
    : goal.returns-in_err-extend_from_slice-clause-bytes
returns-in_err-extend_from_slice-clause-bytes g c =
    let p = err_from_is_err_and c.from_residual-in_err-extend_from_slice.result
    c.from_residual-in_err-extend_from_slice.ensures.1 in
    rw p.1 tt

pub returns-in_err-extend_from_slice-clause-free
    : goal.returns-in_err-extend_from_slice-clause-free
returns-in_err-extend_from_slice-clause-free g c =
    let p = err_from_is_err_and c.from_residual-in_err-extend_from_slice.result
    c.from_residual-in_err-extend_from_slice.ensures.1 in
    rw (p.1, p.2) refl

pub returns-in_err-extend_from_slice-clause-looks
    : goal.returns-in_err-extend_from_slice-clause-looks
returns-in_err-extend_from_slice-clause-looks g c =
    looks_more g.D.Disk.seen g.D.Disk.may_leave g.D.Disk.moment g.D.Disk.left_since
    c.args.disk.now c.loop-bytes.disk c.read.new.self c.loop-bytes.invariant.2
    c.read.ensures.seen c.read.ensures.crash c.read.ensures.time

pub returns-in_err-extend_from_slice-clause-cause
    : goal.returns-in_err-extend_from_slice-clause-cause
returns-in_err-extend_from_slice-clause-cause g c =
    let p = err_from_is_err_and c.from_residual-in_err-extend_from_slice.result
    c.from_residual-in_err-extend_from_slice.ensures.1 in
    rw (p.1, p.2) (record {
      later = omega (arith, c.loop-bytes.invariant.3, c.in_ok-count.ensures.cause.later);
      fault = λ e. absurd cc;
    })
