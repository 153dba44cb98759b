use Rattle.std.proofs.Common.{◌≡◌, ◌≤◌, ◌^◌, length, take, subst, arith}
use Rattle.std.specs.Int.{w32, to_be_bytes}
use Rattle.std.specs.Io.KnownBytes.{Consumes}
use Rattle.std.proofs.KnownBytes.{Consumes-trans}
use Rattle.spf_frame.specs.Frames.{sized, FitsFrame, sized_front}
use Rattle.spf_view.proofs.FrontLemmas.{payload_front}
use Rattle.std.proofs.lemmas.Result.{err_from_is_err_and}
use Rattle.spf_frame.proofs.Parts.{first_fails, second_fails}
use Rattle.spf_frame.proofs.Sizes.{sized_first, sized_second, sized_whole}
use Rattle.spf_frame.proofs.frame.read_sized.Goals as goal

pub returns-in_err-length-clause-bytes : goal.returns-in_err-length-clause-bytes
returns-in_err-length-clause-bytes g c =
    let p = err_from_is_err_and c.from_residual.result c.from_residual.ensures.1 in
    rw (p.1, p.2)
    (first_fails (to_be_bytes w32) (λ n. n ≤ 2 ^ 24) sized FitsFrame sized_front _ _
    c.in_err-length.field-0.0 sized_first c.in_err-length.ensures.bytes)

pub returns-in_err-read-clause-bytes : goal.returns-in_err-read-clause-bytes
returns-in_err-read-clause-bytes g c =
    let p = err_from_is_err_and c.from_residual-in_err-read.result
    c.from_residual-in_err-read.ensures.1 in
    let first = c.in_ok-length.ensures.bytes in
    rw (p.1, p.2)
    (second_fails (λ p. p) (λ p. length p ≡ c.in_ok-length.length) (take c.in_ok-length.length)
    sized FitsFrame sized_front _ _ _ _ c.in_err-read.field-0.0 first.1
    (sized_second c.in_ok-length.length first.0)
    (λ ys. payload_front c.in_ok-length.length ys first.0) c.in_err-read.ensures.bytes)

pub returns-clause-bytes : goal.returns-clause-bytes
returns-clause-bytes g c =
    let n = c.in_ok-length.length in
    let p = c.read.new.self in
    let first = c.in_ok-length.ensures.bytes in
    let second = c.in_ok-read.ensures.bytes in (
      omega (arith, first.0, second.0),
      subst (Consumes _ _) (sized_whole n p second.0) (Consumes-trans _ _ _ _ _ first.1 second.1),
    )
