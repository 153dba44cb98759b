use Rattle.std.proofs.Common.{◌≡◌, ◌<◌, ◌≤◌, ◌+◌, ◌++◌, arith, length, length-append}
use Rattle.std.proofs.Common.{length-take-le, rules, take, take_all}
use Rattle.std.proofs.KnownBytes.{Consumes-trans}
use Rattle.spf_frame.specs.Parts.{NoPart}
use Rattle.spf_frame.proofs.Parts.{none_from_end}
use Rattle.spf_frame.proofs.Sizes.{cut_octets}
use Rattle.spf_frame.proofs.payload.read_growing.Goals as goal

pub returns-then-more-end-clause-bytes : goal.returns-then-more-end-clause-bytes
returns-then-more-end-clause-bytes g c =
    let read = c.in-Ok-fill.ensures.bytes in
    let before = take c.loop-filled.filled c.loop-filled.octets.items in
    let more = take c.in-Ok-fill.more c.fill.new.buf in
    let given = before ++ more in
    let took = Consumes-trans _ _ _ _ _ c.loop-filled.invariant.2 read.1 in
    let lt : length given < c.args.length =
    omega (
      arith,
      length-append before more,
      length-take-le c.loop-filled.filled c.loop-filled.octets.items c.loop-filled.invariant.0,
      length-take-le c.in-Ok-fill.more c.fill.new.buf read.0,
      c.if-more-end.true,
      c.min-end.ensures,
    ) in
    let all : take c.args.length given ≡ given = take_all c.args.length given (search rules) in (
      given,
      took,
      (
        all,
        none_from_end
            (λ bytes. NoPart (λ p. p) (λ p. length p ≡ c.args.length) bytes
            × (take c.args.length bytes ≡ given)) _ _ given took (read.2 (search rules))
            (cut_octets c.args.length given lt, all),
      ),
    )

pub returns-in-Err-fill-clause-bytes : goal.returns-in-Err-fill-clause-bytes
returns-in-Err-fill-clause-bytes g c =
    let read = c.in-Err-fill.ensures.bytes in
    let before = take c.loop-filled.filled c.loop-filled.octets.items in
    let more = take read.0 c.fill.new.buf in
    let given = before ++ more in
    let fits : c.loop-filled.filled + length c.fill.new.buf ≤ c.args.length =
    grind (
      arith,
      c.fill.auto.buf,
      c.resize.ensures.len,
      c.deref_mut.ensures.len,
      c.min-end.ensures,
      c.in-Ok.ensures,
    ) in
    let lt : length given < c.args.length =
    omega (
      arith,
      length-append before more,
      length-take-le c.loop-filled.filled c.loop-filled.octets.items c.loop-filled.invariant.0,
      length-take-le read.0 c.fill.new.buf (search rules),
      read.1,
      fits,
    ) in (
      given,
      Consumes-trans _ _ _ _ _ c.loop-filled.invariant.2 read.2,
      (take_all c.args.length given (search rules), cut_octets c.args.length given lt),
    )
