use Rattle.std.proofs.Common.{◌≡◌, ◌<◌, arith, length, length-take-le, rules, take, take_all}
use Rattle.spf_frame.proofs.Sizes.{cut_octets}
use Rattle.spf_frame.proofs.payload.read_front.Goals as goal

pub returns-in-Err-clause-bytes : goal.returns-in-Err-clause-bytes
returns-in-Err-clause-bytes g c =
    let read = c.in-Err.ensures.bytes in
    let buf = c.fill.new.buf in
    let given = take read.0 buf in
    let size : length buf ≡ c.args.length = search rules in
    let lt : length given < c.args.length =
    omega (arith, length-take-le read.0 buf (search rules), read.1, size) in
    let whole = take_all c.args.length given (search rules) in
    (given, read.2, (whole, cut_octets c.args.length given lt))
