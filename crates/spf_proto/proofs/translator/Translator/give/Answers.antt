use Rattle.std.proofs.Common.{◌≡◌, ◌+◌, ◌≤◌, ◌++◌, ◌∙◌, ap, refl, length, take, drop, slice_range}
use Rattle.std.proofs.Common.{arith, rules, length-append, length-drop, length-take-le}
use Rattle.spf_io.proofs.Reading.{read_gives}
use Rattle.spf_proto.proofs.translator.Translator.give.Goals as goal

pub returns-clause-given : goal.returns-clause-given
returns-clause-given g c =
    let xs = c.self.inside.latest.frames.items in
    let at = c.self.inside.at in
    let n = c.min-n.result in
    let rest = drop n c.args.buf.now in
    let after : c.copy_from_slice.new.self ≡ slice_range xs at (at + n) =
    c.copy_from_slice.ensures.after ∙ ap (λ l. slice_range l at (at + n)) c.deref.ensures.value in
    let fits : at + n ≤ length xs = search rules in
    let long : length c.copy_from_slice.new.self ≡ n = search rules in
    let held : c.len.result ≡ length xs = search rules in
    let most : n ≤ length c.args.buf.now = search rules in
    let whole : length (c.copy_from_slice.new.self ++ rest) ≡ length c.args.buf.now =
    omega (
      arith,
      long,
      most,
      length-append c.copy_from_slice.new.self rest,
      length-drop n c.args.buf.now,
    ) in
    let taken : length (take n (c.copy_from_slice.new.self ++ rest)) ≡ n =
    length-take-le n (c.copy_from_slice.new.self ++ rest) (omega (arith, whole, most)) in
    rw (← c.self.view_is) (record {
      front = read_gives xs c.copy_from_slice.new.self rest at n fits after;
      size = taken ∙ omega (arith, whole, held, c.min-n.ensures, length-drop at xs);
      others = refl;
    })
