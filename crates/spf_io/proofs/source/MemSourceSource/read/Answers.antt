use Rattle.std.proofs.Common.{◌≡◌, ◌+◌, ◌≤◌, ◌∙◌, ap, sym, length, slice_range, arith, rules}
use Rattle.std.proofs.Common.{option_map, drop_of_length-le}
use Rattle.spf_io.proofs.Reading.{read_gives, cut_to_none, none_left}
use Rattle.spf_io.proofs.source.MemSourceSource.read.Goals as goal

pub returns-clause-bytes : goal.returns-clause-bytes
returns-clause-bytes c =
    let xs = c.self.inside.bytes.items in
    let at = c.self.inside.at in
    let n = c.within-n.result in
    let after : c.copy_from_slice.new.self ≡ slice_range xs at (at + n) =
    c.copy_from_slice.ensures.after ∙ ap (λ l. slice_range l at (at + n)) c.deref-3.ensures.value in
    let long : length c.copy_from_slice.new.self ≡ n = search rules in
    rw (← c.self.view_is) (
      read_gives xs c.copy_from_slice.new.self _ at n (search rules) after,
      λ none room. let nothing : c.min-room.result ≡ 0 =
          cut_to_none (option_map (λ r. r.now) c.get.result) c.min-room.result
          (sym c.within-n.ensures ∙ none) in
          let le : length xs ≤ at =
          none_left c.copy_from_slice.new.self c.args.buf.now n (length xs) at c.min-room.result
          (search rules) nothing long none room in
          drop_of_length-le xs {i = at + n} (omega arith),
    )
