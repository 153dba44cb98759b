use Rattle.std.proofs.Common.{sym, ap, ◌∙◌, ◌++◌, List, ℕ, take}
use Rattle.spf_watch.proofs.Searched.{avoids_all, cut_at, taken_with}
use Rattle.spf_watch.proofs.TallyLemmas.{piece_written, line_written, nothing_kept}
use Rattle.spf_watch.proofs.tally.Tally.take_line.Goals as goal
use Rattle.spf_watch.proofs.tally.Tally.take_line.Goals.{then-is_empty}
use Rattle.spf_watch.proofs.tally.Tally.take_line.Goals.{else-is_empty+in_ok-extend_from_slice-2}

pub invariant_of-self-in_default : goal.invariant_of-self-in_default
invariant_of-self-in_default c =
    piece_written c.self.inside.written.bytes c.append.new.self.bytes c.args.piece.now
    c.self.inside.counts.revision c.self.inside.counts.withdrawn c.self.inside.unfinished.items
    c.extend_from_slice.new.self.items
    c.self.invariant (avoids_all 10 c.args.piece.now c.in_default.ensures) c.append.ensures
    c.in_ok-extend_from_slice.ensures.items

pub invariant_of-self-2 : goal.invariant_of-self-2
invariant_of-self-2 c =
    let piece = c.args.piece.now in
    let k = c.in-Some.index in
    let inside = c.self.inside in
    let avoids = (cut_at 10 piece k c.in-Some.ensures.0 c.in-Some.ensures.1).avoids in
    let with_feed =
    ap (λ (l : List ℕ). inside.written.bytes ++ l)
    (taken_with 10 piece k c.in-Some.ensures.0 c.in-Some.ensures.1) in
    elim c.if-is_empty.branch [
      | then-is_empty w ↦
          (let empty = nothing_kept inside.unfinished.items inside.unfinished.len
          inside.unfinished.ok.0 w.if-is_empty.ensures in
          let told = rw w.self-inside-is at c.append-2.ensures in
          rw w.self-inside-is
          (line_written inside.written.bytes c.append-2.new.self.bytes (take k piece)
          inside.counts.revision inside.counts.withdrawn w.add.new.self.revision
          w.add.new.self.withdrawn inside.unfinished.items (take k piece) inside.unfinished.items
          c.self.invariant avoids (told ∙ with_feed)
          (ap (λ (l : List ℕ). l ++ take k piece) (sym empty)) w.add.ensures.revision
          w.add.ensures.withdrawn empty))
      | else-is_empty+in_ok-extend_from_slice-2 w ↦
          (let told = rw w.self-inside-is at c.append-2.ensures in
          rw w.self-inside-is
          (line_written inside.written.bytes c.append-2.new.self.bytes (take k piece)
          inside.counts.revision inside.counts.withdrawn w.add-else-is_empty.new.self.revision
          w.add-else-is_empty.new.self.withdrawn inside.unfinished.items w.as_slice.result.now
          w.clear.new.self.items
          c.self.invariant avoids (told ∙ with_feed)
          (w.as_slice.ensures.value ∙ w.in_ok-extend_from_slice-2.ensures.items)
          w.add-else-is_empty.ensures.revision w.add-else-is_empty.ensures.withdrawn
          w.clear.ensures.items))
    ]
