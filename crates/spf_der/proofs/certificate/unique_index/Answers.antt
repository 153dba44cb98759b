use Rattle.std.proofs.Common.{sym, ◌∙◌, ap}
use Rattle.std.specs.Prelude.{List, ℕ}
use Rattle.std.specs.Str.{bytes_eq}
use Rattle.spf_der.proofs.Unique.{index_more, index_skip, index_twice}
use Rattle.spf_der.proofs.certificate.unique_index.Goals as goal
use Rattle.spf_der.proofs.certificate.unique_index.Goals.{then-eq+else-is_some, else-eq}

pub returns-then-is_some : goal.returns-then-is_some
returns-then-is_some c =
    let hit = ap (λ (found : List ℕ). bytes_eq found c.args.oid.now) (sym c.as_slice.ensures)
    ∙ sym c.if-eq.ensures in
    rw c.new.ensures
    (index_twice c.args.oid.now c.args.extensions.now c.loop-index.index
    c.index-extensions-index.result c.loop-index.found c.loop-index-test.true
    c.index-extensions-index.is c.loop-index.invariant (sym c.if-is_some.ensures) hit)

pub loop-index-preserved : goal.loop-index-preserved
loop-index-preserved c =
    elim c.if-eq.branch [
      | then-eq+else-is_some w ↦
          let hit = ap (λ (found : List ℕ). bytes_eq found c.args.oid.now) (sym c.as_slice.ensures)
          ∙ sym w.if-eq.ensures in
          rw w.found-is
          (index_more c.args.oid.now c.args.extensions.now c.loop-index.index
          c.index-extensions-index.result c.loop-index.found c.loop-index-test.true
          c.index-extensions-index.is c.loop-index.invariant (sym w.if-is_some.ensures) hit)
      | else-eq w ↦
          let miss = ap (λ (found : List ℕ). bytes_eq found c.args.oid.now) (sym c.as_slice.ensures)
          ∙ sym w.if-eq.ensures in
          rw w.found-is
          (index_skip c.args.oid.now c.args.extensions.now c.loop-index.index
          c.index-extensions-index.result c.loop-index.found c.loop-index-test.true
          c.index-extensions-index.is c.loop-index.invariant miss)
    ]
