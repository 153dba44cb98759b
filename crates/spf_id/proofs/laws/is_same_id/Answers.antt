use Rattle.std.proofs.Common.{ap}
use Rattle.std.proofs.lemmas.Bool.Decides.{Decides-at}
use Rattle.spf_id.specs.Id.{id_text}
use Rattle.spf_id.proofs.Exact.{id_exact, one_id}
use Rattle.spf_id.proofs.laws.is_same_id.Goals as goal

pub returns-clause-parts : goal.returns-clause-parts
returns-clause-parts c = Decides-at c.eq.result _ c.eq.ensures (id_exact c.args.a.now c.args.b.now)

pub returns-clause-text : goal.returns-clause-text
returns-clause-text c =
    let parts = Decides-at c.eq.result _ c.eq.ensures (id_exact c.args.a.now c.args.b.now) in (
      λ h. ap id_text (parts.0 h),
      λ e. parts.1
          (one_id c.args.a.now c.args.b.now c.as_str-a.result.now c.as_str-b.result.now
          c.as_str-a.ensures.text c.as_str-a.ensures.rule c.as_str-b.ensures.text
          c.as_str-b.ensures.rule e),
    )
