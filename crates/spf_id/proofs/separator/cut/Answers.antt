use Rattle.std.proofs.Common.{◌+◌, sym, ◌∙◌, refl}
use Rattle.std.proofs.lemmas.List.{take_rest}
use Rattle.std.specs.Prelude.{Some, None, ◌==◌}
use Rattle.spf_id.proofs.FirstIndex.{first_index, front_whole}
use Rattle.spf_id.proofs.separator.cut.Goals as goal

pub returns-in-None-clause-front : goal.returns-in-None-clause-front
returns-in-None-clause-front c =
    sym (front_whole (λ x. x == c.args.separator) c.args.octets.now
    (first_index c.args.separator c.args.octets.now None c.in-None.ensures))

pub returns-in-None-clause-rest : goal.returns-in-None-clause-rest
returns-in-None-clause-rest c =
    first_index c.args.separator c.args.octets.now None c.in-None.ensures

pub returns-in-Some-clause-front : goal.returns-in-Some-clause-front
returns-in-Some-clause-front c =
    let index =
    first_index c.args.separator c.args.octets.now (Some c.in-Some.at) c.in-Some.ensures in
    rw index.1 refl

pub returns-in-Some-clause-rest : goal.returns-in-Some-clause-rest
returns-in-Some-clause-rest c =
    let index =
    first_index c.args.separator c.args.octets.now (Some c.in-Some.at) c.in-Some.ensures in
    (rw index.1 index.0, take_rest c.args.octets.now (c.in-Some.at + 1) ∙ rw index.1 refl)
