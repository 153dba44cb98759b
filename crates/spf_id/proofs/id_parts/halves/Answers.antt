use Rattle.std.proofs.Common.{length, drop, sym, ap, ◌∙◌, arith, refl}
use Rattle.std.proofs.lemmas.List.{drop_all}
use Rattle.std.specs.Prelude.{Some, None}
use Rattle.std.specs.List.{before_first}
use Rattle.spf_id.specs.Rule.{is_slash}
use Rattle.spf_id.proofs.FirstIndex.{first_index, front_whole, front_length}
use Rattle.spf_id.proofs.id_parts.halves.Goals as goal

pub returns-in-None-clause-domain : goal.returns-in-None-clause-domain
returns-in-None-clause-domain c =
    sym (front_whole is_slash c.args.text.now
    (first_index 47 c.args.text.now None (rw c.as_bytes.ensures.value at c.in-None.ensures)))

pub returns-in-None-clause-path : goal.returns-in-None-clause-path
returns-in-None-clause-path c =
    let index =
    first_index 47 c.args.text.now None (rw c.as_bytes.ensures.value at c.in-None.ensures) in
    let n = front_length is_slash c.args.text.now (omega arith) in
    sym (drop_all (length (before_first is_slash c.args.text.now)) c.args.text.now (omega arith))

pub returns-in-Some-clause-domain : goal.returns-in-Some-clause-domain
returns-in-Some-clause-domain c =
    let index =
    first_index 47 c.args.text.now (Some c.in-Some.at)
    (rw c.as_bytes.ensures.value at c.in-Some.ensures) in
    c.split_at.ensures.front ∙ rw index.1 refl

pub returns-in-Some-clause-path : goal.returns-in-Some-clause-path
returns-in-Some-clause-path c =
    let index =
    first_index 47 c.args.text.now (Some c.in-Some.at)
    (rw c.as_bytes.ensures.value at c.in-Some.ensures) in
    let n = front_length is_slash c.args.text.now (omega (arith, index.0, index.1)) in
    c.split_at.ensures.back ∙ sym (ap (λ m. drop m c.args.text.now) (n ∙ index.1))
