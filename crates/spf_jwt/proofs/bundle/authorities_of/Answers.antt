use Rattle.std.proofs.lemmas.Result.{err_from_is_err_and}
use Rattle.serde_json.specs.View.{view}
use Rattle.serde_json.specs.declared.value.Value.{Value}
use Rattle.spf_io.proofs.Each.{each_more, each_fails, unless}
use Rattle.spf_jwt.specs.Authority.{key_rule}
use Rattle.spf_jwt.specs.Errors.{is_memory_keys, of_any_kind}
use Rattle.spf_jwt.proofs.Floats.{whole_item}
use Rattle.spf_jwt.proofs.bundle.authorities_of.Goals as goal

pub from_value-requires : goal.from_value-requires
from_value-requires c = record {
  whole = whole_item c.args.keys.now c.loop-key.key-index c.key-item.result c.requires.whole
      c.loop-key-test.true c.key-item.is;
}

pub returns-in_err-authority : goal.returns-in_err-authority
returns-in_err-authority c =
    let p = err_from_is_err_and c.from_residual.result c.from_residual.ensures.1 in
    let e = c.in_err-authority.field-0.0 in
    rw (p.1, p.2)
    (unless (is_memory_keys (of_any_kind e))
    (each_fails (λ (v : Value). key_rule (view v)) c.args.keys.now c.loop-key.key-index
    c.key-item.result c.loop-key.authorities.items (of_any_kind e) c.loop-key.invariant
    c.loop-key-test.true c.key-item.is) c.in_err-authority.ensures)

pub loop-key-preserved : goal.loop-key-preserved
loop-key-preserved c =
    rw c.in_ok-push.ensures.items
    (each_more (λ (v : Value). key_rule (view v)) c.args.keys.now c.loop-key.key-index
    c.key-item.result c.loop-key.authorities.items c.in_ok-authority.authority
    c.loop-key.invariant c.loop-key-test.true c.key-item.is c.in_ok-authority.ensures)
