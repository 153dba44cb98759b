use Rattle.std.proofs.Common.{sym, ap, ◌∙◌}
use Rattle.serde_json.specs.Read.{read}
use Rattle.spf_jwt.proofs.Texts.{of_text, of_no_text, unless_memory}
use Rattle.spf_jwt.proofs.json.read.Goals as goal

pub returns-in_default : goal.returns-in_default
returns-in_default c = of_no_text c.args.bytes.now c.in_default.ensures.cases.0

pub returns-in-Ok-from_str : goal.returns-in-Ok-from_str
returns-in-Ok-from_str c =
    let text = c.in-Ok.ensures.cases in
    of_text c.args.bytes.now text.1 ∙ ap read (sym text.0) ∙ c.in-Ok-from_str.ensures.ok

pub returns-in-Err : goal.returns-in-Err
returns-in-Err c =
    let text = c.in-Ok.ensures.cases in
    unless_memory c.fault_of.result c.in-Err.error c.fault_of.ensures
    (λ other. of_text c.args.bytes.now text.1 ∙ ap read (sym text.0) ∙ c.in-Err.ensures.err other)
