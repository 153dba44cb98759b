use Rattle.std.proofs.Common.{rules}
use Rattle.std.proofs.lemmas.Str.{utf8_valid_len-IsUtf8}
use Rattle.spf_gate.specs.Lines.{text_rule}
use Rattle.spf_gate.proofs.line_reader.line_text.Goals as goal

pub returns-in-Ok-clause-rule : goal.returns-in-Ok-clause-rule
unfolding text_rule
returns-in-Ok-clause-rule c =
    search (rules, utf8_valid_len-IsUtf8 c.args.octets.now c.in-Ok.ensures.cases.1)
