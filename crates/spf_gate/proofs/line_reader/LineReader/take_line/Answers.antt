use Rattle.std.proofs.Common.{◌≡◌, length, rules}
use Rattle.std.specs.Prelude.{string_bytes}
use Rattle.spf_gate.specs.declared.gate_error.GateError.TheVariants as errors
use Rattle.spf_gate.proofs.Taking.{fill_begun, fill_refused, refused_fed, refused_rest, took_fed}
use Rattle.spf_gate.proofs.Taking.{took_nothing, took_rest}
use Rattle.spf_gate.proofs.line_reader.LineReader.take_line.Goals as goal

pub returns-in-Ok-Nothing-clause-takes : goal.returns-in-Ok-Nothing-clause-takes
returns-in-Ok-Nothing-clause-takes g c =
    took_nothing _ _ _ _ (string_bytes c.args.text.now) _ _ _ c.in-Ok-Nothing.ensures.fills
    c.in-Ok-Nothing.field-0-is

pub returns-in-Ok-clause-takes : goal.returns-in-Ok-clause-takes
returns-in-Ok-clause-takes g c =
    took_fed _ _ _ _ _ _ c.in-Ok-Feed.size _ _ _ c.in-Ok-Feed.ensures.fills
    c.in-Ok-Feed.field-0-is c.in-Ok.ensures.text c.in-Ok.ensures.octets c.in-Ok.ensures.rule

pub returns-in-Err-take-clause-takes : goal.returns-in-Err-take-clause-takes
returns-in-Err-take-clause-takes g c =
    refused_fed _ _ _ _ _ (string_bytes c.take.new.text) c.in-Ok-Feed.size _ _ _ _
    c.in-Ok-Feed.ensures.fills
    c.in-Ok-Feed.field-0-is c.in-Err-take.ensures.refused.0 c.in-Err-take.ensures.rule

pub returns-in-Ok-take-clause-takes : goal.returns-in-Ok-take-clause-takes
returns-in-Ok-take-clause-takes g c =
    let size : c.len-size.result ≡ length c.fill_line.new.octets.items = search rules in
    took_rest _ _ _ _ _ _ c.len-size.result _ _ _ c.in-Ok-Rest.ensures.fills
    c.in-Ok-Rest.field-0-is size c.in-Ok-take.ensures.text c.in-Ok-take.ensures.octets
    c.in-Ok-take.ensures.rule

pub returns-in-Err-take-2-clause-takes : goal.returns-in-Err-take-2-clause-takes
returns-in-Err-take-2-clause-takes g c =
    let size : c.len-size.result ≡ length c.fill_line.new.octets.items = search rules in
    refused_rest _ _ _ _ _ (string_bytes c.take-in-Ok-Rest.new.text) c.len-size.result _ _ _ _
    c.in-Ok-Rest.ensures.fills
    c.in-Ok-Rest.field-0-is size c.in-Err-take-2.ensures.refused.0 c.in-Err-take-2.ensures.rule

pub returns-in-Err-clause-takes : goal.returns-in-Err-clause-takes
returns-in-Err-clause-takes g c =
    fill_refused _ _ _ _ _ _ (string_bytes c.args.text.now) c.in-Err.e c.in-Err.ensures.fills

pub returns-in-Err-clause-begun : goal.returns-in-Err-clause-begun
returns-in-Err-clause-begun g c = λ is.
    let same : c.in-Err.e ≡ errors.ReadFault = cc (is) in
    fill_begun _ _ _ _ _ _ c.in-Err.e c.in-Err.ensures.fills same
