use Rattle.std.proofs.Common.{◌≡◌, ◌∙◌, ap, length, rules}
use Rattle.std.specs.Prelude.{decimal, drop}
use Rattle.std.proofs.lemmas.Fmt.{length-decimal-le}
use Rattle.spf_feed.proofs.ShownLemmas.{number_before, written_back}
use Rattle.spf_jwt_feed.proofs.line.NumberedLine.put.Goals as goal

pub write_digits-start-requires : goal.write_digits-start-requires
write_digits-start-requires g c = search (rules, length-decimal-le 20)

pub returns-clause-text : goal.returns-clause-text
returns-clause-text g c =
    let octets = c.self.inside.octets in
    let buf = c.write_digits-start.new.buf in
    let same : length buf ≡ length octets.items = search rules in
    let size : octets.len ≡ length octets.items = search rules in
    ap (drop 20) (written_back buf octets.items octets.len same size)
    ∙ number_before c.deref_mut.result.now buf (decimal c.args.number) c.write_digits-start.result
    20 c.write_digits-start.ensures.start c.write_digits-start.ensures.written
    ∙ ap (drop 20) c.deref_mut.ensures.value ∙ c.self.view_is
