use Rattle.std.proofs.Common.{◌≡◌, ◌≤◌, ◌-◌, ◌++◌, ◌∙◌, ℕ, List, ap, subst, length, take, arith}
use Rattle.std.proofs.Common.{rules}
use Rattle.std.specs.Prelude.{decimal, drop}
use Rattle.std.proofs.lemmas.Fmt.{length-decimal-le}
use Rattle.spf_io.specs.Outside.{PutAppends}
use Rattle.spf_feed.proofs.ShownLemmas.{number_before, written_back, cut_after, numbered}
use Rattle.spf_feed.proofs.line_buffer.LineBuffer.put_numbered.Goals as goal

pub write_digits-start-requires : goal.write_digits-start-requires
write_digits-start-requires g c =
    let digits : length (decimal c.args.number) ≤ 20 = search (rules, length-decimal-le 20) in
    let within : c.args.room ≤ c.self.inside.end = search rules in
    let fits : c.self.inside.end ≤ length c.deref_mut.result.now = search rules in
    (omega (arith, digits, c.requires.number), omega (arith, within, fits))

pub returns-clause-bytes : goal.returns-clause-bytes
returns-clause-bytes g c =
    let octets = c.self.inside.octets in
    let buf = c.write_digits-start.new.buf in
    let whole = c.deref_mut.result.now in
    let end = c.self.inside.end in
    let start = c.write_digits-start.result in
    let digits = decimal c.args.number in
    let same : length buf ≡ length octets.items = search rules in
    let size : octets.len ≡ length octets.items = search rules in
    let front : take end whole ≡ c.args.self.now = search rules in
    let within : c.args.room ≤ end = search rules in
    subst
    (λ (b : List ℕ). PutAppends (g.K.Sink.held c.args.sink.now) (g.K.Sink.held c.put.new.self)
    c.put.result b)
    (ap (λ (l : List ℕ). take (end - start) (drop start l))
    (c.deref.ensures.value ∙ written_back buf octets.items octets.len same size)
    ∙ numbered whole buf digits start c.args.room end c.write_digits-start.ensures.start within
    c.write_digits-start.ensures.written
    ∙ ap (λ (l : List ℕ). digits ++ drop c.args.room l) front)
    c.put.ensures.bytes

pub returns-clause-text : goal.returns-clause-text
returns-clause-text g c =
    let octets = c.self.inside.octets in
    let buf = c.write_digits-start.new.buf in
    let whole = c.deref_mut.result.now in
    let end = c.self.inside.end in
    let same : length buf ≡ length octets.items = search rules in
    let size : octets.len ≡ length octets.items = search rules in
    let front : take end octets.items ≡ c.args.self.now = search rules in
    let within : c.args.room ≤ end = search rules in
    ap (λ l. drop c.args.room (take end l)) (written_back buf octets.items octets.len same size)
    ∙ cut_after octets.items buf c.args.room end within
    (number_before whole buf (decimal c.args.number) c.write_digits-start.result c.args.room
    c.write_digits-start.ensures.start c.write_digits-start.ensures.written
    ∙ ap (drop c.args.room) c.deref_mut.ensures.value)
    ∙ ap (drop c.args.room) front
