use Rattle.std.proofs.lemmas.List.{append-nil, take_all, take_more}
use Rattle.std.proofs.lemmas.List.Concat.{flat_map-append}
use Rattle.spf_der.specs.Value.{value_text}
use Rattle.spf_der.proofs.writer.uri_names.Goals as goal

pub loop-uri-preserved : goal.loop-uri-preserved
loop-uri-preserved c =
    let uri = c.uri-item.result in
    rw (
      take_more c.args.uris.now c.loop-uri.uri-index uri c.loop-uri-test.true,
      ← c.uri-item.is,
      flat_map-append (value_text 134),
      append-nil,
      ← c.loop-uri.invariant,
      ← c.as_str.ensures,
      ← c.as_bytes.ensures.value,
    )
    c.in_ok-put_value.ensures

pub returns : goal.returns
returns c =
    let all = take_all c.loop-uri.uri-index c.args.uris.now c.loop-uri-test.false in
    rw all at c.loop-uri.invariant
