use Rattle.std.proofs.Common.{◌≡◌, take}
use Rattle.std.specs.Prelude.{flat_map}
use Rattle.spf_der.specs.Value.{value_text}
use Rattle.spf_der.proofs.writer.uri_names.Given as goal

abbrev pub invariant-loop-uri : goal.invariant-loop-uri
invariant-loop-uri l = l.names.items ≡ flat_map (value_text 134) (take l.uri-index l.uris)
