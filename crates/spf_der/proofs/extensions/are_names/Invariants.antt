use Rattle.std.proofs.Common.{length}
use Rattle.std.specs.Prelude.{is_some}
use Rattle.spf_der.specs.Names.{uris_of}
use Rattle.spf_der.proofs.NameWalk.{Tests}
use Rattle.spf_der.proofs.extensions.are_names.Given as goal

abbrev pub invariant-loop-rest : goal.invariant-loop-rest
invariant-loop-rest l = Tests l.rest (is_some (uris_of l.bytes))

abbrev pub decreases-loop-rest : goal.decreases-loop-rest
decreases-loop-rest l = length l.rest
