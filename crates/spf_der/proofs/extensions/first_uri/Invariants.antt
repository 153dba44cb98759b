use Rattle.std.proofs.Common.{◌≡◌, length}
use Rattle.spf_der.specs.Names.{uris_left}
use Rattle.spf_der.proofs.extensions.first_uri.Given as goal

abbrev pub invariant-loop-rest : goal.invariant-loop-rest
invariant-loop-rest l = uris_left l.rest ≡ uris_left l.names

abbrev pub decreases-loop-rest : goal.decreases-loop-rest
decreases-loop-rest l = length l.rest
