use Rattle.std.proofs.Common.{◌≡◌, ◌++◌, length}
use Rattle.spf_der.proofs.extensions.copies.Given as goal

abbrev pub invariant-loop-uri : goal.invariant-loop-uri
invariant-loop-uri l = l.texts.items ++ l.uris ≡ l.initial.uris

abbrev pub decreases-loop-uri : goal.decreases-loop-uri
decreases-loop-uri l = length l.uris
