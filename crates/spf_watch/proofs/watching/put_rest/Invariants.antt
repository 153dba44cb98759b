use Rattle.std.proofs.Common.{◌≡◌, ◌≤◌, ◌++◌, List, ℕ, length}
use Rattle.spf_view.specs.Sessions.{Grows}
use Rattle.spf_watch.proofs.watching.put_rest.Given as goal

-- what came before was put
abbrev pub invariant-loop-out : goal.invariant-loop-out
invariant-loop-out g l =
    (g.K.Sink.failures l.initial.out ≤ g.K.Sink.failures l.out)
    × ((text : List ℕ) × Grows (g.K.Sink.held l.initial.out) (g.K.Sink.held l.out) text
    × (l.initial.session ≡ text ++ l.session))

abbrev pub decreases-loop-out : goal.decreases-loop-out
decreases-loop-out g l = length l.session
