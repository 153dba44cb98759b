use Rattle.std.proofs.Common.{◌≡◌}
use Rattle.spf_source_tests.proofs.threads.live.are_done.Given as goal

abbrev pub invariant-loop-turn : goal.invariant-loop-turn
invariant-loop-turn l = (l.pass.book ≡ l.source.board) × (l.pass.book ≡ l.initial.pass.book)
