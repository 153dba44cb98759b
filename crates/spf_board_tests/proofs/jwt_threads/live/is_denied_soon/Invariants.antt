use Rattle.std.proofs.Common.{◌≡◌}
use Rattle.spf_board_tests.proofs.jwt_threads.live.is_denied_soon.Given as goal

abbrev pub invariant-loop : goal.invariant-loop
invariant-loop l = (l.pass.book ≡ l.source.board) × (l.pass.book ≡ l.initial.pass.book)
