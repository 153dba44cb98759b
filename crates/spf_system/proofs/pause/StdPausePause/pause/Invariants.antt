use Rattle.spf_system.proofs.pause.StdPausePause.pause.Given as goal

abbrev pub decreases-pieces : goal.decreases-pieces
decreases-pieces g l = l.left
