use Rattle.spf_helper.proofs.following.helper_follow.Given as goal

abbrev pub ghosts-follow_lent : goal.ghosts-follow_lent
ghosts-follow_lent g a = record {
  begin = record {
    loan = a.disk.ghost_name;
    image = g.D.Disk.seen a.disk.now;
    moment = g.D.Disk.moment a.disk.now;
    failures = g.D.Disk.failures a.disk.now;
  };
  past = g.D.Disk.left_since a.disk.now;
}
