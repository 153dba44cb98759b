use Rattle.spf_x509.proofs.ByteBags.{bags_exactly}
use Rattle.spf_x509.proofs.laws.byte_bags_are_equal.Goals as goal

pub returns : goal.returns
returns c = bags_exactly
