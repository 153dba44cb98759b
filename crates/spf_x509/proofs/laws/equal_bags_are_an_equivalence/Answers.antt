use Rattle.spf_x509.proofs.BagLemmas.{bag_equiv}
use Rattle.spf_x509.proofs.laws.equal_bags_are_an_equivalence.Goals as goal

pub returns : goal.returns
returns g c = bag_equiv
