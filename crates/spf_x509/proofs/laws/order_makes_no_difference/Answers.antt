use Rattle.spf_x509.proofs.BagLemmas.{bag_reordered}
use Rattle.spf_x509.proofs.laws.order_makes_no_difference.Goals as goal

pub returns : goal.returns
returns g c = bag_reordered
