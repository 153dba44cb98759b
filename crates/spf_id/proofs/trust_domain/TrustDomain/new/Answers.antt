use Rattle.spf_id.proofs.Names.{name_name}
use Rattle.spf_id.proofs.trust_domain.TrustDomain.new.Goals as goal

pub copy_of-requires : goal.copy_of-requires
copy_of-requires c = name_name c.args.text.now c.in_ok-name.name.now c.in_ok-name.ensures
