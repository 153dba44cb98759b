-- Where nobody is reached, the variable does not matter.
use Rattle.std.specs.Prelude.{Option, None, Some, Err}
use Rattle.spf_api.specs.declared.link.ClientFault.{ClientFault}
use Rattle.spf_system.specs.declared.environment.EnvValue.{EnvValue}
use Rattle.spf_link.specs.Endpoints.{IsNoStatus, ReachesNamed}

pub unnamed_reaches : (L : Type 0) (v : Option EnvValue) (f : ClientFault) → IsNoStatus f
    → ReachesNamed {L = L} v (Err f)
unnamed_reaches L None f silent = silent
unnamed_reaches L (Some value) f silent = silent
