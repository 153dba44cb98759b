use Rattle.spf_link.proofs.Reached.{unnamed_reaches}
use Rattle.spf_link.proofs.env_connector.EnvConnector.reach.Goals as goal

pub returns-in-Err : goal.returns-in-Err
returns-in-Err g c = unnamed_reaches _ _ _ c.unnamed.ensures
