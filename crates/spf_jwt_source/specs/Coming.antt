-- What the asks of a session of JWT bundles take of what a connector has to yield.
use Rattle.std.specs.Prelude.{List}
use Rattle.spf_link.specs.Connecting.{Member}
use Rattle.spf_feeder.specs.Coming.{AllYieldedOf}
use Rattle.spf_jwt_feed.specs.Items.{Event, Rules}
use Rattle.spf_jwt_source.specs.Kinds.{jwt}

abbrev pub AllYielded : Rules → List Member → List Event → Type 0
AllYielded rules members past = AllYieldedOf (jwt rules) members past
