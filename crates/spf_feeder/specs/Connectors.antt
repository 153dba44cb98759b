-- What is known of a connector.
use Rattle.std.specs.Prelude.{List, Option, None}
use Rattle.spf_link.specs.Connecting.{Member}

-- a connector of which nothing is known
abbrev pub unyielded : {S : Type 0} → S → Option (List Member)
unyielded connector = None
