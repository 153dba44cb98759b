use Rattle.std.proofs.Common.{◌≡◌, Ok, take}
use Rattle.spf_io.specs.Rule.{each}
use Rattle.spf_jwt.specs.Responses.{named_bundle_of}
use Rattle.spf_jwt.proofs.responses.named_bundles.Given as goal

abbrev pub invariant-loop-entry : goal.invariant-loop-entry
invariant-loop-entry l = each named_bundle_of (take l.entry-index l.entries) ≡ Ok l.bundles.items
