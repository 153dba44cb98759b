use Rattle.std.proofs.Common.{take}
use Rattle.spf_api.specs.Views.{bundle_entry_of}
use Rattle.spf_api.specs.Parsed.{named_bundle_of}
use Rattle.spf_api.proofs.Added.{Named}
use Rattle.spf_api.proofs.response_rule.add_named.Given as goal

abbrev pub invariant-loop-entry : goal.invariant-loop-entry
invariant-loop-entry l =
    Named (λ v. named_bundle_of (bundle_entry_of v)) (take l.entry-index l.entries)
    l.initial.bundles l.bundles
