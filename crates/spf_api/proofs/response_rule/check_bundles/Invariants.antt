use Rattle.std.proofs.Common.{take}
use Rattle.spf_api.specs.Views.{svid_entry_of}
use Rattle.spf_api.specs.Parsed.{bundle_required}
use Rattle.spf_api.proofs.Rules.{Kept}
use Rattle.spf_api.proofs.response_rule.check_bundles.Given as goal

abbrev pub invariant-loop-entry : goal.invariant-loop-entry
invariant-loop-entry l =
    Kept (λ v. bundle_required (svid_entry_of v)) (take l.entry-index l.entries)
