use Rattle.std.proofs.Common.{take}
use Rattle.spf_api.specs.Views.{svid_entry_of}
use Rattle.spf_api.specs.Parsed.{bundle_required, fields_required}
use Rattle.spf_api.proofs.Rules.{Kept}
use Rattle.spf_api.proofs.response_rule.are_complete.Given as goal

abbrev pub invariant-loop-entry : goal.invariant-loop-entry
invariant-loop-entry l =
    Kept (λ v. bundle_required (svid_entry_of v)) (take l.entry-index l.entries)
    × Kept (λ v. fields_required (svid_entry_of v)) (take l.entry-index l.entries)
