use Rattle.std.proofs.Common.{◌≡◌, ℕ, [], length, map, false, refl, sym, ap, ◌∙◌, arith}
use Rattle.std.proofs.lemmas.List.{length-map}
use Rattle.std.specs.Prelude.{◌==◌}
use Rattle.spf_api.specs.Views.{svid_entry_of}
use Rattle.spf_api.specs.Parsed.{bundle_required, fields_required, entries_rule}
use Rattle.spf_api.proofs.Rules.{kept_more, kept_all, no_entry}
use Rattle.spf_api.proofs.response_rule.are_complete.Goals as goal

pub loop-entry-init : goal.loop-entry-init
loop-entry-init c = (record { answers = []; are = refl }, record { answers = []; are = refl })

pub loop-entry-preserved : goal.loop-entry-preserved
loop-entry-preserved c = (
  kept_more (λ v. bundle_required (svid_entry_of v)) c.args.entries.now c.loop-entry.entry-index
      no_entry c.loop-entry.invariant.0 c.loop-entry-test.true
      (c.is_complete.ensures.bundle c.if-not-is_complete.false),
  kept_more (λ v. fields_required (svid_entry_of v)) c.args.entries.now c.loop-entry.entry-index
      no_entry c.loop-entry.invariant.1 c.loop-entry-test.true
      (c.is_complete.ensures.fields c.if-not-is_complete.false),
)

pub returns : goal.returns
unfolding entries_rule
returns c = λ yes.
    let xs = c.args.entries.now in
    let some : (length (map svid_entry_of xs) == 0) ≡ false =
    ap (λ (n : ℕ). n == 0) (length-map xs svid_entry_of) ∙ sym c.is_empty.ensures
    ∙ c.if-is_empty.false in
    rw (
      some,
      kept_all bundle_required svid_entry_of xs c.loop-entry.entry-index c.loop-entry.invariant.0
          (omega arith),
    )
    (kept_all fields_required svid_entry_of xs c.loop-entry.entry-index c.loop-entry.invariant.1
    (omega arith))
