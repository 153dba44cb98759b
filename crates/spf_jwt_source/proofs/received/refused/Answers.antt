use Rattle.std.proofs.Common.{◌≡◌, true, false, Ok, Err, refl, sym, ◌∙◌}
use Rattle.spf_api.specs.declared.error.WorkloadApiError.{WorkloadApiError}
use Rattle.spf_api.specs.declared.error.WorkloadApiError.TheVariants as api
use Rattle.spf_api.specs.Errors.{is_memory_api}
use Rattle.spf_io.specs.declared.memory.OutOfMemory.{OutOfMemory}
use Rattle.spf_jwt_feed.specs.Items.{IsReceived}
use Rattle.spf_jwt_feed.specs.declared.event.JwtItem.TheVariants as item
use Rattle.spf_jwt_source.proofs.received.refused.Goals as goal

by_memory : (e : WorkloadApiError) (x : OutOfMemory) → is_memory_api e ≡ true
    → IsReceived (Err e) (Err x)
by_memory api.OutOfMemory x h = refl
by_memory _ x h = absurd cc

by_rule : (e : WorkloadApiError) → is_memory_api e ≡ false
    → IsReceived {E = OutOfMemory} (Err e) (Ok item.Broken)
by_rule api.OutOfMemory h = absurd cc
by_rule _ h = refl

pub returns-then-is_memory : goal.returns-then-is_memory
returns-then-is_memory c =
    by_memory c.args.e _ (sym c.is_out_of_memory-is_memory.ensures ∙ c.if-is_memory.true)

pub returns : goal.returns
returns c = by_rule c.args.e (sym c.is_out_of_memory-is_memory.ensures ∙ c.if-is_memory.false)
