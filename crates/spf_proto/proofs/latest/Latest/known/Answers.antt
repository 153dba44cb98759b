use Rattle.std.proofs.Common.{◌≡◌, ◌∙◌, Bor, IfSome, List, None, Option, Some, ap, drop, rules}
use Rattle.std.proofs.Common.{length, length-drop, slice_range, subst, sym, take, ℕ}
use Rattle.std.proofs.Math.Seq.{take-length}
use Rattle.std.specs.Option.{option_copied}
use Rattle.spf_feed.specs.Items.{item_at}
use Rattle.spf_proto.proofs.latest.Latest.known.Goals as goal

-- what a borrowed context, where there is one, is
if_shared : {C : Type 0} (shared : Option (Bor C)) (context : Option C) (read : Option (Option C))
    → option_copied shared ≡ context → read ≡ Some context
    → IfSome shared (λ c. read ≡ Some (Some c.now))
if_shared None context read is known = tt
if_shared (Some c) context read is known = known ∙ ap Some (sym is)

tail_is : (at : ℕ) (l : List ℕ) → slice_range l at (length l) ≡ drop at l
tail_is at l = ap (λ n. take n (drop at l)) (sym (length-drop at l)) ∙ take-length (drop at l)

pub returns-then-eq : goal.returns-then-eq
returns-then-eq c =
    let latest = c.args.self.now in
    let at : latest.read.payload_at ≡ Some c.in_ok-at.at = search rules in
    let items = latest.frames.items in
    let cut : c.in_ok-get.field-0.now ≡ slice_range items c.in_ok-at.at (length items) =
    search rules in
    let rest : c.in_ok-get.field-0.now ≡ drop c.in_ok-at.at items =
    cut ∙ tail_is c.in_ok-at.at items in
    let same : c.in_ok-get.field-0.now ≡ c.args.payload.now = search rules in
    if_shared _ _ _ c.as_ref.ensures.value
    (ap item_at (sym same) ∙ ap item_at rest
    ∙ subst (λ o. IfSome o (λ (a : ℕ). item_at (drop a latest.frames.items)
    ≡ Some latest.read.context)) at c.requires)
