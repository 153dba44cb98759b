-- The marked revision, and the lines whose revision is above it.
use Rattle.std.proofs.Common.{◌≡◌, ◌∙◌, refl, sym, subst, ℕ, ◌<◌, ◌≤◌, List, Option, Some, None}
use Rattle.std.proofs.Common.{Result, Ok, Err}
use Rattle.std.proofs.Common.{arith, inl, inr}
use Rattle.std.specs.Prelude.{◌≢◌}
use Rattle.std.proofs.lemmas.Bool.{cases_lt}
use mathlib.Core.List.{IsPrefix}
use Rattle.spf_feed.specs.Steps.{StateView}
use Rattle.spiffe.specs.Passes.{PassView}
use Rattle.spiffe.specs.States.{IsStateOf}
use Rattle.spiffe.specs.Reads.{IsRevision, SeesNoLess}
use Rattle.spf_live.specs.Printing.{IsNext, Line, Moments, PrintsLine}
use Rattle.spiffe.specs.Passes.{Seen}
use Rattle.spf_live.specs.declared.error.LiveError.{LiveError}
use Rattle.spf_live.specs.declared.error.LiveError.TheVariants as errors
use Rattle.spf_live.proofs.Printed.{prefix_self, prefix_trans}
use Rattle.spf_live.proofs.Revisions.{not_fallen}

-- after a line the marked revision is that of what is read
pub marked_read : (pass : PassView) (marked : ℕ) (earlier : Option ℕ) (clock clock' : Moments)
    (held held' : Option (List ℕ)) (done : Unit {0})
    → PrintsLine pass.seen marked earlier clock clock' held held' (Ok done)
    → IsRevision pass marked
marked_read pass marked earlier clock clock' held held' done is = (
  is.0.state,
  subst (λ (l : Seen). IsStateOf l is.0.state.closed is.0.state) is.1.list_is is.1.state_is,
  sym is.1.marked_is,
)

strictly : (a b c : ℕ) → a ≤ b → b ≢ a → b ≤ c → a < c
strictly a b c l differs m =
    elim (cases_lt a b) [
      | inl less ↦ omega (arith, less, m)
      | inr least ↦ absurd (differs (omega (arith, l, least)))
    ]

below : (before read shown a b : ℕ) → before ≡ a → read ≡ b → a ≤ b → read ≢ before → b ≤ shown
    → before < shown
below before read shown a b p q l differs m =
    strictly before read shown (omega (arith, p, q, l)) differs (omega (arith, q, m))

-- what is read after a change has a revision above the marked one
above : (old mid : PassView) (seen : Seen) (before read : ℕ) (state : StateView)
    → IsRevision old before → IsPrefix old.seen mid.seen → IsRevision mid read → read ≢ before
    → IsPrefix mid.seen seen → IsStateOf seen state.closed state → before < state.revision
above old mid seen before read state was grows is differs more now =
    below before read state.revision was.0.revision is.0.revision was.2 is.2
    (not_fallen old.seen mid.seen was.0.closed is.0.closed was.0 is.0 grows was.1 is.1) differs
    (not_fallen mid.seen seen is.0.closed state.closed is.0 state more is.1 now)

next_above : (old mid : PassView) (seen : Seen) (before read marked : ℕ) (clock clock' : Moments)
    (line : Line) → IsRevision old before → IsPrefix old.seen mid.seen → IsRevision mid read
    → read ≢ before → IsPrefix mid.seen seen → IsNext seen marked None clock clock' line
    → IsNext seen marked (Some before) clock clock' line
next_above old mid seen before read marked clock clock' line was grows is differs more next =
    record {
      list_is = next.list_is;
      state_is = next.state_is;
      marked_is = next.marked_is;
      above = above old mid seen before read line.state was grows is differs more
          (subst (λ (l : Seen). IsStateOf l line.state.closed line.state) next.list_is
          next.state_is);
      at = next.at;
    }

-- a line after a change
pub prints_above : (old mid : PassView) (seen : Seen) (before read marked : ℕ)
    (clock clock' : Moments) (held held' : Option (List ℕ)) (r : Result (Unit {0}) LiveError)
    → IsRevision old before → IsPrefix old.seen mid.seen → IsRevision mid read → read ≢ before
    → IsPrefix mid.seen seen → PrintsLine seen marked None clock clock' held held' r
    → PrintsLine seen marked (Some before) clock clock' held held' r
prints_above old mid seen before read marked clock clock' held held' (Ok done) was grows is
    differs more p = (
      p.0,
      next_above old mid seen before read marked clock clock' p.0 was grows is differs more p.1,
      p.2,
    )
prints_above old mid seen before read marked clock clock' held held' (Err errors.WriteFailed)
    was grows is differs more p = (
      p.0,
      next_above old mid seen before read marked clock clock' p.0 was grows is differs more p.1,
      p.2,
      p.3,
    )
prints_above old mid seen before read marked clock clock' held held' (Err errors.OutOfMemory)
    was grows is differs more p = p
prints_above old mid seen before read marked clock clock' held held' (Err errors.BadArguments) was
    grows is differs more p = absurd p
prints_above old mid seen before read marked clock clock' held held' (Err errors.Rejected) was
    grows is differs more p = absurd p
prints_above old mid seen before read marked clock clock' held held' (Err errors.Unsupported)
    was grows is differs more p = absurd p
prints_above old mid seen before read marked clock clock' held held' (Err errors.TimedOut) was
    grows is differs more p = absurd p
prints_above old mid seen before read marked clock clock' held held' (Err errors.NoSupervisor)
    was grows is differs more p = absurd p
prints_above old mid seen before read marked clock clock' held held' (Err errors.NoPlace) was
    grows is differs more p = absurd p

pub sees_on : (old mid new : PassView) → SeesNoLess old mid → SeesNoLess mid new
    → SeesNoLess old new
sees_on old mid new a b = record {
  book = b.book ∙ a.book;
  seen = prefix_trans old.seen mid.seen new.seen a.seen b.seen;
  entered = prefix_trans old.entered mid.entered new.entered a.entered b.entered;
}

pub sees_same : (pass : PassView) → SeesNoLess pass pass
sees_same pass = record {
  book = refl;
  seen = prefix_self pass.seen;
  entered = prefix_self pass.entered;
}
