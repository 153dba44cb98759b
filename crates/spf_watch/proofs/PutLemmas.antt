-- Texts that are put and no more.
use Rattle.std.proofs.Common.{◌≡◌, sym, subst, ℕ, true, List, ◌++◌, Option, Result, Err}
use Rattle.spf_view.specs.Sessions.{Grows}
use Rattle.spf_view.proofs.FollowLemmas.{grows_trans}
use Rattle.spf_watch.specs.declared.exit_reason.ExitReason.{ExitReason}
use Rattle.spf_watch.specs.Causes.{is_output_failure}
use Rattle.spf_watch.specs.Headline.{Puts}

-- a run that ended by a failure of its output, or out of memory
pub puts_err : (IsText : List ℕ → Type 0) (held held' : Option (List ℕ))
    (r : Result (Unit {0}) ExitReason) (x : ExitReason) → r ≡ Err x → is_output_failure x ≡ true
    → Puts IsText held held' r
puts_err IsText held held' r x is fault =
    subst (Puts IsText held held') (sym is) (record { text = λ ok. absurd cc; failure = fault })

-- a piece that was put, with what the rest puts
pub puts_then : (P Q : List ℕ → Type 0) (a b c : Option (List ℕ)) (x : List ℕ)
    (r : Result (Unit {0}) ExitReason) → Grows a b x → ((y : List ℕ) → P y → Q (x ++ y))
    → Puts P b c r → Puts Q a c r
puts_then P Q a b c x r front whole p = record {
  text = λ ok. let t = p.text ok in (x ++ t.0, whole t.0 t.1, grows_trans a b c x t.0 front t.2);
  failure = p.failure;
}

-- the same text, seen in another way
pub puts_as : (P Q : List ℕ → Type 0) (a b : Option (List ℕ)) (r : Result (Unit {0}) ExitReason)
    → ((text : List ℕ) → P text → Q text) → Puts P a b r → Puts Q a b r
puts_as P Q a b r seen p =
    record { text = λ ok. let t = p.text ok in (t.0, seen t.0 t.1, t.2); failure = p.failure }
