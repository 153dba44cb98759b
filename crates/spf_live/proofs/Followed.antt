-- What is seen and recorded after the lines.
use Rattle.std.proofs.Common.{◌≡◌, refl, ℕ, List, [], Option, Result, Ok, Err}
use mathlib.Core.List.{IsPrefix}
use Rattle.spf_live.specs.Printing.{FailsAfter, Moments, Prints, newest_list}
use Rattle.spiffe.specs.Passes.{Seen}
use Rattle.spf_live.specs.declared.error.LiveError.{LiveError}
use Rattle.spf_live.specs.declared.error.LiveError.TheVariants as errors
use Rattle.spf_live.proofs.Printed.{prefix_self, prefix_trans, printed_none, printed_nothing}

fails_before : (e : LiveError) → FailsAfter [] e
fails_before errors.OutOfMemory = tt
fails_before errors.WriteFailed = tt
fails_before errors.BadArguments = refl
fails_before errors.Rejected = refl
fails_before errors.Unsupported = refl
fails_before errors.TimedOut = refl
fails_before errors.NoSupervisor = refl
fails_before errors.NoPlace = refl

-- nothing is printed
pub prints_none : (seen : Seen) (count : ℕ) (clock clock' : Moments) (held held' : Option (List ℕ))
    (e : LiveError) → held' ≡ held → Prints seen seen count clock clock' held held' (Err e)
unfolding printed_none
prints_none seen count clock clock' held held' e same =
    printed_nothing seen seen seen _ count 0 clock clock clock' held held held' e
    (printed_none seen clock held) (prefix_self seen) same (fails_before e)

-- more is seen after the lines
pub prints_until : (first last last' : Seen) (count : ℕ) (clock clock' : Moments)
    (held held' : Option (List ℕ)) (r : Result (Unit {0}) LiveError)
    → Prints first last count clock clock' held held' r → IsPrefix last last'
    → Prints first last' count clock clock' held held' r
prints_until first last last' count clock clock' held held' r so grows = record {
  lines = so.lines;
  are = so.are;
  seen = prefix_trans (newest_list first so.lines) last last' so.seen grows;
  yielded = so.yielded;
  at = so.at;
  yielded_all = so.yielded_all;
  number = so.number;
  fails = so.fails;
  put = so.put;
  text = so.text;
  whole = so.whole;
}

unlike : (r : Result (Unit {0}) LiveError) (e : LiveError) → r ≡ Ok tt → r ≡ Err e → ⊥
unlike r e is same = cc

-- all lines are printed, and then memory runs out
pub prints_unrecorded : (first last last' : Seen) (count : ℕ) (clock clock' : Moments)
    (held held' : Option (List ℕ)) → Prints first last count clock clock' held held' (Ok tt)
    → IsPrefix last last'
    → Prints first last' count clock clock' held held' (Err errors.OutOfMemory)
prints_unrecorded first last last' count clock clock' held held' so grows = record {
  lines = so.lines;
  are = so.are;
  seen = prefix_trans (newest_list first so.lines) last last' so.seen grows;
  yielded = so.yielded;
  at = so.at;
  yielded_all = tt;
  number = tt;
  fails = tt;
  put = so.put;
  text = so.text;
  whole = λ _. so.whole (unlike (Ok tt) errors.WriteFailed refl);
}
