-- What is written where answering is cut.
use Rattle.std.proofs.Common.{◌≡◌, ◌∙◌, refl, sym, ℕ, ◌+◌, Bool, true, false, List, []}
use Rattle.std.proofs.Common.{◌∷◌, ◌++◌, length, take, Option, Some, None, IfSome, Result, Ok, Err}
use Rattle.std.proofs.Common.{take_all, le_refl, subst, inr, inl}
use Rattle.std.proofs.Math.Seq.{take-append-add}
use Rattle.std.proofs.lemmas.List.{append-nil}
use Rattle.std.specs.Prelude.{IfErr}
use Rattle.std.specs.Io.KnownBytes.{Appends, prepend_known}
use Rattle.std.proofs.KnownBytes.{Appends-trans, Appends-nil}
use mathlib.Core.List.{IsPrefix}
use Rattle.spf_board.specs.Passes.{Renews}
use Rattle.spiffe.specs.Passes.{PassView, read_of}
use Rattle.spiffe.specs.Reads.{SeesNoLess}
use Rattle.spiffe.specs.Steps.{Legal}
use Rattle.spf_gate.specs.declared.rule.Rule.{Rule}
use Rattle.spf_gate.specs.declared.gate_error.GateError.{GateError}
use Rattle.spf_gate.specs.declared.gate_error.GateError.TheVariants as errors
use Rattle.spf_gate.specs.Answers.{answer_line}
use Rattle.spf_gate.specs.Lines.{lines_of}
use Rattle.spf_gate.specs.Policies.{ReadsPolicy, asks_rule}
use Rattle.spf_gate.specs.Reading.{TakesLine}
use Rattle.spf_gate.specs.Serving.{AnswersPart, AreAnswers, AreFirst, AreRead, AreReadFirst}
use Rattle.spf_gate.specs.Serving.{ReadsOnce, Serves, ServesFirst, ServesPart, cuts}
use Rattle.spf_gate.proofs.ServeLemmas.{Asking, Remains, answers_more, kept_more, remains_less}
use Rattle.spf_gate.proofs.ServeLemmas.{sees_same}

-- ---- asks

written_all : (held held' : Option (List ℕ)) (text : List ℕ) → Appends held held' text
    → Appends held held' (take (length text) text)
written_all held held' text written =
    subst (λ (l : List ℕ). Appends held held' l)
    (sym (take_all (length text) text (le_refl (length text)))) written

written_part : (held held1 held2 : Option (List ℕ)) (text line : List ℕ) (size : ℕ)
    → Appends held held1 text → Appends held1 held2 (take size line)
    → Appends held held2 (take (length text + size) (text ++ line))
written_part held held1 held2 text line size before more =
    subst (λ (l : List ℕ). Appends held held2 l) (sym (take-append-add text line size))
    (Appends-trans held held1 held2 text (take size line) before more)

first_asks : (max first : ℕ) (old new : Option (List ℕ)) (asks : List (List ℕ))
    → Remains old new asks → asks_rule max first asks ≡ Ok tt
    → IfSome old (λ bytes. AreFirst max first asks (lines_of bytes))
first_asks max first None new asks so kept = tt
first_asks max first (Some a) None asks so kept = absurd so
first_asks max first (Some a) (Some b) asks so kept = ((lines_of b, sym so), kept)

-- between two asks
pub cut_between : (max first : ℕ) (old mid : Option (List ℕ)) (rules : List Rule)
    (pass pass1 pass2 : PassView) (held held' : Option (List ℕ)) (number : ℕ) (e : GateError)
    → Asking max first old mid rules pass pass1 held held' number → SeesNoLess pass1 pass2
    → ServesFirst max first old rules pass pass2 held held' e
cut_between max first old mid rules pass pass1 pass2 held held' number e so later = record {
  asks = so.asks;
  text = so.text;
  last = pass1;
  answers = so.answers;
  later = later;
  size = length so.text;
  written = written_all held held' so.text so.written;
  whole = λ is. refl;
  asks_are = first_asks max first old mid so.asks so.remains so.kept;
}

-- in the line that answers an ask
cut_line : (max first : ℕ) (old mid new : Option (List ℕ)) (rules : List Rule)
    (pass pass1 pass2 : PassView) (held held1 held2 : Option (List ℕ)) (number : ℕ) (ask : List ℕ)
    → Asking max first old mid rules pass pass1 held held1 number
    → TakesLine max (number + 1) mid new ask (Ok true)
    → Renews Legal (read_of pass1) (read_of pass2)
    → AnswersPart rules pass2.seen ask held1 held2 errors.WriteFault
    → ServesFirst max first old rules pass pass2 held held2 errors.WriteFault
cut_line max first old mid new rules pass pass1 pass2 held held1 held2 number ask so takes renews
    part =
    let line = answer_line rules part.0 ask in
    record {
      asks = so.asks ++ ask ∷ [];
      text = so.text ++ line;
      last = pass2;
      answers = answers_more rules pass pass1 pass2 so.asks ask so.text part.0 so.answers renews
          part.1;
      later = sees_same pass2;
      size = length so.text + part.2;
      written = written_part held held1 held2 so.text line part.2 so.written part.3;
      whole = λ is. absurd (cc (is));
      asks_are = first_asks max first old new (so.asks ++ ask ∷ [])
          (remains_less max (number + 1) old mid new so.asks ask so.remains takes)
          (kept_more max first number so.asks ask so.kept so.number_is takes.1);
    }

-- while an ask is answered
pub cut_in_ask : (max first : ℕ) (old mid new : Option (List ℕ)) (rules : List Rule)
    (pass pass1 pass2 : PassView) (held held1 held2 : Option (List ℕ)) (number : ℕ) (ask : List ℕ)
    (is_line : Bool) (e : GateError)
    → Asking max first old mid rules pass pass1 held held1 number
    → TakesLine max (number + 1) mid new ask (Ok is_line) → is_line ≡ true
    → SeesNoLess pass1 pass2 → ReadsOnce {T = Unit {0}} pass1 pass2 (Err e)
    → AnswersPart rules pass2.seen ask held1 held2 e
    → ServesFirst max first old rules pass pass2 held held2 e
cut_in_ask max first old mid new rules pass pass1 pass2 held held1 held2 number ask false e so
    takes is later reads part = absurd (cc)
cut_in_ask max first old mid new rules pass pass1 pass2 held held1 held2 number ask true
    errors.OutOfMemory so takes is later reads part =
    subst (λ (h : Option (List ℕ)).
    ServesFirst max first old rules pass pass2 held h errors.OutOfMemory) (sym part)
    (cut_between max first old mid rules pass pass1 pass2 held held1 number errors.OutOfMemory so
    later)
cut_in_ask max first old mid new rules pass pass1 pass2 held held1 held2 number ask true
    errors.WriteFault so takes is later reads part =
    cut_line max first old mid new rules pass pass1 pass2 held held1 held2 number ask so takes
    reads part
cut_in_ask max first old mid new rules pass pass1 pass2 held held1 held2 number ask true
    errors.ReadFault so takes is later reads part = absurd part
cut_in_ask max first old mid new rules pass pass1 pass2 held held1 held2 number ask true
    (errors.BadRule line) so takes is later reads part = absurd part
cut_in_ask max first old mid new rules pass pass1 pass2 held held1 held2 number ask true
    errors.NoPolicyEnd so takes is later reads part = absurd part
cut_in_ask max first old mid new rules pass pass1 pass2 held held1 held2 number ask true
    (errors.LineTooLong line) so takes is later reads part = absurd part
cut_in_ask max first old mid new rules pass pass1 pass2 held held1 held2 number ask true
    (errors.NotText line) so takes is later reads part = absurd part
cut_in_ask max first old mid new rules pass pass1 pass2 held held1 held2 number ask true
    errors.TooManyLines so takes is later reads part = absurd part

-- ---- the whole input

none_read : (max : ℕ) (left : Option (List ℕ))
    → IfSome left (λ bytes. AreReadFirst max bytes [] [])
none_read max None = tt
none_read max (Some a) = inl refl

-- no ask is answered, and nothing is written
pub cut_at_first : (max : ℕ) (left : Option (List ℕ)) (pass : PassView) (held : Option (List ℕ))
    (e : GateError) → ServesPart max left pass pass held held e
cut_at_first max left pass held e = record {
  rules = [];
  asks = [];
  text = [];
  last = pass;
  answers = (refl, refl);
  later = sees_same pass;
  size = 0;
  written = Appends-nil held;
  whole = λ is. refl;
  read = none_read max left;
}

first_read : (max after : ℕ) (left mid : Option (List ℕ)) (rules : List Rule)
    (asks : List (List ℕ)) → ReadsPolicy max 0 after (prepend_known [] left) mid (Ok rules)
    → IfSome mid (λ bytes. AreFirst max (after + 1) asks (lines_of bytes))
    → IfSome left (λ bytes. AreReadFirst max bytes rules asks)
first_read max after None mid rules asks policy so = tt
first_read max after (Some a) None rules asks policy so = absurd policy
first_read max after (Some a) (Some m) rules asks policy so = inr (_, policy, refl, so)

cut_read : (max max' max'' number after : ℕ) (o : List ℕ) (left mid : Option (List ℕ))
    (rules rules' : List Rule) (pass pass' : PassView) (held held' : Option (List ℕ)) (e : GateError)
    → o ≡ [] → number ≡ 0 → max' ≡ max → max'' ≡ max' → rules' ≡ rules
    → ReadsPolicy max' number after (prepend_known o left) mid (Ok rules)
    → ServesFirst max'' (after + 1) mid rules' pass pass' held held' e
    → ServesPart max left pass pass' held held' e
cut_read max max' max'' number after o left mid rules rules' pass pass' held held' e o_is number_is
    max_is again same reads so =
    let policy = subst (λ (x : List ℕ × ℕ × ℕ).
    ReadsPolicy x.2 x.1 after (prepend_known x.0 left) mid (Ok rules))
    (λ i. (o_is i, number_is i, max_is i)) reads in
    record {
      rules = rules;
      asks = so.asks;
      text = so.text;
      last = so.last;
      answers = subst (λ (l : List Rule). AreAnswers l pass so.asks so.text so.last) same so.answers;
      later = so.later;
      size = so.size;
      written = so.written;
      whole = so.whole;
      read = first_read max after left mid rules so.asks policy
          (subst (λ (m : ℕ).
          IfSome mid (λ bytes. AreFirst m (after + 1) so.asks (lines_of bytes)))
          (again ∙ max_is) so.asks_are);
    }

-- the policy was read, and answering was cut
pub cut_after : (max max' max'' number after : ℕ) (o : List ℕ) (left mid : Option (List ℕ))
    (rules rules' : List Rule) (pass pass' : PassView) (held held' : Option (List ℕ))
    (r : Result ℕ GateError) → o ≡ [] → number ≡ 0 → max' ≡ max → max'' ≡ max' → rules' ≡ rules
    → ReadsPolicy max' number after (prepend_known o left) mid (Ok rules)
    → IfErr r (λ e. cuts e ≡ true
    → ServesFirst max'' (after + 1) mid rules' pass pass' held held' e)
    → IfErr r (λ e. cuts e ≡ true → ServesPart max left pass pass' held held' e)
cut_after max max' max'' number after o left mid rules rules' pass pass' held held' (Ok count) o_is
    number_is max_is again same reads so = tt
cut_after max max' max'' number after o left mid rules rules' pass pass' held held' (Err e) o_is
    number_is max_is again same reads so = λ is.
    cut_read max max' max'' number after o left mid rules rules' pass pass' held held' e o_is
    number_is max_is again same reads (so is)

all_read : (max : ℕ) (left left' : Option (List ℕ)) (rules : List Rule) (asks : List (List ℕ))
    (count : ℕ) → IfSome left (λ bytes. AreRead max bytes left' rules asks (Ok count))
    → IfSome left (λ bytes. AreReadFirst max bytes rules asks)
all_read max None left' rules asks count so = tt
all_read max (Some a) left' rules asks count so =
    inr (so.0, so.1, so.2, (([], append-nil asks ∙ sym so.3), so.4))

-- all asks were answered before
pub cut_at_last : (max : ℕ) (left left' : Option (List ℕ)) (pass pass' : PassView)
    (held held' : Option (List ℕ)) (count : ℕ) (e : GateError)
    → Serves max left left' pass pass' held held' (Ok count)
    → ServesPart max left pass pass' held held' e
cut_at_last max left left' pass pass' held held' count e so = record {
  rules = so.rules;
  asks = so.asks;
  text = so.text;
  last = pass';
  answers = so.answers;
  later = sees_same pass';
  size = length so.text;
  written = written_all held held' so.text so.written;
  whole = λ is. refl;
  read = all_read max left left' so.rules so.asks count so.read;
}
