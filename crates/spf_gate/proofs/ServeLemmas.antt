-- Answering asks one by one.
use Rattle.std.proofs.Common.{◌≡◌, ◌∙◌, refl, sym, ap, ℕ, ◌+◌, Bool, true, false, List, []}
use Rattle.std.proofs.Common.{◌∷◌, ◌++◌}
use Rattle.std.proofs.Common.{length, Option, Some, None, IfSome, Result, Ok, Err, append_assoc}
use Rattle.std.proofs.Common.{subst}
use Rattle.std.proofs.Common.{inl, inr, arith}
use Rattle.std.specs.Prelude.{IsErrOf}
use Rattle.std.specs.Io.KnownBytes.{Appends, prepend_known}
use Rattle.std.proofs.KnownBytes.{Appends-trans, Appends-nil}
use Rattle.std.proofs.lemmas.List.{append-nil}
use mathlib.Core.List.{IsPrefix}
use Rattle.spf_board.proofs.Prefixes.{begins_self, begins_trans}
use Rattle.spf_io.specs.Rule.{◌>>=◌}
use Rattle.spf_feed.specs.Steps.{StateView}
use Rattle.spf_board.specs.Passes.{Renews}
use Rattle.spiffe.specs.Passes.{PassView, read_of}
use Rattle.spiffe.specs.States.{IsStateOf}
use Rattle.spiffe.specs.Steps.{Legal}
use Rattle.spiffe.specs.Reads.{SeesNoLess}
use Rattle.spf_gate.specs.declared.rule.Rule.{Rule}
use Rattle.spf_gate.specs.declared.gate_error.GateError.{GateError}
use Rattle.spf_gate.specs.declared.gate_error.GateError.TheVariants as errors
use Rattle.spf_gate.specs.Answers.{answer_line}
use Rattle.spf_gate.specs.Lines.{lines_of, line_rule}
use Rattle.spf_gate.specs.Policies.{ReadsPolicy, asks_rule, asks_before}
use Rattle.spf_gate.specs.Reading.{Breaks, HasNoFeed, TakesLine, number_after}
use Rattle.spf_gate.specs.Serving.{AnswersAsk, AreAnswers, AreAsks, AreRead, Serves}
use Rattle.spf_gate.specs.Serving.{ServesAsks, is_cut}

-- one more ask is answered
pub answers_more : (rules : List Rule) (pass mid read : PassView) (asks : List (List ℕ))
    (ask : List ℕ) (text : List ℕ) (state : StateView) → AreAnswers rules pass asks text mid
    → Renews Legal (read_of mid) (read_of read) → IsStateOf read.seen state.closed state
    → AreAnswers rules pass (asks ++ ask ∷ []) (text ++ answer_line rules state ask) read
answers_more rules pass mid read [] ask text state so renews is = (
  read,
  state,
  subst (λ (p : PassView). Renews Legal (read_of p) (read_of read)) so.1 renews,
  is,
  [],
  ap (λ (l : List ℕ). l ++ answer_line rules state ask) so.0
      ∙ sym (append-nil (answer_line rules state ask)),
  (refl, refl),
)
answers_more rules pass mid read (x ∷ asks) ask text state so renews is = (
  so.0,
  so.1,
  so.2,
  so.3,
  so.4 ++ answer_line rules state ask,
  ap (λ (l : List ℕ). l ++ answer_line rules state ask) so.5
      ∙ append_assoc (answer_line rules so.1 x) so.4 (answer_line rules state ask),
  answers_more rules so.0 mid read asks ask so.4 state so.6 renews is,
)

both : {E : Type 0} (r k : Result (Unit {0}) E) → (r >>= λ _. k) ≡ Ok tt
    → (r ≡ Ok tt) × (k ≡ Ok tt)
both (Ok x) k is = (refl, is)
both (Err e) k is = absurd (cc)

-- lines after asks that keep the rules of lines
asks_joined : (max first : ℕ) (asks more : List (List ℕ)) → asks_rule max first asks ≡ Ok tt
    → asks_rule max first (asks ++ more) ≡ asks_rule max (first + length asks) more
asks_joined max first [] more kept =
    ap (λ (n : ℕ). asks_rule max n more) (omega arith)
asks_joined max first (ask ∷ asks) more kept =
    let parts = both (line_rule max first ask) (asks_rule max (first + 1) asks) kept in
    rw parts.0
    (asks_joined max (first + 1) asks more parts.1
    ∙ ap (λ (n : ℕ). asks_rule max n more) (omega arith))

before_joined : (max first : ℕ) (asks more : List (List ℕ)) → asks_rule max first asks ≡ Ok tt
    → asks_before max first (asks ++ more)
    ≡ asks ++ asks_before max (first + length asks) more
before_joined max first [] more kept =
    ap (λ (n : ℕ). asks_before max n more) (omega arith)
before_joined max first (ask ∷ asks) more kept =
    let parts = both (line_rule max first ask) (asks_rule max (first + 1) asks) kept in
    rw parts.0
    (ap (λ (l : List (List ℕ)). ask ∷ l)
    (before_joined max (first + 1) asks more parts.1
    ∙ ap (λ (n : ℕ). asks ++ asks_before max n more) (omega arith)))

-- the lines that are left after the asks, where the bytes are known
abbrev pub Remains : Option (List ℕ) → Option (List ℕ) → List (List ℕ) → Type 0
Remains None new asks = Unit {0}
Remains (Some old) None asks = ⊥
Remains (Some old) (Some new) asks = lines_of old ≡ asks ++ lines_of new

-- what is answered so far
pub record Asking (max first : ℕ) (old new : Option (List ℕ)) (rules : List Rule)
    (pass pass' : PassView) (held held' : Option (List ℕ)) (number : ℕ) : Type 0 where
  pub asks : List (List ℕ)
  pub text : List ℕ
  pub written : Appends held held' text
  pub answers : AreAnswers rules pass asks text pass'
  pub number_is : number + 1 ≡ first + length asks
  pub kept : asks_rule max first asks ≡ Ok tt
  pub remains : Remains old new asks

remains_all : (old : Option (List ℕ)) → Remains old old []
remains_all None = tt
remains_all (Some a) = refl

pub asking_none : (max number : ℕ) (old : Option (List ℕ)) (rules : List Rule) (pass : PassView)
    (held : Option (List ℕ)) → Asking max (number + 1) old old rules pass pass held held number
asking_none max number old rules pass held = record {
  asks = [];
  text = [];
  written = Appends-nil held;
  answers = (refl, refl);
  number_is = omega arith;
  kept = refl;
  remains = remains_all old;
}

pub remains_less : (max number : ℕ) (old mid new : Option (List ℕ)) (asks : List (List ℕ))
    (ask : List ℕ) → Remains old mid asks → TakesLine max number mid new ask (Ok true)
    → Remains old new (asks ++ ask ∷ [])
remains_less max number None mid new asks ask so takes = tt
remains_less max number (Some a) None new asks ask so takes = absurd so
remains_less max number (Some a) (Some b) None asks ask so takes = absurd takes.0
remains_less max number (Some a) (Some b) (Some c) asks ask so takes =
    so ∙ ap (λ (l : List (List ℕ)). asks ++ l) takes.0
    ∙ sym (append_assoc asks (ask ∷ []) (lines_of c))

length_more : (asks : List (List ℕ)) (ask : List ℕ) → length (asks ++ ask ∷ []) ≡ length asks + 1
length_more [] ask = refl
length_more (x ∷ asks) ask = let rest = length_more asks ask in omega (arith, rest)

pub kept_more : (max first number : ℕ) (asks : List (List ℕ)) (ask : List ℕ)
    → asks_rule max first asks ≡ Ok tt → number + 1 ≡ first + length asks
    → line_rule max (number + 1) ask ≡ Ok tt → asks_rule max first (asks ++ ask ∷ []) ≡ Ok tt
kept_more max first number asks ask kept number_is rule =
    asks_joined max first asks (ask ∷ []) kept
    ∙ ap (λ (n : ℕ). asks_rule max n (ask ∷ [])) (sym number_is)
    ∙ ap (λ (r : Result (Unit {0}) GateError). r >>= λ _. Ok tt) rule

pub asking_more : (max first : ℕ) (old mid new : Option (List ℕ)) (rules : List Rule)
    (pass pass1 pass2 : PassView) (held held1 held2 : Option (List ℕ)) (number number' : ℕ)
    (ask : List ℕ) (is_line : Bool)
    → Asking max first old mid rules pass pass1 held held1 number
    → TakesLine max (number + 1) mid new ask (Ok is_line) → is_line ≡ true
    → number' ≡ number_after number (Ok is_line)
    → Renews Legal (read_of pass1) (read_of pass2)
    → AnswersAsk rules pass2.seen ask held1 held2
    → Asking max first old new rules pass pass2 held held2 number'
asking_more max first old mid new rules pass pass1 pass2 held held1 held2 number number' ask
    false so takes is number_is renews answer = absurd (cc)
asking_more max first old mid new rules pass pass1 pass2 held held1 held2 number number' ask
    true so takes is number_is renews answer =
    let more = length_more so.asks ask in
    record {
      asks = so.asks ++ ask ∷ [];
      text = so.text ++ answer_line rules answer.0 ask;
      written = Appends-trans held held1 held2 so.text (answer_line rules answer.0 ask) so.written
          answer.2;
      answers = answers_more rules pass pass1 pass2 so.asks ask so.text answer.0 so.answers renews
          answer.1;
      number_is = omega (arith, number_is, so.number_is, more);
      kept = kept_more max first number so.asks ask so.kept so.number_is takes.1;
      remains = remains_less max (number + 1) old mid new so.asks ask so.remains takes;
    }

all_asks : (max first number count : ℕ) (old mid new : Option (List ℕ)) (asks : List (List ℕ))
    (ask : List ℕ) → Remains old mid asks → asks_rule max first asks ≡ Ok tt
    → count ≡ length asks → TakesLine max number mid new ask (Ok false)
    → AreAsks max first old new asks (Ok count)
all_asks max first number count None mid new asks ask so kept count_is takes = tt
all_asks max first number count (Some a) None new asks ask so kept count_is takes = absurd so
all_asks max first number count (Some a) (Some b) None asks ask so kept count_is takes =
    absurd takes.0
all_asks max first number count (Some a) (Some b) (Some c) asks ask so kept count_is takes = (
  so ∙ ap (λ (l : List (List ℕ)). asks ++ l) (takes.0 ∙ takes.1) ∙ append-nil asks,
  kept,
  count_is,
)

pub asked_all : (max first : ℕ) (old mid new : Option (List ℕ)) (rules : List Rule)
    (pass pass' : PassView) (held held' : Option (List ℕ)) (number count : ℕ) (ask : List ℕ)
    (is_line : Bool) → Asking max first old mid rules pass pass' held held' number
    → TakesLine max (number + 1) mid new ask (Ok is_line) → is_line ≡ false
    → count + first ≡ number + 1
    → ServesAsks max first old new rules pass pass' held held' (Ok count)
asked_all max first old mid new rules pass pass' held held' number count ask true so takes is
    count_is =
    absurd (cc)
asked_all max first old mid new rules pass pass' held held' number count ask false so takes is
    count_is =
    record {
      asks = so.asks;
      text = so.text;
      written = so.written;
      answers = so.answers;
      asks_are = all_asks max first (number + 1) count old mid new so.asks ask so.remains so.kept
          (omega (arith, so.number_is, count_is)) takes;
    }

first_breaks : (max first number : ℕ) (a c : List ℕ) (asks : List (List ℕ)) (e : GateError)
    → lines_of a ≡ asks ++ lines_of c → asks_rule max first asks ≡ Ok tt
    → number + 1 ≡ first + length asks → Breaks max (number + 1) c e
    → (asks_before max first (lines_of a) ≡ asks) × (asks_rule max first (lines_of a) ≡ Err e)
first_breaks max first number a c asks e is kept number_is breaks =
    let lines = is ∙ ap (λ (l : List (List ℕ)). asks ++ l) breaks.lines_are in
    let rule = ap (λ (n : ℕ). line_rule max n breaks.line) (sym number_is) ∙ breaks.rule in (
      ap (asks_before max first) lines
          ∙ before_joined max first asks (breaks.line ∷ breaks.others) kept
          ∙ rw rule (append-nil asks),
      ap (asks_rule max first) lines
          ∙ asks_joined max first asks (breaks.line ∷ breaks.others) kept ∙ rw rule refl,
    )

broken_asks : (max first number : ℕ) (old mid new : Option (List ℕ)) (asks : List (List ℕ))
    (ask : List ℕ) (e : GateError) → is_cut {T = ℕ} (Err e) ≡ false → Remains old mid asks
    → asks_rule max first asks ≡ Ok tt → number + 1 ≡ first + length asks
    → TakesLine max (number + 1) mid new ask (Err e) → AreAsks max first old new asks (Err e)
broken_asks max first number None mid new asks ask e uncut so kept at takes = tt
broken_asks max first number (Some a) None new asks ask e uncut so kept at takes = absurd so
broken_asks max first number (Some a) (Some b) None asks ask errors.ReadFault uncut so kept at takes
    = absurd takes
broken_asks max first number (Some a) (Some b) (Some c) asks ask errors.ReadFault uncut so kept at
    takes =
    (so ∙ ap (λ (l : List (List ℕ)). asks ++ l) takes, kept)
broken_asks max first number (Some a) (Some b) new asks ask errors.OutOfMemory uncut so kept at
    takes = absurd (cc)
broken_asks max first number (Some a) (Some b) new asks ask errors.WriteFault uncut so kept at takes
    = absurd (cc)
broken_asks max first number (Some a) (Some b) None asks ask (errors.BadRule line) uncut so kept at
    takes = absurd takes.0
broken_asks max first number (Some a) (Some b) (Some c) asks ask (errors.BadRule line) uncut so kept
    at takes =
    first_breaks max first number a c asks _
    (so ∙ ap (λ (l : List (List ℕ)). asks ++ l) takes.0) kept at takes.1
broken_asks max first number (Some a) (Some b) None asks ask errors.NoPolicyEnd uncut so kept at
    takes = absurd takes.0
broken_asks max first number (Some a) (Some b) (Some c) asks ask errors.NoPolicyEnd uncut so kept at
    takes =
    first_breaks max first number a c asks _
    (so ∙ ap (λ (l : List (List ℕ)). asks ++ l) takes.0) kept at takes.1
broken_asks max first number (Some a) (Some b) None asks ask (errors.LineTooLong line) uncut so kept
    at takes = absurd takes.0
broken_asks max first number (Some a) (Some b) (Some c) asks ask (errors.LineTooLong line) uncut so
    kept at takes =
    first_breaks max first number a c asks _
    (so ∙ ap (λ (l : List (List ℕ)). asks ++ l) takes.0) kept at takes.1
broken_asks max first number (Some a) (Some b) None asks ask (errors.NotText line) uncut so kept at
    takes = absurd takes.0
broken_asks max first number (Some a) (Some b) (Some c) asks ask (errors.NotText line) uncut so kept
    at takes =
    first_breaks max first number a c asks _
    (so ∙ ap (λ (l : List (List ℕ)). asks ++ l) takes.0) kept at takes.1
broken_asks max first number (Some a) (Some b) None asks ask errors.TooManyLines uncut so kept at
    takes = absurd takes.0
broken_asks max first number (Some a) (Some b) (Some c) asks ask errors.TooManyLines uncut so kept
    at takes =
    first_breaks max first number a c asks _
    (so ∙ ap (λ (l : List (List ℕ)). asks ++ l) takes.0) kept at takes.1

pub asked_until : (max first : ℕ) (old mid new : Option (List ℕ)) (rules : List Rule)
    (pass pass' : PassView) (held held' : Option (List ℕ)) (number : ℕ) (ask : List ℕ)
    (e : GateError) → is_cut {T = ℕ} (Err e) ≡ false
    → Asking max first old mid rules pass pass' held held' number
    → TakesLine max (number + 1) mid new ask (Err e)
    → ServesAsks max first old new rules pass pass' held held' (Err e)
asked_until max first old mid new rules pass pass' held held' number ask e uncut so takes =
    record {
      asks = so.asks;
      text = so.text;
      written = so.written;
      answers = so.answers;
      asks_are = broken_asks max first number old mid new so.asks ask e uncut so.remains so.kept
          so.number_is takes;
    }

-- ---- the whole input

policy_error : (max after : ℕ) (left left' : Option (List ℕ)) (o : List ℕ) (e : GateError)
    → ReadsPolicy max 0 after (prepend_known [] left) (prepend_known o left') (Err e)
    → is_cut {T = ℕ} (Err e) ≡ false → (e ≡ errors.ReadFault → HasNoFeed o)
    → IfSome left (λ bytes. AreRead max bytes left' [] [] (Err e))
policy_error max after None left' o e reads uncut begun = tt
policy_error max after (Some a) None o e reads uncut begun = absurd reads
policy_error max after (Some a) (Some c) o errors.ReadFault reads uncut begun =
    (o, begun refl, inl (refl, reads))
policy_error max after (Some a) (Some c) o errors.OutOfMemory reads uncut begun = absurd (cc)
policy_error max after (Some a) (Some c) o errors.WriteFault reads uncut begun = absurd (cc)
policy_error max after (Some a) (Some c) o (errors.BadRule line) reads uncut begun =
    inl (refl, reads)
policy_error max after (Some a) (Some c) o errors.NoPolicyEnd reads uncut begun = inl (refl, reads)
policy_error max after (Some a) (Some c) o (errors.LineTooLong line) reads uncut begun =
    inl (refl, reads)
policy_error max after (Some a) (Some c) o (errors.NotText line) reads uncut begun =
    inl (refl, reads)
policy_error max after (Some a) (Some c) o errors.TooManyLines reads uncut begun = inl (refl, reads)

-- the policy is not read to its end
pub refused_policy : (max max' number after : ℕ) (o o' : List ℕ) (left left' : Option (List ℕ))
    (pass : PassView) (held : Option (List ℕ)) (e : GateError) → o ≡ [] → number ≡ 0 → max' ≡ max
    → is_cut {T = ℕ} (Err e) ≡ false
    → ReadsPolicy max' number after (prepend_known o left) (prepend_known o' left') (Err e)
    → (e ≡ errors.ReadFault → HasNoFeed o')
    → Serves max left left' pass pass held held (Err e)
refused_policy max max' number after o o' left left' pass held e o_is number_is max_is uncut reads
    begun =
    let new = prepend_known o' left' in
    let first = subst (λ (x : List ℕ).
    ReadsPolicy max' number after (prepend_known x left) new (Err e)) o_is reads in
    let second = subst (λ (n : ℕ).
    ReadsPolicy max' n after (prepend_known [] left) new (Err e)) number_is first in
    let third = subst (λ (m : ℕ).
    ReadsPolicy m 0 after (prepend_known [] left) new (Err e)) max_is second in
    record {
      rules = [];
      asks = [];
      text = [];
      written = Appends-nil held;
      answers = (refl, refl);
      read = policy_error max after left left' o' e third uncut begun;
    }

asks_read : (max after : ℕ) (left mid left' : Option (List ℕ)) (o : List ℕ) (rules : List Rule)
    (asks : List (List ℕ)) (r : Result ℕ GateError)
    → ReadsPolicy max 0 after (prepend_known [] left) mid (Ok rules)
    → AreAsks max (after + 1) mid (prepend_known o left') asks r → is_cut r ≡ false
    → (r ≡ Err errors.ReadFault → HasNoFeed o)
    → IfSome left (λ bytes. AreRead max bytes left' rules asks r)
asks_read max after None mid left' o rules asks r policy so uncut begun = tt
asks_read max after (Some a) None left' o rules asks r policy so uncut begun = absurd policy
asks_read max after (Some a) (Some m) None o rules asks r policy so uncut begun = absurd so
asks_read max after (Some a) (Some m) (Some c) o rules asks (Ok count) policy so uncut begun =
    (_, policy, refl, so.0, so.1, so.2)
asks_read max after (Some a) (Some m) (Some c) o rules asks (Err errors.ReadFault) policy so uncut
    begun =
    (o, begun refl, inr (_, policy, refl, so.0, so.1))
asks_read max after (Some a) (Some m) (Some c) o rules asks (Err errors.OutOfMemory) policy so uncut
    begun =
    absurd (cc)
asks_read max after (Some a) (Some m) (Some c) o rules asks (Err errors.WriteFault) policy so uncut
    begun =
    absurd (cc)
asks_read max after (Some a) (Some m) (Some c) o rules asks (Err (errors.BadRule line)) policy so
    uncut begun =
    inr (_, policy, refl, so.0, so.1)
asks_read max after (Some a) (Some m) (Some c) o rules asks (Err errors.NoPolicyEnd) policy so
    uncut begun =
    inr (_, policy, refl, so.0, so.1)
asks_read max after (Some a) (Some m) (Some c) o rules asks (Err (errors.LineTooLong line)) policy
    so uncut begun =
    inr (_, policy, refl, so.0, so.1)
asks_read max after (Some a) (Some m) (Some c) o rules asks (Err (errors.NotText line)) policy so
    uncut begun =
    inr (_, policy, refl, so.0, so.1)
asks_read max after (Some a) (Some m) (Some c) o rules asks (Err errors.TooManyLines) policy so
    uncut begun =
    inr (_, policy, refl, so.0, so.1)

-- the policy is read, and asks are answered by it
pub served : (max max' max'' number after : ℕ) (o o' : List ℕ) (left mid left' : Option (List ℕ))
    (rules rules' : List Rule) (pass pass' : PassView) (held held' : Option (List ℕ))
    (r : Result ℕ GateError) → o ≡ [] → number ≡ 0 → max' ≡ max → max'' ≡ max' → rules' ≡ rules
    → is_cut r ≡ false
    → ReadsPolicy max' number after (prepend_known o left) mid (Ok rules)
    → ServesAsks max'' (after + 1) mid (prepend_known o' left') rules' pass pass' held held' r
    → (r ≡ Err errors.ReadFault → HasNoFeed o')
    → Serves max left left' pass pass' held held' r
served max max' max'' number after o o' left mid left' rules rules' pass pass' held held' r o_is
    number_is max_is again same uncut reads so begun =
    let first = subst (λ (x : List ℕ).
    ReadsPolicy max' number after (prepend_known x left) mid (Ok rules)) o_is reads in
    let second = subst (λ (n : ℕ).
    ReadsPolicy max' n after (prepend_known [] left) mid (Ok rules)) number_is first in
    let third = subst (λ (m : ℕ).
    ReadsPolicy m 0 after (prepend_known [] left) mid (Ok rules)) max_is second in
    record {
      rules = rules;
      asks = so.asks;
      text = so.text;
      written = so.written;
      answers = subst (λ (l : List Rule). AreAnswers l pass so.asks so.text pass') same so.answers;
      read = asks_read max after left mid left' o' rules so.asks r third
          (subst (λ (m : ℕ). AreAsks m (after + 1) mid (prepend_known o' left') so.asks r)
          (again ∙ max_is) so.asks_are)
          uncut begun;
    }

-- the bound of lines stays
pub retake : (max max' number : ℕ) (old new : Option (List ℕ)) (line : List ℕ)
    (r : Result Bool GateError) → max' ≡ max → TakesLine max' number old new line r
    → TakesLine max number old new line r
retake max max' number old new line r same takes =
    subst (λ (m : ℕ). TakesLine m number old new line r) same takes

pub sees_more : (a b c : PassView) → SeesNoLess a b → SeesNoLess b c → SeesNoLess a c
sees_more a b c first second = record {
  book = second.book ∙ first.book;
  seen = begins_trans a.seen b.seen c.seen first.seen second.seen;
  entered = begins_trans a.entered b.entered c.entered first.entered second.entered;
}

pub sees_same : (a : PassView) → SeesNoLess a a
sees_same a = record { book = refl; seen = begins_self a.seen; entered = begins_self a.entered }

-- an error is the same in results of any kind
pub retyped : {A B : Type 0} (e f : GateError) → IsErrOf {T = A} (Err e) f
    → IsErrOf {T = B} (Err e) f
retyped e f is = let same : e ≡ f = cc (is) in ap (λ (x : GateError). Err x) same
