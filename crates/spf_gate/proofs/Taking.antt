-- What is read of an input and what is left of it, as lines.
use Rattle.std.proofs.Common.{◌≡◌, ◌≢◌, ◌∙◌, refl, sym, ap, subst, ℕ, ◌+◌, ◌<◌, ◌≤◌, List, [], ◌∷◌}
use Rattle.std.proofs.Common.{◌++◌}
use Rattle.std.proofs.Common.{length, take, drop, Option, Some, None, IfSome, Result, Ok, Err}
use Rattle.std.proofs.Common.{arith}
use Rattle.std.proofs.Common.{append_assoc, not, true, false}
use Rattle.std.proofs.lemmas.List.Sums.{prefix_len-le-length}
use Rattle.std.proofs.lemmas.List.{append-nil, take_all, drop_all, length-take-le}
use Rattle.std.proofs.KnownBytes.{Consumes-kept}
use Rattle.std.specs.Io.KnownBytes.{IsAtEnd, prepend_known}
use Rattle.std.specs.List.{before_first, after_first, position_or_len}
use Rattle.spf_gate.specs.declared.gate_error.GateError.{GateError}
use Rattle.spf_gate.specs.declared.gate_error.GateError.TheVariants as errors
use Rattle.spf_gate.specs.Lines.{is_feed, is_memory_gate, lines_of, line_rule, text_rule}
use Rattle.std.specs.Bool.{MatchBool}
use Rattle.spf_gate.specs.Reading.{Adds, Fills, FillsLine, HasNoFeed, IsFirstFeed, Hands, Breaks}
use Rattle.spf_gate.specs.Reading.{EndsLine, TakesLine}
use Rattle.spf_gate.specs.declared.line_reader.LineEnd.{LineEnd}
use Rattle.spf_gate.specs.declared.line_reader.LineEnd.TheVariants as ends
use Rattle.spf_gate.proofs.FirstFeed.{first_line, fed_line, no_lines, whole_line}
use Rattle.spf_gate.proofs.FirstFeed.{position_out}

-- a read that failed leaves all as it was
pub stopped : (a b c : Option (List ℕ)) (o p q : List ℕ) (max number : ℕ) (e : GateError)
    → Adds a b o p → HasNoFeed p → Fills b c p q (Err e) → FillsLine a c o q max number (Err e)
stopped a b c o p q max number errors.ReadFault adds none fills = record {
  adds = record {
    piece = adds.piece;
    octets_are = fills.0 ∙ adds.octets_are;
    taken = Consumes-kept a b c adds.piece adds.taken fills.1;
  };
  end = subst HasNoFeed (sym fills.0) none;
}
stopped a b c o p q max number errors.OutOfMemory adds none fills = record {
  adds = record {
    piece = adds.piece;
    octets_are = fills.0 ∙ adds.octets_are;
    taken = Consumes-kept a b c adds.piece adds.taken fills.1;
  };
  end = tt;
}
stopped a b c o p q max number errors.WriteFault adds none fills = absurd fills
stopped a b c o p q max number (errors.BadRule line) adds none fills = absurd fills
stopped a b c o p q max number errors.NoPolicyEnd adds none fills = absurd fills
stopped a b c o p q max number (errors.LineTooLong line) adds none fills = absurd fills
stopped a b c o p q max number (errors.NotText line) adds none fills = absurd fills
stopped a b c o p q max number errors.TooManyLines adds none fills = absurd fills

-- the bytes to come, where they are known, are the same after a read
pub same_bytes : (o q piece x y : List ℕ) → q ≡ o ++ piece → x ≡ piece ++ y → o ++ x ≡ q ++ y
same_bytes o q piece x y added taken =
    ap (λ (l : List ℕ). o ++ l) taken ∙ sym (append_assoc o piece y)
    ∙ ap (λ (l : List ℕ). l ++ y) (sym added)

-- lines are taken of what is read and what is left
pub hands : (a b : Option (List ℕ)) (o q r : List ℕ) (lines : List (List ℕ)) → Adds a b o q
    → ((y : List ℕ) → lines_of (q ++ y) ≡ lines ++ lines_of (r ++ y))
    → Hands (prepend_known o a) (prepend_known r b) lines
hands None b o q r lines adds cut = tt
hands (Some x) None o q r lines adds cut = absurd adds.taken
hands (Some x) (Some y) o q r lines adds cut =
    ap lines_of (same_bytes o q adds.piece x y adds.octets_are adds.taken) ∙ cut y

-- the same where nothing is left
pub hands_last : (a b : Option (List ℕ)) (o q r : List ℕ) (lines : List (List ℕ)) → Adds a b o q
    → IsAtEnd b → lines_of (q ++ []) ≡ lines ++ lines_of (r ++ [])
    → Hands (prepend_known o a) (prepend_known r b) lines
hands_last None b o q r lines adds end cut = tt
hands_last (Some x) None o q r lines adds end cut = absurd adds.taken
hands_last (Some x) (Some y) o q r lines adds end cut =
    ap lines_of (same_bytes o q adds.piece x y adds.octets_are adds.taken)
    ∙ rw end cut

pub all_known : (b : Option (List ℕ)) (q : List ℕ) (P : List ℕ → Type 0)
    → ((y : List ℕ) → P (q ++ y)) → IfSome (prepend_known q b) P
all_known None q P all = tt
all_known (Some y) q P all = all y

pub end_known : (b : Option (List ℕ)) (q : List ℕ) (P : List ℕ → Type 0) → IsAtEnd b
    → P (q ++ []) → IfSome (prepend_known q b) P
end_known None q P end all = tt
end_known (Some y) q P end all = subst (λ (l : List ℕ). P (q ++ l)) (sym end) all

-- a line that is allowed keeps the rules of lines where it keeps those of its text
pub allowed : (max number : ℕ) (line : List ℕ) → number < max
    → line_rule max (number + 1) line ≡ text_rule (number + 1) line
unfolding line_rule
allowed max number line lt = search (arith, lt)

pub refused : (max number : ℕ) (line : List ℕ) → max ≤ number
    → line_rule max (number + 1) line ≡ Err errors.TooManyLines
unfolding line_rule
refused max number line le = search (arith, le)

pub too_long : (number : ℕ) (line : List ℕ) → 4096 < length line
    → text_rule number line ≡ Err (errors.LineTooLong number)
unfolding text_rule
too_long number line lt = search (arith, lt)

-- ---- why a line is refused

pub breaks_fed : (max number : ℕ) (q y : List ℕ) (n : ℕ) (e : GateError) → IsFirstFeed q (Some n)
    → number < max → text_rule (number + 1) (take n q) ≡ Err e
    → Breaks max (number + 1) (q ++ y) e
breaks_fed max number q y n e h lt rule = record {
  line = take n q;
  others = lines_of (drop (n + 1) q ++ y);
  lines_are = fed_line q y n h;
  rule = allowed max number (take n q) lt ∙ rule;
}

pub breaks_whole : (max number : ℕ) (q : List ℕ) (e : GateError) → HasNoFeed q → q ≢ []
    → number < max → text_rule (number + 1) q ≡ Err e → Breaks max (number + 1) (q ++ []) e
breaks_whole max number q e none some lt rule = record {
  line = q;
  others = [];
  lines_are = ap lines_of (append-nil q) ∙ whole_line q none some;
  rule = allowed max number q lt ∙ rule;
}

some_more : (q y : List ℕ) → q ≢ [] → (q ++ y) ≢ []
some_more [] y some = absurd (some refl)
some_more (c ∷ q) y some = λ is. absurd (cc)

pub breaks_bound : (max number : ℕ) (q y : List ℕ) → q ≢ [] → max ≤ number
    → Breaks max (number + 1) (q ++ y) errors.TooManyLines
breaks_bound max number q y some le = record {
  line = before_first is_feed (q ++ y);
  others = lines_of (after_first is_feed (q ++ y));
  lines_are = first_line (q ++ y) (some_more q y some);
  rule = refused max number (before_first is_feed (q ++ y)) le;
}

long_front : (q y : List ℕ) → HasNoFeed q → length q ≤ length (before_first is_feed (q ++ y))
long_front q y none =
    let at = position_out q y none in
    let le = prefix_len-le-length (λ c. not (is_feed c)) (q ++ y) in
    omega (arith, at, length-take-le (position_or_len is_feed (q ++ y)) (q ++ y) le)

pub breaks_long : (max number : ℕ) (q y : List ℕ) → HasNoFeed q → 4096 < length q → number < max
    → Breaks max (number + 1) (q ++ y) (errors.LineTooLong (number + 1))
breaks_long max number q y none long lt = record {
  line = before_first is_feed (q ++ y);
  others = lines_of (after_first is_feed (q ++ y));
  lines_are =
      first_line (q ++ y) (some_more q y (λ is. absurd (omega (arith, long, ap length is))));
  rule = allowed max number (before_first is_feed (q ++ y)) lt
      ∙ too_long (number + 1) (before_first is_feed (q ++ y))
      (omega (arith, long, long_front q y none));
}

-- ---- what a call says, by its error

-- the text of a line breaks a rule, or memory ran out
pub take_refused : (max number : ℕ) (old new : Option (List ℕ)) (text : List ℕ)
    (rule : Result (Unit {0}) GateError) (e : GateError) → Hands old new []
    → MatchBool (is_memory_gate e) (Unit {0}) (rule ≡ Err e)
    → (rule ≡ Err e → IfSome new (λ bytes. Breaks max number bytes e))
    → TakesLine max number old new text (Err e)
take_refused max number old new text rule errors.ReadFault same broken breaks = same
take_refused max number old new text rule errors.OutOfMemory same broken breaks = same
take_refused max number old new text rule errors.WriteFault same broken breaks =
    (same, breaks broken)
take_refused max number old new text rule (errors.BadRule line) same broken breaks =
    (same, breaks broken)
take_refused max number old new text rule errors.NoPolicyEnd same broken breaks =
    (same, breaks broken)
take_refused max number old new text rule (errors.LineTooLong line) same broken breaks =
    (same, breaks broken)
take_refused max number old new text rule (errors.NotText line) same broken breaks =
    (same, breaks broken)
take_refused max number old new text rule errors.TooManyLines same broken breaks =
    (same, breaks broken)

-- a line was taken that ends with a line feed
pub took_fed : (a b : Option (List ℕ)) (o q r text : List ℕ) (n max number : ℕ) (end : LineEnd)
    → FillsLine a b o q max number (Ok end) → end ≡ ends.Feed n → text ≡ take n q
    → r ≡ drop (n + 1) q → text_rule (number + 1) (take n q) ≡ Ok tt
    → TakesLine max (number + 1) (prepend_known o a) (prepend_known r b) text (Ok true)
took_fed a b o q r text n max number end f end_is text_is r_is rule =
    let h = subst (λ (x : LineEnd). EndsLine b q max number (Ok x)) end_is f.end in
    rw (text_is, r_is) (
      hands a b o q (drop (n + 1) q) (take n q ∷ []) f.adds (λ y. fed_line q y n h.0),
      allowed max number (take n q) h.1 ∙ rule,
    )

-- it was refused
pub refused_fed : (a b : Option (List ℕ)) (o q r text : List ℕ) (n max number : ℕ) (e : GateError)
    (end : LineEnd) → FillsLine a b o q max number (Ok end) → end ≡ ends.Feed n → r ≡ q
    → MatchBool (is_memory_gate e) (Unit {0}) (text_rule (number + 1) (take n q) ≡ Err e)
    → TakesLine max (number + 1) (prepend_known o a) (prepend_known r b) text (Err e)
refused_fed a b o q r text n max number e end f end_is r_is broken =
    let h = subst (λ (x : LineEnd). EndsLine b q max number (Ok x)) end_is f.end in
    subst (λ (l : List ℕ).
    TakesLine max (number + 1) (prepend_known o a) (prepend_known l b) text (Err e)) (sym r_is)
    (take_refused max (number + 1) (prepend_known o a) (prepend_known q b) text
    (text_rule (number + 1) (take n q)) e (hands a b o q q [] f.adds (λ y. refl)) broken
    (λ rule. all_known b q _ (λ y. breaks_fed max number q y n e h.0 h.1 rule)))

-- the last line was taken, which lacks a line feed
pub took_rest : (a b : Option (List ℕ)) (o q r text : List ℕ) (n max number : ℕ) (end : LineEnd)
    → FillsLine a b o q max number (Ok end) → end ≡ ends.Rest → n ≡ length q → text ≡ take n q
    → r ≡ drop n q → text_rule (number + 1) (take n q) ≡ Ok tt
    → TakesLine max (number + 1) (prepend_known o a) (prepend_known r b) text (Ok true)
took_rest a b o q r text n max number end f end_is n_is text_is r_is rule =
    let h = subst (λ (x : LineEnd). EndsLine b q max number (Ok x)) end_is f.end in
    let whole = take_all n q (omega (arith, n_is)) in
    rw (text_is, r_is, whole, drop_all n q (omega (arith, n_is))) (
      hands_last a b o q [] (q ∷ []) f.adds h.0
          (ap lines_of (append-nil q) ∙ whole_line q h.1 h.2
          ∙ ap (λ (l : List (List ℕ)). q ∷ l) (sym no_lines)),
      allowed max number q h.3 ∙ ap (text_rule (number + 1)) (sym whole) ∙ rule,
    )

-- it was refused
pub refused_rest : (a b : Option (List ℕ)) (o q r text : List ℕ) (n max number : ℕ) (e : GateError)
    (end : LineEnd) → FillsLine a b o q max number (Ok end) → end ≡ ends.Rest → n ≡ length q
    → r ≡ q
    → MatchBool (is_memory_gate e) (Unit {0}) (text_rule (number + 1) (take n q) ≡ Err e)
    → TakesLine max (number + 1) (prepend_known o a) (prepend_known r b) text (Err e)
refused_rest a b o q r text n max number e end f end_is n_is r_is broken =
    let h = subst (λ (x : LineEnd). EndsLine b q max number (Ok x)) end_is f.end in
    let whole = take_all n q (omega (arith, n_is)) in
    subst (λ (l : List ℕ).
    TakesLine max (number + 1) (prepend_known o a) (prepend_known l b) text (Err e)) (sym r_is)
    (take_refused max (number + 1) (prepend_known o a) (prepend_known q b) text
    (text_rule (number + 1) (take n q)) e (hands a b o q q [] f.adds (λ y. refl)) broken
    (λ rule. end_known b q _ h.0
    (breaks_whole max number q e h.1 h.2 h.3
    (ap (text_rule (number + 1)) (sym whole) ∙ rule))))

-- nothing is left
pub took_nothing : (a b : Option (List ℕ)) (o q text : List ℕ) (max number : ℕ) (end : LineEnd)
    → FillsLine a b o q max number (Ok end) → end ≡ ends.Nothing
    → TakesLine max (number + 1) (prepend_known o a) (prepend_known q b) text (Ok false)
took_nothing a b o q text max number end f end_is =
    let h = subst (λ (x : LineEnd). EndsLine b q max number (Ok x)) end_is f.end in (
      hands a b o q q [] f.adds (λ y. refl),
      end_known b q _ h.0 (ap (λ (l : List ℕ). lines_of (l ++ [])) h.1 ∙ no_lines),
    )

-- where the source failed, no line has come whole
pub fill_begun : (a b : Option (List ℕ)) (o q : List ℕ) (max number : ℕ) (e : GateError)
    → FillsLine a b o q max number (Err e) → e ≡ errors.ReadFault → HasNoFeed q
fill_begun a b o q max number e f is =
    subst (λ (x : GateError). EndsLine b q max number (Err x)) is f.end

-- no whole line came
pub fill_refused : (a b : Option (List ℕ)) (o q : List ℕ) (max number : ℕ) (text : List ℕ)
    (e : GateError) → FillsLine a b o q max number (Err e)
    → TakesLine max (number + 1) (prepend_known o a) (prepend_known q b) text (Err e)
fill_refused a b o q max number text errors.ReadFault f = hands a b o q q [] f.adds (λ y. refl)
fill_refused a b o q max number text errors.OutOfMemory f = hands a b o q q [] f.adds (λ y. refl)
fill_refused a b o q max number text errors.TooManyLines f = (
  hands a b o q q [] f.adds (λ y. refl),
  all_known b q _ (λ y. breaks_bound max number q y f.end.0 f.end.1),
)
fill_refused a b o q max number text (errors.LineTooLong line) f = (
  hands a b o q q [] f.adds (λ y. refl),
  all_known b q _ (λ y.
      subst (λ (n : ℕ). Breaks max (number + 1) (q ++ y) (errors.LineTooLong n)) (sym f.end.0)
      (breaks_long max number q y f.end.1 f.end.2 f.end.3)),
)
fill_refused a b o q max number text errors.WriteFault f = absurd f.end
fill_refused a b o q max number text (errors.BadRule line) f = absurd f.end
fill_refused a b o q max number text errors.NoPolicyEnd f = absurd f.end
fill_refused a b o q max number text (errors.NotText line) f = absurd f.end
