-- What a tally of the lines of a session says: the revision
-- after its events, and how many leave the view withdrawn.
use Rattle.std.proofs.Common.{◌≡◌, refl, sym, ap, subst, ◌∙◌, ℕ, ◌+◌, ◌-◌, ◌^◌, ◌<◌, Bool, true}
use Rattle.std.proofs.Common.{false, if◌then◌else◌, ℤ, List, [], ◌∷◌, ◌++◌, length, reverse, Option}
use Rattle.std.proofs.Common.{decimal, codes, append_assoc, arith}
use Rattle.std.proofs.lemmas.List.{append-nil, append_cancel_right, reverse-append}
use Rattle.spf_view.specs.Views.{View, Waiting, Withdrawn, Permitted, last_moment, outcomes}
use Rattle.spf_view.specs.Views.{view_of, revision_of, revision_after}
use Rattle.spf_feed.specs.declared.step.Denial.{Denial}
use Rattle.spf_feed.specs.declared.step.Denial.TheVariants as denial
use Rattle.spf_feed.specs.Items.{Event, Rules, subject}
use Rattle.spf_feed.specs.Material.{Material}
use Rattle.spf_feed.specs.Steps.{same_material}
use Rattle.spf_feed.specs.Shown.{visible_text, view_line, shown_text}
use Rattle.spf_feed.specs.OneLine.{IsLine}
use Rattle.spf_feed.specs.Run.{outputs}
use Rattle.spf_watch.specs.Headline.{lines_of}
use Rattle.spf_watch.specs.Summary.{is_withdrawn, withdrawn_of}
use Rattle.spf_watch.specs.Tallied.{Tallied, revision_in, withdrawn_in, tally_from, tally_of}
use Rattle.spf_watch.proofs.Searched.{Avoids}
use Rattle.spf_watch.proofs.TallyLemmas.{counted, tally_append, tally_line, tally_nothing}
use Rattle.spf_watch.proofs.LineLemmas.{waiting_unread, waiting_uncounted, revision_read}
use Rattle.spf_watch.proofs.LineLemmas.{third_read}
use Rattle.spf_watch.proofs.RevisionShown.{revision_unseen}

-- ---- one line

-- what follows the number of an event, without the line feed
abbrev words_of : View Material Denial → ℕ → Option ℤ → List ℕ
words_of Waiting revision now = codes "waiting"
words_of (Withdrawn reason) revision now = decimal revision ++ visible_text (Withdrawn reason) now
words_of (Permitted material) revision now =
    decimal revision ++ visible_text (Permitted material) now

-- the line of a view is its fields and a line feed
line_is : (number : List ℕ) (view : View Material Denial) (revision : ℕ) (now : Option ℤ)
    → number ++ shown_text view revision now
    ≡ (number ++ 32 ∷ words_of view revision now) ++ 10 ∷ []
unfolding shown_text view_line
line_is number Waiting revision now = sym (append_assoc number (codes " waiting") (10 ∷ []))
line_is number (Withdrawn reason) revision now =
    sym (append_assoc number (32 ∷ words_of (Withdrawn reason) revision now) (10 ∷ []))
line_is number (Permitted material) revision now =
    sym (append_assoc number (32 ∷ words_of (Permitted material) revision now) (10 ∷ []))

-- the fields of a view say its revision, where a view of nothing leaves it right
revision_said : (view : View Material Denial) (before n revision : ℕ) (now : Option ℤ) → n < 2 ^ 64
    → revision < 2 ^ 64 → (view ≡ Waiting → revision ≡ before)
    → revision_in before (decimal n ++ 32 ∷ words_of view revision now) ≡ revision
revision_said Waiting before n revision now small fits same =
    waiting_unread before n small ∙ sym (same refl)
revision_said (Withdrawn denial.NoIdentityIssued) before n revision now small fits same =
    revision_read before n revision _ small fits
revision_said (Withdrawn (denial.PermissionDenied message)) before n revision now small fits same =
    revision_read before n revision _ small fits
revision_said (Permitted material) before n revision now small fits same =
    revision_read before n revision _ small fits

-- they say whether it is withdrawn
withdrawn_said : (view : View Material Denial) (before n revision : ℕ) (now : Option ℤ) → n < 2 ^ 64
    → revision < 2 ^ 64
    → withdrawn_in before (decimal n ++ 32 ∷ words_of view revision now)
    ≡ counted (is_withdrawn view) before
withdrawn_said Waiting before n revision now small fits = waiting_uncounted before n small
withdrawn_said (Withdrawn denial.NoIdentityIssued) before n revision now small fits =
    third_read before n revision _ true small fits refl
withdrawn_said (Withdrawn (denial.PermissionDenied message)) before n revision now small fits =
    third_read before n revision _ true small fits refl
withdrawn_said (Permitted material) before n revision now small fits =
    third_read before n revision _ false small fits refl

-- a tally takes a line
line_taken : (text words : List ℕ) (revision withdrawn : ℕ) → IsLine text → text ≡ words ++ 10 ∷ []
    → tally_from (record { revision = revision; withdrawn = withdrawn; unfinished = [] }) text
    ≡ record {
      revision = revision_in revision words;
      withdrawn = withdrawn_in withdrawn words;
      unfinished = [];
    }
line_taken text words revision withdrawn line is =
    let before : Tallied = record { revision = revision; withdrawn = withdrawn; unfinished = [] } in
    let same : line.body ≡ words =
    append_cancel_right line.body words (10 ∷ []) (sym line.text_is ∙ is) in
    ap (tally_from before) is
    ∙ tally_line before words (subst (Avoids 10) same (λ k lt. line.plain k 0 lt))

-- ---- all lines

-- the revision after a history
abbrev pub revision_after_history : Rules → List Event → ℕ
revision_after_history rules past = revision_of same_material (outcomes (subject rules) past)

-- a count below the end of its type is raised
counted_below : (b : Bool) (n : ℕ) → n < 2 ^ 64 - 1 → counted b n ≡ n + (if b then 1 else 0)
counted_below true n small = omega arith
counted_below false n small = omega arith

-- there is room for the counts of the other lines
counted_within : (b : Bool) (n m k : ℕ) → n < 2 ^ 64 - 1 → n + (1 + k) < m → counted b n + k < m
counted_within true n m k small room = omega arith
counted_within false n m k small room = omega arith

-- a tally after a history takes the lines of further events
pub lines_taken : (rules : Rules)
    → ((past : List Event) (e : Event) → IsLine ((outputs rules).line past e))
    → (past es : List Event) (withdrawn : ℕ)
    → length past + length es < 2 ^ 64 - 1 → withdrawn + length es < 2 ^ 64 - 1
    → tally_from
    (record {
      revision = revision_after_history rules past;
      withdrawn = withdrawn;
      unfinished = [];
    }) (lines_of (outputs rules) past es)
    ≡ record {
      revision = revision_after_history rules (reverse es ++ past);
      withdrawn = withdrawn + withdrawn_of rules past es;
      unfinished = [];
    }
lines_taken rules plain past [] withdrawn short room =
    tally_nothing
    (record {
      revision = revision_after_history rules past;
      withdrawn = withdrawn;
      unfinished = [];
    })
    ∙ ap (λ (n : ℕ). record {
      revision = revision_after_history rules past;
      withdrawn = n;
      unfinished = [];
    }) {x = withdrawn} {y = withdrawn + 0} (omega arith)
lines_taken rules plain past (e ∷ es) withdrawn short room =
    let s = subject rules in
    let view = view_of (outcomes s (e ∷ past)) in
    let now = last_moment s (e ∷ past) in
    let n = length past + 1 in
    let revision = revision_after_history rules (e ∷ past) in
    let start : Tallied =
    record {
      revision = revision_after_history rules past;
      withdrawn = withdrawn;
      unfinished = [];
    } in
    let line = (outputs rules).line past e in
    let words = decimal n ++ 32 ∷ words_of view revision now in
    let small : n < 2 ^ 64 = omega arith in
    let fits : revision < 2 ^ 64 = omega arith in
    let shown : revision_in (revision_after_history rules past) words ≡ revision =
    revision_said view (revision_after_history rules past) n revision now small fits
    (revision_unseen s same_material past e) in
    let count : withdrawn_in withdrawn words ≡ counted (is_withdrawn view) withdrawn =
    withdrawn_said view withdrawn n revision now small fits in
    let sum : counted (is_withdrawn view) withdrawn + withdrawn_of rules (e ∷ past) es
    ≡ withdrawn + withdrawn_of rules past (e ∷ es) =
    omega (arith, counted_below (is_withdrawn view) withdrawn (omega arith)) in
    let tail : reverse es ++ (e ∷ past) ≡ reverse (e ∷ es) ++ past =
    sym (append_assoc (reverse es) (e ∷ []) past)
    ∙ ap (λ (l : List Event). l ++ past) (sym (reverse-append (e ∷ []) es)) in
    tally_append start line (lines_of (outputs rules) (e ∷ past) es)
    ∙ ap (λ (t : Tallied). tally_from t (lines_of (outputs rules) (e ∷ past) es))
    (line_taken line words (revision_after_history rules past) withdrawn (plain past e)
    (line_is (decimal n) view revision now)
    ∙ (λ i. record { revision = shown i; withdrawn = count i; unfinished = [] }))
    ∙ lines_taken rules plain (e ∷ past) es (counted (is_withdrawn view) withdrawn) (omega arith)
    (counted_within (is_withdrawn view) withdrawn (2 ^ 64 - 1) (length es) (omega arith)
    (omega arith))
    ∙ (λ i. record {
      revision = revision_after_history rules (tail i);
      withdrawn = sum i;
      unfinished = [];
    })

-- The tally of a session: where each line is one line, its last revision is the one after all
-- events, and its count is how many of them leave the view withdrawn.
pub tally_of_lines : (rules : Rules) (es : List Event) → length es < 2 ^ 64 - 1
    → ((past : List Event) (e : Event) → IsLine ((outputs rules).line past e))
    → tally_of (lines_of (outputs rules) [] es) ≡ record {
      revision = revision_after (subject rules) es;
      withdrawn = withdrawn_of rules [] es;
      unfinished = [];
    }
tally_of_lines rules es short plain =
    lines_taken rules plain [] es 0 (omega arith) (omega arith)
    ∙ (λ i. record {
      revision = revision_after_history rules (append-nil (reverse es) i);
      withdrawn = zero_add i;
      unfinished = [];
    })
  where
    zero_add : 0 + withdrawn_of rules [] es ≡ withdrawn_of rules [] es
    zero_add = omega arith

-- the same of octets that are known
pub tally_said : (rules : Rules) (es : List Event) (held : List ℕ) → length es < 2 ^ 64 - 1
    → ((past : List Event) (e : Event) → IsLine ((outputs rules).line past e))
    → held ≡ lines_of (outputs rules) [] es
    → ((tally_of held).revision ≡ revision_after (subject rules) es)
    × ((tally_of held).withdrawn ≡ withdrawn_of rules [] es)
tally_said rules es held short plain is =
    let tally : tally_of held ≡ record {
      revision = revision_after (subject rules) es;
      withdrawn = withdrawn_of rules [] es;
      unfinished = [];
    } = ap tally_of is ∙ tally_of_lines rules es short plain in
    (ap (λ (t : Tallied). t.revision) tally, ap (λ (t : Tallied). t.withdrawn) tally)
