-- How a tally takes pieces of lines.
use Rattle.std.proofs.Common.{◌≡◌, refl, sym, ap, ◌∙◌, ℕ, ◌+◌, ◌-◌, ◌^◌, min, Bool, true, ◌==◌}
use Rattle.std.proofs.Common.{List, [], ◌∷◌, ◌++◌, length, append_assoc, Option, None, Some, arith}
use Rattle.std.proofs.Common.{codes, if◌then◌else◌}
use Rattle.std.proofs.lemmas.List.{append-nil}
use Rattle.std.specs.Option.{unwrap_or, option_map_or}
use Rattle.std.specs.Str.{bytes_eq}
use Rattle.spf_program.specs.Numbers.{number_up_to}
use Rattle.spf_watch.specs.Tallied.{Tallied, first_word, after_word, revision_in, withdrawn_in}
use Rattle.spf_watch.specs.Tallied.{with_line, with_octet, tally_from, none_tallied, tally_of}
use borrow.Author.Tests.{eqb-true}
use Rattle.spf_watch.proofs.Searched.{Avoids, avoids_tail, avoids_head}

-- the same with a longer line that is not finished
abbrev pub longer : Tallied → List ℕ → Tallied
longer t piece =
    record { revision = t.revision; withdrawn = t.withdrawn; unfinished = t.unfinished ++ piece }

-- no more octets
pub tally_nothing : (t : Tallied) → tally_from t [] ≡ t
unfolding tally_from
tally_nothing t = refl

-- two pieces are one
pub tally_append : (t : Tallied) (a b : List ℕ)
    → tally_from t (a ++ b) ≡ tally_from (tally_from t a) b
unfolding tally_from
tally_append t [] b = refl
tally_append t (c ∷ cs) b = tally_append (with_octet t c) cs b

-- a piece without a line feed finishes nothing
pub tally_piece : (t : Tallied) (piece : List ℕ) → Avoids 10 piece
    → tally_from t piece ≡ longer t piece
unfolding tally_from
tally_piece t [] avoids =
    ap (λ l. record { revision = t.revision; withdrawn = t.withdrawn; unfinished = l })
    (sym (append-nil t.unfinished))
tally_piece t (c ∷ cs) avoids =
    rw (avoids_head 10 c cs avoids) (tally_piece (longer t (c ∷ [])) cs (avoids_tail 10 c cs avoids)
    ∙ ap (λ l. record { revision = t.revision; withdrawn = t.withdrawn; unfinished = l })
    (append_assoc t.unfinished (c ∷ []) cs))

-- a line feed finishes the line
feed : (t : Tallied) → tally_from t (10 ∷ []) ≡ with_line t
unfolding tally_from
feed t = refl

-- a piece with one line feed, at its end, finishes a line
pub tally_line : (t : Tallied) (piece : List ℕ) → Avoids 10 piece
    → tally_from t (piece ++ 10 ∷ []) ≡ with_line (longer t piece)
tally_line t piece avoids =
    tally_append t piece (10 ∷ []) ∙ ap (λ u. tally_from u (10 ∷ [])) (tally_piece t piece avoids)
    ∙ feed (longer t piece)

-- a tally of octets takes a piece that finishes nothing
pub piece_written : (before after piece : List ℕ) (revision withdrawn : ℕ)
    (unfinished longer : List ℕ)
    → tally_of before ≡ record {
      revision = revision;
      withdrawn = withdrawn;
      unfinished = unfinished;
    } → Avoids 10 piece
    → after ≡ before ++ piece → longer ≡ unfinished ++ piece
    → tally_of after ≡ record { revision = revision; withdrawn = withdrawn; unfinished = longer }
piece_written before after piece revision withdrawn unfinished longer_is so_far avoids told is =
    let t : Tallied =
    record { revision = revision; withdrawn = withdrawn; unfinished = unfinished } in
    ap tally_of told ∙ tally_append none_tallied before piece ∙ ap (λ u. tally_from u piece) so_far
    ∙ tally_piece t piece avoids
    ∙ ap (λ l. record { revision = revision; withdrawn = withdrawn; unfinished = l }) (sym is)

-- a tally of octets takes the end of a line
pub line_written : (before after end : List ℕ) (revision withdrawn revision' withdrawn' : ℕ)
    (unfinished line unfinished' : List ℕ)
    → tally_of before ≡ record {
      revision = revision;
      withdrawn = withdrawn;
      unfinished = unfinished;
    }
    → Avoids 10 end → after ≡ before ++ (end ++ 10 ∷ []) → line ≡ unfinished ++ end
    → revision' ≡ revision_in revision line → withdrawn' ≡ withdrawn_in withdrawn line
    → unfinished' ≡ []
    → tally_of after ≡ record {
      revision = revision';
      withdrawn = withdrawn';
      unfinished = unfinished';
    }
line_written before after end revision withdrawn revision' withdrawn' unfinished line unfinished'
    so_far avoids told is shown counts empty =
    let t : Tallied =
    record { revision = revision; withdrawn = withdrawn; unfinished = unfinished } in
    ap tally_of told ∙ tally_append none_tallied before (end ++ 10 ∷ [])
    ∙ ap (λ u. tally_from u (end ++ 10 ∷ [])) so_far ∙ tally_line t end avoids
    ∙ ap (λ l. with_line (record { revision = revision; withdrawn = withdrawn; unfinished = l }))
    (sym is)
    ∙ (λ i. record { revision = sym shown i; withdrawn = sym counts i; unfinished = sym empty i })

-- a list of length 0 is empty
pub nothing_kept : (l : List ℕ) (n : ℕ) → n ≡ length l → true ≡ (n == 0) → l ≡ []
nothing_kept [] n is zero = refl
nothing_kept (c ∷ cs) n is zero = absurd (let no : n ≡ 0 = eqb-true n 0 (sym zero) in omega arith)

-- the revision of a line whose second word is found
pub revision_found : (before : ℕ) (line tail word : List ℕ) (number : Option ℕ) (after : ℕ)
    → tail ≡ after_word line → word ≡ first_word tail → number ≡ number_up_to (2 ^ 64 - 1) word
    → after ≡ unwrap_or number before → after ≡ revision_in before line
unfolding revision_in
revision_found before line tail word number after tail_is word_is number_is after_is =
    after_is ∙ either number
    ∙ ap (λ (o : Option ℕ). option_map_or (λ n. n) o before)
    (number_is ∙ ap (number_up_to (2 ^ 64 - 1)) (word_is ∙ ap first_word tail_is))
  where
    either : (o : Option ℕ) → unwrap_or o before ≡ option_map_or (λ n. n) o before
    either None = refl
    either (Some n) = refl

-- one more, where a line is withdrawn
abbrev pub counted : Bool → ℕ → ℕ
counted b before = if b then min (before + 1) (2 ^ 64 - 1) else before

-- the count after a line whose third word is found
pub withdrawn_found : (before : ℕ) (line tail further word : List ℕ) (b : Bool) (after : ℕ)
    → tail ≡ after_word line → further ≡ after_word tail → word ≡ first_word further
    → bytes_eq word (codes "withdrawn") ≡ b
    → after ≡ counted b before → after ≡ withdrawn_in before line
unfolding withdrawn_in
withdrawn_found before line tail further word b after tail_is further_is word_is same after_is =
    after_is ∙ ap (λ t. counted t before)
    (sym same ∙ ap (λ w. bytes_eq w (codes "withdrawn"))
    (word_is ∙ ap first_word (further_is ∙ ap after_word tail_is)))
