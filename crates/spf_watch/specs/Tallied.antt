-- What lines say in sum: the revision of the last line that
-- shows one, and how many lines say that the view is withdrawn.
use Rattle.std.specs.Prelude.{ℕ, ◌+◌, ◌-◌, ◌^◌, min, List, [], ◌∷◌, ◌++◌, ◌==◌, if◌then◌else◌}
use Rattle.std.specs.Prelude.{codes}
use Rattle.std.specs.Option.{option_map_or}
use Rattle.std.specs.Str.{bytes_eq}
use Rattle.spf_program.specs.Numbers.{number_up_to}
use Rattle.spf_watch.specs.Octets.{SPACE, LINE_FEED}

-- the octets before the first space
abbrev pub first_word : List ℕ → List ℕ
first_word [] = []
first_word (c ∷ cs) = if c == SPACE then [] else c ∷ first_word cs

-- the octets after the first space
abbrev pub after_word : List ℕ → List ℕ
after_word [] = []
after_word (c ∷ cs) = if c == SPACE then cs else after_word cs

-- the second word of a line, where it is a number; otherwise what the revision was before
unfoldable pub revision_in : ℕ → List ℕ → ℕ
revision_in before line =
    option_map_or (λ n. n) (number_up_to (2 ^ 64 - 1) (first_word (after_word line))) before

-- one more where the third word of a line is `withdrawn`; the count stops at the end of its type
unfoldable pub withdrawn_in : ℕ → List ℕ → ℕ
withdrawn_in before line =
    if bytes_eq (first_word (after_word (after_word line))) (codes "withdrawn")
    then min (before + 1) (2 ^ 64 - 1) else before

-- the revision, how many lines say withdrawn, and the line that is not finished
pub record Tallied : Type 0 where
  pub revision : ℕ
  pub withdrawn : ℕ
  pub unfinished : List ℕ

-- nothing is put yet
abbrev pub none_tallied : Tallied
none_tallied = record { revision = 0; withdrawn = 0; unfinished = [] }

-- an unfinished line is finished
abbrev pub with_line : Tallied → Tallied
with_line t =
    record {
      revision = revision_in t.revision t.unfinished;
      withdrawn = withdrawn_in t.withdrawn t.unfinished;
      unfinished = [];
    }

-- one more octet, where a line feed finishes the line
abbrev pub with_octet : Tallied → ℕ → Tallied
with_octet t c =
    if c == LINE_FEED then with_line t
    else record {
      revision = t.revision;
      withdrawn = t.withdrawn;
      unfinished = t.unfinished ++ c ∷ [];
    }

-- these octets more
unfoldable pub tally_from : Tallied → List ℕ → Tallied
tally_from t [] = t
tally_from t (c ∷ cs) = tally_from (with_octet t c) cs

-- what octets say in sum
abbrev pub tally_of : List ℕ → Tallied
tally_of octets = tally_from none_tallied octets

-- a tally as callers see it: the octets that it took, and how often it failed
pub record TallyValue : Type 0 where
  pub held : List ℕ
  pub failures : ℕ
