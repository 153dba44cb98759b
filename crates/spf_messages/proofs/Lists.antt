-- Lists of messages and claims, gathered field by field.
use Rattle.std.proofs.Common.{◌≡◌, ◌∙◌, ℕ, List, [], ◌∷◌, ◌++◌, Option, Some, None, Bool}
use Rattle.std.proofs.Common.{true, false, cond, refl, sym, ap, append_assoc}
use Rattle.std.proofs.lemmas.List.{append-nil}
use Rattle.std.specs.Prelude.{◌&&◌}
use Rattle.std.specs.List.{list_all}
use Rattle.std.specs.Option.{option_map}
use Rattle.spf_io.specs.Option.{◌>>=◌}
use Rattle.spf_messages.specs.Wire.{WireField}
use Rattle.spf_messages.specs.Message.{fields_of, values_of, each, is_delimited, has_number}
use Rattle.spf_messages.specs.Message.{octets_of, entries_in}
use Rattle.spf_messages.specs.Folded.{folded, message_from, entries_with}
use Rattle.spf_messages.proofs.Entries.{after_fields}

module _ {A : Type 0} (one : List ℕ → Option A) (n max : ℕ) where
  abbrev onto : Bool → List A → Option (List A) → Option (List A)
  onto all es more = cond all (option_map (λ xs. es ++ xs) more) None

  none_onto : (all : Bool) (es : List A) → None ≡ onto all es None
  none_onto true es = refl
  none_onto false es = refl

  more_onto : (all : Bool) (es : List A) (e : A) (more : Option (List A))
      → onto all (es ++ e ∷ []) more ≡ onto all es (more >>= λ others. Some (e ∷ others))
  more_onto false es e more = refl
  more_onto true es e None = refl
  more_onto true es e (Some others) = ap Some (append_assoc es (e ∷ []) others)

  entry_first : (all : Bool) (es : List A) (e : Option A) (more : Option (List A))
      (fs : List WireField)
      → ((x : List A) → folded (entries_with one n max) x fs ≡ onto all x more)
      → (option_map (λ e. es ++ e ∷ []) e >>= λ next. folded (entries_with one n max) next fs)
      ≡ onto all es (e >>= λ y. more >>= λ ys. Some (y ∷ ys))
  entry_first all es None more fs others = none_onto all es
  entry_first all es (Some e) more fs others =
      others (es ++ e ∷ []) ∙ more_onto all es e more

  field_first : (allowed has : Bool) (octets : List ℕ) (es : List A) (fs : List WireField)
      → ((x : List A) → folded (entries_with one n max) x fs
      ≡ onto (list_all (is_delimited max) fs) x (each one (values_of n fs)))
      → (cond allowed (cond has (option_map (λ e. es ++ e ∷ []) (one octets)) (Some es)) None
      >>= λ next. folded (entries_with one n max) next fs)
      ≡ onto (allowed && list_all (is_delimited max) fs) es
      (each one (cond has (octets ∷ values_of n fs) (values_of n fs)))
  field_first false has octets es fs others = refl
  field_first true false octets es fs others = others es
  field_first true true octets es fs others =
      entry_first (list_all (is_delimited max) fs) es (one octets) (each one (values_of n fs)) fs
      others

  entries_folded : (es : List A) (fs : List WireField)
      → folded (entries_with one n max) es fs
      ≡ onto (list_all (is_delimited max) fs) es (each one (values_of n fs))
  unfolding entries_with
  entries_folded es [] = ap Some (sym (append-nil es))
  entries_folded es (f ∷ fs) =
      field_first (is_delimited max f) (has_number n f) (octets_of f) es fs
      (λ x. entries_folded x fs)

  nothing_before : (all : Bool) (more : Option (List A)) → onto all [] more ≡ cond all more None
  nothing_before false more = refl
  nothing_before true None = refl
  nothing_before true (Some more) = refl

  pub entries_are_read : (bytes : List ℕ)
      → message_from (entries_with one n max) [] bytes ≡ entries_in one n max bytes
  entries_are_read bytes =
      after_fields (fields_of bytes) _ _
      (λ fs. entries_folded [] fs
      ∙ nothing_before (list_all (is_delimited max) fs) (each one (values_of n fs)))
