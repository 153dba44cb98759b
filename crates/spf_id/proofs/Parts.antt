-- The parts of a text between slashes: a trust domain and the segments of a path.
use Rattle.std.proofs.Common.{◌≡◌, ℕ, ◌<◌, Bool, true, false, cond, List, [], ◌∷◌, length, drop}
use Rattle.std.proofs.Common.{get_or, Result, Ok, Err, refl, sym, ap, ◌∙◌, arith, not, ◌⊎◌, inl}
use Rattle.std.proofs.Common.{inr}
use Rattle.std.specs.Prelude.{◌==◌, if◌then◌else◌}
use Rattle.std.specs.List.{before_first, after_first, position_or_len, slice_split, onto_first}
use Rattle.std.proofs.lemmas.List.Splits.{slice_split_first}
use Rattle.std.proofs.lemmas.List.Prefix.{front_rest}
use Rattle.std.proofs.lemmas.List.Sums.{split_at_first, passes_at_first, prefix_len-le-length}
use Rattle.std.proofs.lemmas.List.{drop_all}
use Rattle.std.proofs.lemmas.Bool.{eqb-true}
use Rattle.spf_io.specs.Rule.{◌>>=◌}
use Rattle.spf_io.proofs.Splits.{split_shape}
use Rattle.spf_id.specs.declared.error.SpiffeIdError.{SpiffeIdError}
use Rattle.spf_id.specs.declared.error.SpiffeIdError.TheVariants.{MissingTrustDomain, EmptySegment}
use Rattle.spf_id.specs.declared.error.SpiffeIdError.TheVariants.{TrailingSlash}
use Rattle.spf_id.specs.Id.{Id}
use Rattle.spf_id.specs.Rule.{is_slash, domain_rule, segment_rule, segments_rule, segments_of}
use Rattle.spf_id.specs.Rule.{path_of, parts_rule}
use Rattle.spf_id.proofs.FirstIndex.{front_whole, split_whole}

-- the last segment
pub segments_last : (xs : List ℕ) → position_or_len is_slash xs ≡ length xs
    → segments_rule (slice_split is_slash xs)
    ≡ segment_rule TrailingSlash (before_first is_slash xs)
segments_last xs whole = rw (split_whole is_slash xs whole, front_whole is_slash xs whole) refl

-- a segment before others
pub segments_more : (xs : List ℕ) → position_or_len is_slash xs < length xs
    → segments_rule (slice_split is_slash xs)
    ≡ (segment_rule EmptySegment (before_first is_slash xs)
    >>= λ _. segments_rule (slice_split is_slash (after_first is_slash xs)))
segments_more xs lt =
    let p = split_shape is_slash (after_first is_slash xs) in
    rw (slice_split_first is_slash xs 0 lt, p.2) refl

onto_path : (x : ℕ) (parts : List (List ℕ)) (xs : List ℕ) → path_of parts ≡ 47 ∷ xs
    → path_of (onto_first x parts) ≡ 47 ∷ x ∷ xs
onto_path x [] xs h = absurd (cc)
onto_path x (part ∷ parts) xs h = ap (λ (s : List ℕ). 47 ∷ x ∷ drop 1 s) h

path_step : (b : Bool) (x : ℕ) (xs : List ℕ) → (is_slash x ≡ b)
    → path_of (slice_split is_slash xs) ≡ 47 ∷ xs
    → path_of (cond b ([] ∷ slice_split is_slash xs) (onto_first x (slice_split is_slash xs)))
    ≡ 47 ∷ x ∷ xs
path_step true x xs is h =
    let e : x ≡ 47 = eqb-true x 47 is in
    ap (λ (s : List ℕ). 47 ∷ s) (h ∙ ap (λ (y : ℕ). y ∷ xs) (sym e))
path_step false x xs is h = onto_path x (slice_split is_slash xs) xs h

-- the path of the segments of a text is a slash and that text
pub path_of-split : (xs : List ℕ) → path_of (slice_split is_slash xs) ≡ 47 ∷ xs
path_of-split [] = refl
path_of-split (x ∷ xs) = path_step (is_slash x) x xs refl (path_of-split xs)

-- what follows the first part, with its slash
pub rest_after : (xs : List ℕ) → position_or_len is_slash xs < length xs
    → drop (length (before_first is_slash xs)) xs ≡ 47 ∷ after_first is_slash xs
rest_after xs lt =
    front_rest xs (before_first is_slash xs)
    (get_or xs (position_or_len is_slash xs) 0 ∷ after_first is_slash xs)
    (split_at_first is_slash xs 0 lt)
    ∙ ap (λ (y : ℕ). y ∷ after_first is_slash xs) (eqb-true _ 47 (passes_at_first is_slash xs 0 lt))

-- the rules of the parts, with the path as it stands in the text
abbrev pub halves_rule : List ℕ → List ℕ → Result Id SpiffeIdError
halves_rule domain path =
    if length domain == 0 then Err MissingTrustDomain
    else (domain_rule domain >>= λ _. segments_rule (segments_of path)
    >>= λ _. Ok (record { domain = domain; path = path }))

-- the rules of the parts of a text, by its halves
pub parts_by_halves : (xs : List ℕ)
    → parts_rule (slice_split is_slash xs)
    ≡ halves_rule (before_first is_slash xs) (drop (length (before_first is_slash xs)) xs)
unfolding parts_rule
parts_by_halves xs =
    let le = prefix_len-le-length (λ c. not (is_slash c)) xs in
    let cases : (position_or_len is_slash xs < length xs)
    ⊎ (position_or_len is_slash xs ≡ length xs) = grind arith in
    elim cases [
      | inl lt ↦ rw (
        slice_split_first is_slash xs 0 lt,
        rest_after xs lt,
        path_of-split (after_first is_slash xs),
      ) refl
      | inr whole ↦
          rw (
            split_whole is_slash xs whole,
            front_whole is_slash xs whole,
            drop_all (length xs) xs (omega arith),
          ) refl
    ]
