-- The parts of a token, of which the last has no full stop.
use Rattle.std.proofs.Common.{◌≡◌, ℕ, ◌<◌, Bool, true, false, List, [], ◌∷◌, ◌++◌, length, get_or}
use Rattle.std.proofs.Common.{Result, Ok, Err, refl, ap, ◌∙◌, arith, not, ◌⊎◌, inl, inr}
use Rattle.std.specs.Prelude.{◌==◌, ◌&&◌, if◌then◌else◌}
use Rattle.std.specs.List.{before_first, after_first, position_or_len, slice_split, list_all}
use Rattle.std.proofs.lemmas.List.Splits.{slice_split_first, slice_split_none}
use Rattle.std.proofs.lemmas.List.Sums.{split_at_first, passes_at_first, prefix_len-le-length}
use Rattle.std.proofs.lemmas.List.Sums.{fails_before_first}
use Rattle.std.proofs.lemmas.Bool.{eqb-true}
use Rattle.spf_io.proofs.Splits.{split_shape}
use Rattle.spf_api.specs.declared.jwt_error.JwtSvidError.{JwtSvidError}
use Rattle.spf_api.specs.declared.jwt_error.JwtSvidError.TheVariants.{Parts}
use Rattle.spf_jwt.specs.Token.{is_full_stop, is_base64url_octet, is_signature}
use Rattle.spf_jwt.specs.Token.{parts_rule}

-- one part
pub no_stop : (xs : List ℕ) → position_or_len is_full_stop xs ≡ length xs
    → slice_split is_full_stop xs ≡ xs ∷ []
no_stop xs whole =
    slice_split_none is_full_stop xs
    (λ k d lt. fails_before_first is_full_stop xs k d (omega arith))

both_false : (a b : Bool) → b ≡ false → (a && b) ≡ false
both_false true b is = is
both_false false b is = refl

not_all : (xs : List ℕ) (y : ℕ) (ys : List ℕ) → is_base64url_octet y ≡ false
    → list_all is_base64url_octet (xs ++ y ∷ ys) ≡ false
not_all [] y ys is = rw is refl
not_all (x ∷ xs) y ys is =
    both_false (is_base64url_octet x) (list_all is_base64url_octet (xs ++ y ∷ ys))
    (not_all xs y ys is)

abbrev pub signed : List ℕ → List ℕ → List ℕ → Result (List ℕ × List ℕ) JwtSvidError
signed header claims signature =
    if is_signature signature then Ok (header, claims) else Err Parts

-- what is in the alphabet has no full stop
stop_is_refused : (signature : List ℕ) → position_or_len is_full_stop signature < length signature
    → is_signature signature ≡ false
stop_is_refused signature lt =
    let stop : get_or signature (position_or_len is_full_stop signature) 0 ≡ 46 =
    eqb-true _ 46 (passes_at_first is_full_stop signature 0 lt) in
    let octet : is_base64url_octet (get_or signature (position_or_len is_full_stop signature) 0)
    ≡ false = ap is_base64url_octet stop in
    both_false (not (length signature == 0)) (list_all is_base64url_octet signature)
    (ap (list_all is_base64url_octet) (split_at_first is_full_stop signature 0 lt)
    ∙ not_all (before_first is_full_stop signature)
    (get_or signature (position_or_len is_full_stop signature) 0)
    (after_first is_full_stop signature) octet)

pub last_part : (header claims signature : List ℕ)
    → parts_rule (header ∷ claims ∷ slice_split is_full_stop signature)
    ≡ signed header claims signature
unfolding parts_rule
last_part header claims signature =
    let le = prefix_len-le-length (λ c. not (is_full_stop c)) signature in
    let cases : (position_or_len is_full_stop signature < length signature)
    ⊎ (position_or_len is_full_stop signature ≡ length signature) = grind arith in
    elim cases [
      | inl lt ↦
          let p = split_shape is_full_stop (after_first is_full_stop signature) in
          rw (
            slice_split_first is_full_stop signature 0 lt,
            p.2,
            stop_is_refused signature lt,
          ) refl
      | inr whole ↦ rw (no_stop signature whole) refl
    ]

-- three parts
pub three_parts : (token : List ℕ) → position_or_len is_full_stop token < length token
    → position_or_len is_full_stop (after_first is_full_stop token)
    < length (after_first is_full_stop token)
    → parts_rule (slice_split is_full_stop token)
    ≡ signed (before_first is_full_stop token)
    (before_first is_full_stop (after_first is_full_stop token))
    (after_first is_full_stop (after_first is_full_stop token))
three_parts token one two =
    rw (
      slice_split_first is_full_stop token 0 one,
      slice_split_first is_full_stop (after_first is_full_stop token) 0 two,
    ) (last_part (before_first is_full_stop token)
    (before_first is_full_stop (after_first is_full_stop token))
    (after_first is_full_stop (after_first is_full_stop token)))

pub three_of : (token header rest claims signature : List ℕ)
    → position_or_len is_full_stop token < length token
    → header ≡ before_first is_full_stop token → rest ≡ after_first is_full_stop token
    → position_or_len is_full_stop rest < length rest
    → claims ≡ before_first is_full_stop rest → signature ≡ after_first is_full_stop rest
    → parts_rule (slice_split is_full_stop token) ≡ signed header claims signature
three_of token header rest claims signature one is_header is_rest two is_claims is_signed =
    rw (is_header, is_claims, is_signed, is_rest) (three_parts token one (rw is_rest at two))

pub one_part : (token : List ℕ) → position_or_len is_full_stop token ≡ length token
    → parts_rule (slice_split is_full_stop token) ≡ Err Parts
unfolding parts_rule
one_part token whole = rw (no_stop token whole) refl

pub two_parts : (token rest : List ℕ) → position_or_len is_full_stop token < length token
    → rest ≡ after_first is_full_stop token → position_or_len is_full_stop rest ≡ length rest
    → parts_rule (slice_split is_full_stop token) ≡ Err Parts
unfolding parts_rule
two_parts token rest one is whole =
    rw (slice_split_first is_full_stop token 0 one, ← is, no_stop rest whole) refl
