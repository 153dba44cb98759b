-- Generated sessions at named values: how the expiry
-- of a generation is written, and what a seed chooses.
use Rattle.std.proofs.Common.{◌≡◌, refl, ap, ◌∙◌, ℕ, ◌+◌, ◌/◌, ◌%◌, ◌<◌, Bool, true, nat_lt, List}
use Rattle.std.proofs.Common.{◌∷◌, ◌++◌, arith}
use Rattle.std.specs.Prelude.{if◌then◌else◌}
use Rattle.std.proofs.lemmas.Bool.Decides.{nat_tests}
use Rattle.spf_der.specs.Value.{length_octets, value_text}
use Rattle.spf_der.specs.WrittenTime.{CivilDay, civil_day, expiry_text, generalized_text}
use Rattle.spf_der.specs.WrittenTime.{second_text, utc_text}
use Rattle.spf_watch.specs.declared.generated.Variant.TheVariants as variants
use Rattle.spf_watch.specs.MadeSession.{client_frames, close_frame, denial_frame, expiry_of}
use Rattle.spf_watch.specs.MadeSession.{frames_by, frames_from, item_frame}

-- second 2000000000 is 03:33:20 on 2033-05-18, and the first 73,600 generations expire on that day
day_is : civil_day 23148 ≡ record { year = 2033; month = 5; day = 18 }
unfolding civil_day
day_is = refl

second_is : (n : ℕ) → n < 2524608000 → nat_lt n 2524608000 ≡ true
second_is n lt = grind (arith, nat_tests)

pub expiry_is : (generation : ℕ) → generation < 73600
    → expiry_text (expiry_of generation)
    ≡ 23 ∷ 13 ∷ utc_text 2033 5 18 ((12800 + generation) / 3600) ((12800 + generation) / 60 % 60)
    ((12800 + generation) % 60)
unfolding second_text length_octets
expiry_is generation lt =
    let n = 2000000000 + generation in
    let day : n / 86400 ≡ 23148 = omega (arith, lt) in
    let second : n % 86400 ≡ 12800 + generation = omega (arith, lt) in
    let early : nat_lt n 2524608000 ≡ true = second_is n (omega (arith, lt)) in
    let date : civil_day (n / 86400) ≡ record { year = 2033; month = 5; day = 18 } =
    ap civil_day day ∙ day_is in
    let text : CivilDay → ℕ → Bool → List ℕ =
    λ date second early. if early
    then value_text 23
    (utc_text date.year date.month date.day (second / 3600) (second / 60 % 60) (second % 60))
    else value_text 24
    (generalized_text date.year date.month date.day (second / 3600) (second / 60 % 60)
    (second % 60)) in
    λ i. text (date i) (second i) (early i)

-- seed 1: a denial, two new generations, and a reordered item
four_operations : frames_from 4 1 0
    ≡ (denial_frame ++ client_frames)
    ++ (item_frame variants.Plain 1
    ++ (item_frame variants.Plain 2 ++ (item_frame variants.Reordered 2 ++ close_frame)))
unfolding frames_by
four_operations = refl
