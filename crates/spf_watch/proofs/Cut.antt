-- A certificate of a template is cut round its expiry.
use Rattle.std.proofs.Common.{◌≡◌, ℕ, suc, ◌+◌, min, List, [], ◌∷◌, ◌++◌, length, take, drop, Some}
use Rattle.std.proofs.Common.{refl, sym, ap, ◌∙◌, subst, append_assoc, length-append, arith}
use Rattle.std.specs.Prelude.{ℤ, pos, codes, nat_le, if◌then◌else◌}
use Rattle.std.proofs.Math.Seq.{drop-append_seam, take-append_seam}
use Rattle.spf_der.specs.declared.writer.CertSpec.{CertSpec}
use Rattle.spf_der.specs.Time.{clock_of, pair_of, utc_time}
use Rattle.spf_der.specs.Value.{length_octets, value_text}
use Rattle.spf_der.specs.Written.{IsCertificateOf, algorithm_text, certificate_text}
use Rattle.spf_der.specs.Written.{extensions_part, extensions_text, no_bits, no_name}
use Rattle.spf_der.specs.Written.{public_key_text, tbs_text, validity_text, version_text}
use Rattle.spf_der.specs.WrittenTime.{IsTimeText}
use Rattle.spf_der.proofs.Steps.{bind_some}
use Rattle.spf_watch.specs.Template.{after, before, tbs_after, tbs_before, tbs_size}

-- a time of day has eleven octets
clock_length : (year : ℕ) (bytes : List ℕ) (m : ℤ) → clock_of year bytes ≡ Some m
    → length bytes ≡ 11
unfolding clock_of
clock_length year [] m h = absurd cc
clock_length year (a ∷ []) m h = absurd cc
clock_length year (a ∷ b ∷ []) m h = absurd cc
clock_length year (a ∷ b ∷ c ∷ []) m h = absurd cc
clock_length year (a ∷ b ∷ c ∷ d ∷ []) m h = absurd cc
clock_length year (a ∷ b ∷ c ∷ d ∷ e ∷ []) m h = absurd cc
clock_length year (a ∷ b ∷ c ∷ d ∷ e ∷ f ∷ []) m h = absurd cc
clock_length year (a ∷ b ∷ c ∷ d ∷ e ∷ f ∷ g ∷ []) m h = absurd cc
clock_length year (a ∷ b ∷ c ∷ d ∷ e ∷ f ∷ g ∷ i ∷ []) m h = absurd cc
clock_length year (a ∷ b ∷ c ∷ d ∷ e ∷ f ∷ g ∷ i ∷ j ∷ []) m h = absurd cc
clock_length year (a ∷ b ∷ c ∷ d ∷ e ∷ f ∷ g ∷ i ∷ j ∷ k ∷ []) m h = absurd cc
clock_length year (a ∷ b ∷ c ∷ d ∷ e ∷ f ∷ g ∷ i ∷ j ∷ k ∷ l ∷ []) m h = refl
clock_length year (a ∷ b ∷ c ∷ d ∷ e ∷ f ∷ g ∷ i ∷ j ∷ k ∷ l ∷ n ∷ bytes) m h = absurd cc

-- a UTCTime has thirteen octets
utc_length : (bytes : List ℕ) (m : ℤ) → utc_time bytes ≡ Some m → length bytes ≡ 13
unfolding utc_time
utc_length [] m h = absurd cc
utc_length (y ∷ []) m h = absurd cc
utc_length (y ∷ y' ∷ bytes) m h =
    let found =
    bind_some (pair_of y y')
    (λ (year : ℕ). clock_of (if nat_le 50 year then 1900 + year else 2000 + year) bytes) m h in
    omega (
      arith,
      clock_length (if nat_le 50 found.0 then 1900 + found.0 else 2000 + found.0) bytes m found.2,
    )

-- the text of the first expiry
pub time_length : (time : List ℕ) → IsTimeText (pos 2000000000) time → length time ≡ 15
unfolding length_octets
time_length time is =
    let size : length is.contents ≡ 13 = utc_length is.contents (pos 2000000000) is.means in
    ap length is.spelled ∙ (rw size (ap (λ (n : ℕ). suc (suc n)) size))

-- a validity up to a notAfter of fifteen octets
validity_is : (time : List ℕ) → length time ≡ 15
    → validity_text time ≡ 48 ∷ 30 ∷ value_text 23 (codes "700101000000Z") ++ time
unfolding length_octets
validity_is time size = rw size refl

regroup : (a b c d v t e f g : List ℕ)
    → a ++ b ++ c ++ d ++ (v ++ t) ++ e ++ f ++ g ≡ (a ++ b ++ c ++ d ++ v) ++ (t ++ (e ++ f ++ g))
regroup a b c d v t e f g = simp append_assoc

-- the contents of tbsCertificate round its notAfter
tbs_cut : (spec : CertSpec) (time : List ℕ) → length time ≡ 15
    → tbs_text spec time ≡ tbs_before spec ++ (time ++ tbs_after spec)
unfolding tbs_before tbs_after
tbs_cut spec time size =
    let a = version_text (extensions_text spec) in
    let b = value_text 2 (spec.serial ∷ []) in
    let g = extensions_part (extensions_text spec) in
    ap (λ (v : List ℕ). a ++ b ++ algorithm_text ++ no_name ++ v ++ no_name ++ public_key_text ++ g)
    (validity_is time size)
    ∙ regroup a b algorithm_text no_name (48 ∷ 30 ∷ value_text 23 (codes "700101000000Z")) time
    no_name public_key_text g

tbs_length : (spec : CertSpec) (time : List ℕ) → length time ≡ 15
    → length (tbs_text spec time) ≡ tbs_size spec
unfolding tbs_size
tbs_length spec time size =
    ap length (tbs_cut spec time size) ∙ length-append (tbs_before spec) (time ++ tbs_after spec)
    ∙ ap (λ (n : ℕ). length (tbs_before spec) + n)
    (length-append time (tbs_after spec) ∙ ap (λ (n : ℕ). n + length (tbs_after spec)) size)

algorithm_length : length algorithm_text ≡ 7
unfolding length_octets
algorithm_length = refl

bits_length : length no_bits ≡ 3
unfolding length_octets
bits_length = refl

regroup_end : (o h b t a x y : List ℕ)
    → o ++ ((h ++ (b ++ (t ++ a))) ++ x ++ y) ≡ (o ++ h ++ b) ++ (t ++ (a ++ x ++ y))
regroup_end o h b t a x y = simp append_assoc

-- a certificate round its expiry
pub certificate_cut : (spec : CertSpec) (time : List ℕ) → length time ≡ 15
    → certificate_text spec time ≡ before spec ++ (time ++ after spec)
unfolding before after
certificate_cut spec time size =
    let tbs : List ℕ = tbs_text spec time in
    let whole : List ℕ = value_text 48 tbs in
    let n = tbs_length spec time size in
    let head : List ℕ = 48 ∷ length_octets (tbs_size spec) in
    let outer : ℕ → List ℕ = λ k. 48 ∷ length_octets k in
    let inner : whole ++ algorithm_text ++ no_bits
    ≡ (head ++ (tbs_before spec ++ (time ++ tbs_after spec))) ++ algorithm_text ++ no_bits =
    λ i. ((48 ∷ length_octets (n i)) ++ tbs_cut spec time size i) ++ algorithm_text ++ no_bits in
    let long : length whole ≡ suc (length (length_octets (tbs_size spec)) + tbs_size spec) =
    ap suc (length-append (length_octets (length tbs)) tbs
    ∙ ap (λ (k : ℕ). length (length_octets k) + k) n) in
    let total : length (whole ++ algorithm_text ++ no_bits)
    ≡ suc (length (length_octets (tbs_size spec)) + tbs_size spec) + 10 =
    omega (
      arith,
      long,
      length-append (whole ++ algorithm_text) no_bits,
      length-append whole algorithm_text,
      algorithm_length,
      bits_length,
    ) in
    ap (λ (k : ℕ). outer k ++ (whole ++ algorithm_text ++ no_bits)) total
    ∙ ap (λ (l : List ℕ). outer (suc (length (length_octets (tbs_size spec)) + tbs_size spec) + 10)
    ++ l) inner
    ∙ regroup_end (outer (suc (length (length_octets (tbs_size spec)) + tbs_size spec) + 10)) head
    (tbs_before spec) time (tbs_after spec) algorithm_text no_bits

-- the octets before the notAfter, and those after it, of a certificate of the first generation
pub template_cut : (spec : CertSpec) (text : List ℕ) (offset : ℕ) → IsCertificateOf spec text
    → spec.expiry ≡ pos 2000000000 → offset ≡ length (before spec)
    → (min offset (length text) ≡ offset) × (take offset text ≡ before spec)
    × (min 15 (length (drop offset text)) ≡ 15) × (drop 15 (drop offset text) ≡ after spec)
template_cut spec text offset is expires at =
    let P : ℤ → Type 0 = λ z. IsTimeText z is.time in
    let size : length is.time ≡ 15 = time_length is.time (subst P expires is.expiry) in
    let cut : text ≡ before spec ++ (is.time ++ after spec) =
    is.spelled ∙ certificate_cut spec is.time size in
    let long : length text ≡ length (before spec) + (15 + length (after spec)) =
    ap length cut ∙ length-append (before spec) (is.time ++ after spec)
    ∙ ap (λ (n : ℕ). length (before spec) + n)
    (length-append is.time (after spec) ∙ ap (λ (n : ℕ). n + length (after spec)) size) in
    let front : take offset text ≡ before spec =
    ap (take offset) cut ∙ ap (λ (n : ℕ). take n (before spec ++ (is.time ++ after spec))) at
    ∙ take-append_seam (before spec) (is.time ++ after spec) in
    let rest : drop offset text ≡ is.time ++ after spec =
    ap (drop offset) cut ∙ ap (λ (n : ℕ). drop n (before spec ++ (is.time ++ after spec))) at
    ∙ drop-append_seam (before spec) (is.time ++ after spec) in
    let room : length (drop offset text) ≡ 15 + length (after spec) =
    ap length rest ∙ length-append is.time (after spec)
    ∙ ap (λ (n : ℕ). n + length (after spec)) size in
    let tail : drop 15 (drop offset text) ≡ after spec =
    ap (drop 15) rest ∙ ap (λ (n : ℕ). drop n (is.time ++ after spec)) (sym size)
    ∙ drop-append_seam is.time (after spec) in
    (omega (arith, at, long), front, omega (arith, room), tail)
