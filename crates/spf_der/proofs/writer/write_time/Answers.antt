use Rattle.std.proofs.Common.{◌≡◌, ◌∙◌, ◌/◌, sym, ap, subst, List, ℕ, w64}
use Rattle.std.specs.Prelude.{unsigned_abs}
use Rattle.std.proofs.lemmas.Int.{to_z_pos, to_z-of_z}
use Rattle.std.proofs.lemmas.Result.{IfOk-weaker}
use Rattle.spf_der.specs.WrittenTime.{IsTimeText}
use Rattle.spf_der.proofs.CivilDays.{expiry_early, expiry_late}
use Rattle.spf_der.proofs.WrittenTimes.{early_time, late_time, day_fits}
use Rattle.spf_der.proofs.writer.write_time.Goals as goal

pub returns-then-seconds-lt-YEAR_2050-clause-means
    : goal.returns-then-seconds-lt-YEAR_2050-clause-means
returns-then-seconds-lt-YEAR_2050-clause-means c = λ writable.
    let n = c.unsigned_abs-seconds.result in
    let abs : n ≡ unsigned_abs c.args.moment =
    c.unsigned_abs-seconds.ensures.value
    ∙ ap unsigned_abs (to_z-of_z w64 c.args.moment c.ranges.moment) in
    let day = c.in-Ok.ensures.value
    ∙ to_z_pos w64 (n / 86400) (day_fits c.args.moment n writable abs) in
    let date = c.in-Ok.date in
    let text = early_time c.args.moment n date.year date.month date.day c.date_octets.result
    writable.0 abs (date.year_in, date.month_in, date.day_in) day c.if-seconds-lt-YEAR_2050.true
    c.date_octets.ensures in
    let P : List ℕ → Type 0 = λ items. IsTimeText c.args.moment items in
    IfOk-weaker c.wrapped.result _ _ (λ v e. subst P (sym e) text) c.wrapped.ensures

pub returns-clause-means : goal.returns-clause-means
returns-clause-means c = λ writable.
    let n = c.unsigned_abs-seconds.result in
    let abs : n ≡ unsigned_abs c.args.moment =
    c.unsigned_abs-seconds.ensures.value
    ∙ ap unsigned_abs (to_z-of_z w64 c.args.moment c.ranges.moment) in
    let day = c.in-Ok.ensures.value
    ∙ to_z_pos w64 (n / 86400) (day_fits c.args.moment n writable abs) in
    let date = c.in-Ok.date in
    let spelled = c.as_slice.ensures.value ∙ c.in_ok-contents.ensures in
    let text = late_time c.args.moment n date.year date.month date.day c.as_slice.result.now
    writable.0 abs (date.year_in, date.month_in, date.day_in) day c.if-seconds-lt-YEAR_2050.false
    spelled in
    let P : List ℕ → Type 0 = λ items. IsTimeText c.args.moment items in
    IfOk-weaker c.wrapped-2.result _ _ (λ v e. subst P (sym e) text) c.wrapped-2.ensures

pub returns-then-seconds-lt-YEAR_2050-clause-text
    : goal.returns-then-seconds-lt-YEAR_2050-clause-text
returns-then-seconds-lt-YEAR_2050-clause-text c = λ writable.
    let n = c.unsigned_abs-seconds.result in
    let abs : n ≡ unsigned_abs c.args.moment =
    c.unsigned_abs-seconds.ensures.value
    ∙ ap unsigned_abs (to_z-of_z w64 c.args.moment c.ranges.moment) in
    let day = c.in-Ok.ensures.value
    ∙ to_z_pos w64 (n / 86400) (day_fits c.args.moment n writable abs) in
    let date = c.in-Ok.date in
    let text = expiry_early c.args.moment n date.year date.month date.day c.date_octets.result abs
    (date.year_in, date.month_in, date.day_in) day c.if-seconds-lt-YEAR_2050.true
    c.date_octets.ensures in
    IfOk-weaker c.wrapped.result _ _ (λ v e. e ∙ text) c.wrapped.ensures

pub returns-clause-text : goal.returns-clause-text
returns-clause-text c = λ writable.
    let n = c.unsigned_abs-seconds.result in
    let abs : n ≡ unsigned_abs c.args.moment =
    c.unsigned_abs-seconds.ensures.value
    ∙ ap unsigned_abs (to_z-of_z w64 c.args.moment c.ranges.moment) in
    let day = c.in-Ok.ensures.value
    ∙ to_z_pos w64 (n / 86400) (day_fits c.args.moment n writable abs) in
    let date = c.in-Ok.date in
    let spelled = c.as_slice.ensures.value ∙ c.in_ok-contents.ensures in
    let text = expiry_late c.args.moment n date.year date.month date.day c.as_slice.result.now abs
    (date.year_in, date.month_in, date.day_in) day c.if-seconds-lt-YEAR_2050.false spelled in
    IfOk-weaker c.wrapped-2.result _ _ (λ v e. e ∙ text) c.wrapped-2.ensures
