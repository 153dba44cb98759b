-- A whole session is followed to its end.
use Rattle.std.proofs.Common.{◌≡◌, ◌≤◌, ℕ, true, false, Bool, cond, ◌==◌, ◌||◌}
use Rattle.std.proofs.Common.{List, [], ◌∷◌, ◌++◌, length, Option, None, Some, Result, Ok, Err}
use Rattle.std.proofs.Common.{inl, inr, refl}
use Rattle.std.proofs.Common.{sym, ap, ◌∙◌, subst, arith, append_assoc, length-append}
use Rattle.std.proofs.lemmas.List.{length-take}
use Rattle.std.specs.Prelude.{◌⊎◌, IsTrue, is_some}
use Rattle.spf_io.specs.Outside.{Rose}
use Rattle.spf_disk.specs.declared.open_error.OpenError.TheVariants as opening
use Rattle.spf_disk.specs.Image.{Image}
use Rattle.spf_view.specs.Views.{has_synced}
use Rattle.spf_view.specs.Sessions.{Stream, IsSession, Whole, end_by, end_of, is_free}
use Rattle.spf_view.specs.Sessions.{IsEndOf, closed_of, refusal_of, onto, all_of}
use Rattle.spf_view.proofs.SessionLemmas.{reading_same, frame_same}
use Rattle.spf_feed.specs.declared.follow_error.FollowError.{FollowError}
use Rattle.spf_feed.specs.declared.follow_error.FollowError.TheVariants as follow_errors
use Rattle.spf_feed.specs.declared.limits.ResourceLimits.{ResourceLimits}
use Rattle.spf_feed.specs.Items.{Event, Rules, subject}
use Rattle.spf_feed.specs.Run.{stream, outputs, end_for}
use Rattle.spf_feed.specs.Steps.{PlainStep}
use Rattle.spf_helper.specs.declared.helper_error.HelperError.{HelperError}
use Rattle.spf_helper.specs.declared.helper_error.HelperError.TheVariants as errors
use Rattle.spf_helper.specs.Completing.{IsWholeSession, IsKeepable, Completes}
use Rattle.spf_helper.specs.Runs.{Follows, Ended, Ran, helper_rules}
use Rattle.spf_helper.specs.Watching.{HasCauses, status_of_end}

-- ---- the shorter of two sessions with which the same bytes begin gives no more

all_le : {X : Type 0} (b : Bool) (front xs ys : List X) → length xs ≤ length ys
    → length (cond b [] (front ++ xs)) ≤ length (cond b [] (front ++ ys))
all_le true front xs ys le = omega arith
all_le false front xs ys le = omega (arith, le, length-append front xs, length-append front ys)

pub no_more : {E A X : Type 0} (s : Stream E A) (one : List E → E → List X) (past : List E)
    (text rest text' rest' : List ℕ) (es fs : List E) → IsSession s past text es
    → IsSession s past text' fs → text ++ rest ≡ text' ++ rest' → length es ≤ length fs
    → length (all_of s one past es) ≤ length (all_of s one past fs)
unfolding IsSession all_of
no_more s one past text rest text' rest' [] fs a b same le = omega arith
no_more s one past text rest text' rest' (e ∷ es) [] a b same le = absurd (omega (arith, le))
no_more s one past text rest text' rest' (e ∷ es) (f ∷ fs) a b same le =
    let joined : a.0 ++ (a.1 ++ rest) ≡ b.0 ++ (b.1 ++ rest') =
    sym (append_assoc a.0 a.1 rest) ∙ sym (ap (λ (l : List ℕ). l ++ rest) a.2.text) ∙ same
    ∙ ap (λ (l : List ℕ). l ++ rest') b.2.text ∙ append_assoc b.0 b.1 rest' in
    let one_frame = frame_same s past a.0 (a.1 ++ rest) b.0 (b.1 ++ rest') e f a.2.frame b.2.frame
    joined in
    let more = subst (λ x. IsSession s (x ∷ past) b.1 fs) (sym one_frame.0) b.4 in
    subst (λ x. length (all_of s one past (e ∷ es)) ≤ length (all_of s one past (x ∷ fs)))
    one_frame.0
    (all_le (is_some (s.refusal past e)) (one past e) (all_of s one (e ∷ past) es)
    (all_of s one (e ∷ past) fs)
    (no_more s one (e ∷ past) a.1 rest b.1 rest' es fs a.4 more one_frame.1 (omega (arith, le))))

published_few : (limits : ResourceLimits) (max : ℕ) (bytes : List ℕ)
    (left' held held' : Option (List ℕ)) (steps : List PlainStep) (r : Result ℕ FollowError)
    (whole : IsWholeSession (helper_rules limits) max bytes)
    → Follows limits max (Some bytes) left' held held' steps r
    → length steps
    ≤ length (all_of (stream (helper_rules limits)) (outputs (helper_rules limits)).steps []
    whole.es)
published_few limits max bytes None held held' steps r whole f = absurd f.followed.taken
published_few limits max bytes (Some left) held held' steps r whole f =
    let s = stream (helper_rules limits) in
    let one = (outputs (helper_rules limits)).steps in
    let followed = f.followed in
    let are : bytes ≡ followed.text ++ (followed.extra ++ left) =
    followed.taken ∙ append_assoc followed.text followed.extra left in
    let size : length followed.es ≤ length whole.es =
    whole.reading.longest followed.es (followed.extra ++ left) (record {
      text = followed.text;
      bytes_are = are;
      session = followed.session;
      bound = followed.bound;
    }) in
    let le = no_more s one [] followed.text (followed.extra ++ left) whole.reading.reads.text
    whole.rest followed.es whole.es followed.session whole.reading.reads.session
    (sym are ∙ whole.reading.reads.bytes_are) size in
    let taken : length steps ≤ length (all_of s one [] followed.es) =
    omega (
      arith,
      ap (λ (l : List PlainStep). length l) followed.steps.grows,
      length-take followed.steps.count (all_of s one [] followed.es),
    ) in
    omega (arith, le, taken)

-- ---- how a run ends

whole_end : (rules : Rules) (max : ℕ) (es fs : List Event) (rest other : List ℕ) → es ≡ fs
    → rest ≡ other → refusal_of (stream rules) [] es ≡ None
    → has_synced (subject rules) (onto [] es) ≡ true
    → IsTrue (closed_of (stream rules) es || length rest == 0)
    → end_of (stream rules) max fs other ≡ Whole (length es)
whole_end rules max es fs rest other same left calm accepted whole =
    ap (λ l. end_of (stream rules) max l other) (sym same)
    ∙ ap (end_of (stream rules) max es) (sym left)
    ∙ (λ i. end_by (record {
      refusal = calm i;
      whole = whole i;
      synced = accepted i;
      full = length es == max;
      count = length es;
    }))

-- an error that the bytes do not fix
freely : (e : FollowError) (reads reads' writes writes' : ℕ)
    → HasCauses reads reads' writes writes' (Err (errors.Follow e)) → (Rose reads reads' → ⊥)
    → (Rose writes writes' → ⊥) → IsTrue (is_free (end_for (Err e)))
    → status_of_end (Err (errors.Follow e)) ≡ 2
freely follow_errors.OutOfMemory reads reads' writes writes' causes calm quiet free =
    refl
freely follow_errors.ReadFault reads reads' writes writes' causes calm quiet free =
    absurd (calm (causes.read refl))
freely follow_errors.WriteFault reads reads' writes writes' causes calm quiet free =
    absurd (quiet (causes.write refl))
freely follow_errors.SessionTooLong reads reads' writes writes' causes calm quiet free =
    absurd cc
freely (follow_errors.BadFrame frame) reads reads' writes writes' causes calm quiet free =
    absurd cc
freely (follow_errors.Source e) reads reads' writes writes' causes calm quiet free =
    absurd cc
freely (follow_errors.UnsupportedRpc e) reads reads' writes writes' causes calm quiet free =
    absurd cc
freely follow_errors.InitialSyncTimeout reads reads' writes writes' causes calm quiet free =
    absurd cc
freely follow_errors.Closed reads reads' writes writes' causes calm quiet free =
    absurd cc
freely follow_errors.NeverSynced reads reads' writes writes' causes calm quiet free =
    absurd cc

never_whole : (e : FollowError) (count : ℕ) → end_for (Err e) ≡ Whole count → ⊥
never_whole follow_errors.OutOfMemory count is = absurd cc
never_whole follow_errors.ReadFault count is = absurd cc
never_whole follow_errors.WriteFault count is = absurd cc
never_whole follow_errors.SessionTooLong count is = absurd cc
never_whole (follow_errors.BadFrame frame) count is = absurd cc
never_whole (follow_errors.Source e) count is = absurd cc
never_whole (follow_errors.UnsupportedRpc e) count is = absurd cc
never_whole follow_errors.InitialSyncTimeout count is = absurd cc
never_whole follow_errors.Closed count is = absurd cc
never_whole follow_errors.NeverSynced count is = absurd cc

by_error : (limits : ResourceLimits) (max : ℕ) (bytes : List ℕ) (left' held held' : Option (List ℕ))
    (steps : List PlainStep) (e : FollowError) (reads reads' writes writes' : ℕ)
    → IsWholeSession (helper_rules limits) max bytes
    → Follows limits max (Some bytes) left' held held' steps (Err e)
    → HasCauses reads reads' writes writes' (Err (errors.Follow e)) → (Rose reads reads' → ⊥)
    → (Rose writes writes' → ⊥) → status_of_end (Err (errors.Follow e)) ≡ 2
by_error limits max bytes left' held held' steps e reads reads' writes writes' whole f causes calm
    quiet = by_end f.followed.end
  where
    by_end : IsTrue (is_free (end_for (Err e)))
        ⊎ IsEndOf (stream (helper_rules limits)) max bytes f.followed.es (end_for (Err e))
        → status_of_end (Err (errors.Follow e)) ≡ 2
    by_end (inl free) = freely e reads reads' writes writes' causes calm quiet free
    by_end (inr ended) =
        let same = reading_same (stream (helper_rules limits)) max bytes whole.es f.followed.es
        whole.rest ended.rest whole.reading ended.reading in
        absurd (never_whole e (length whole.es)
        (ended.is ∙ whole_end (helper_rules limits) max whole.es f.followed.es whole.rest ended.rest
        same.0 same.1 whole.calm whole.accepted whole.whole))

module _ {D : Type 0} (seen : D → Image) (may_leave : D → Image → Type 0) (failures : D → ℕ)
    (old new : D) where
  ends : (limits : ResourceLimits) (max : ℕ) (bytes : List ℕ) (left' held held' : Option (List ℕ))
      (steps : List PlainStep) (r : Result ℕ HelperError) (reads reads' writes writes' : ℕ)
      → Ended limits max (seen old) (Some bytes) left' held held' steps r
      → Ran seen may_leave failures old new steps r → HasCauses reads reads' writes writes' r
      → IsKeepable (helper_rules limits) max (seen old) bytes → (Rose reads reads' → ⊥)
      → (Rose writes writes' → ⊥) → (Rose (failures old) (failures new) → ⊥)
      → (status_of_end r ≡ 0) ⊎ (status_of_end r ≡ 2)
  ends limits max bytes left' held held' steps (Ok count) reads reads' writes writes' ended ran
      causes keepable calm quiet well = inl refl
  ends limits max bytes left' held held' steps (Err (errors.Open opening.OutOfMemory)) reads reads'
      writes writes' ended ran causes keepable calm quiet well = inr refl
  ends limits max bytes left' held held' steps (Err (errors.Open opening.DiskFault)) reads reads'
      writes writes' ended ran causes keepable calm quiet well = absurd (well (ran.fault refl))
  ends limits max bytes left' held held' steps (Err (errors.Open opening.Damaged)) reads reads'
      writes writes' ended ran causes keepable calm quiet well =
      let no = sym ended.0 ∙ keepable.undamaged in absurd cc
  ends limits max bytes left' held held' steps (Err (errors.Follow e)) reads reads' writes writes'
      ended ran causes keepable calm quiet well =
      inr (by_error limits max bytes left' held held' steps e reads reads' writes writes'
      keepable.session ended causes calm quiet)
  ends limits max bytes left' held held' steps (Err errors.DiskFault) reads reads' writes writes'
      ended ran causes keepable calm quiet well = absurd (well (ran.fault refl))
  ends limits max bytes left' held held' steps (Err errors.Full) reads reads' writes writes' ended
      ran causes keepable calm quiet well =
      absurd (omega (
        arith,
        ran.full refl,
        keepable.room,
        published_few limits max bytes left' held held' steps ended.0 keepable.session ended.1,
      ))

  pub completes : (limits : ResourceLimits) (max : ℕ) (left left' held held' : Option (List ℕ))
      (r : Result ℕ HelperError) (reads reads' writes writes' n : ℕ) (steps : List PlainStep)
      → Ended limits max (seen old) left left' held held' steps r
      → Ran seen may_leave failures old new steps r → HasCauses reads reads' writes writes' r
      → n ≡ status_of_end r
      → Completes (helper_rules limits) max (seen old) left (reads, reads') (writes, writes')
      (failures old, failures new) n
  completes limits max None left' held held' r reads reads' writes writes' n steps ended ran causes
      is = tt
  completes limits max (Some bytes) left' held held' r reads reads' writes writes' n steps ended ran
      causes is =
      λ keepable calm quiet well. subst (λ (k : ℕ). (k ≡ 0) ⊎ (k ≡ 2)) (sym is)
      (ends limits max bytes left' held held' steps r reads reads' writes writes' ended ran causes
      keepable calm quiet well)
