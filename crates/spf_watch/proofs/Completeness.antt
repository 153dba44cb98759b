-- A whole session is followed to its end.
use Rattle.std.proofs.Common.{◌≡◌, ℕ, true, ◌==◌, ◌||◌, List, [], length, Option, None, Some}
use Rattle.std.proofs.Common.{Result, Ok, Err, inl, inr, refl, sym, ap, ◌∙◌, subst}
use Rattle.std.specs.Prelude.{◌⊎◌, IfSome, IsTrue}
use Rattle.spf_io.specs.Outside.{Rose}
use Rattle.spf_view.specs.Sessions.{Whole, end_by, end_of, is_free, IsEndOf, closed_of, refusal_of}
use Rattle.spf_view.specs.Sessions.{onto}
use Rattle.spf_view.proofs.SessionLemmas.{reading_same}
use Rattle.spf_feed.specs.Run.{end_for}
use Rattle.spf_feed.specs.declared.follow_error.FollowError.{FollowError}
use Rattle.spf_feed.specs.declared.follow_error.FollowError.TheVariants as errors
use Rattle.spf_watch.specs.declared.exit_reason.ExitReason.{ExitReason}
use Rattle.spf_watch.specs.declared.arguments.Command.{Command}
use Rattle.spf_watch.specs.declared.arguments.Command.TheVariants as commands
use Rattle.spf_watch.specs.Causes.{HasCauses}
use Rattle.spf_program.specs.Streams.{Failed, Streams}
use Rattle.spf_watch.specs.Headline.{Session, x509_session, jwt_session, FollowsSession, Does}
use Rattle.spf_watch.specs.Headline.{ended_by, status_of_end, IsWholeSession, Completes}
use Rattle.spf_watch.specs.Headline.{CompletesSession}

whole_end : {E X Y : Type 0} (s : Session E X Y) (es fs : List E) (rest other : List ℕ) → es ≡ fs
    → rest ≡ other → refusal_of s.stream [] es ≡ None → s.stream.synced (onto [] es) ≡ true
    → IsTrue (closed_of s.stream es || length rest == 0)
    → end_of s.stream s.max_frames fs other ≡ Whole (length es)
whole_end s es fs rest other same left calm accepted whole =
    ap (λ l. end_of s.stream s.max_frames l other) (sym same)
    ∙ ap (end_of s.stream s.max_frames es) (sym left)
    ∙ (λ i. end_by
    (record {
      refusal = calm i;
      whole = whole i;
      synced = accepted i;
      full = length es == s.max_frames;
      count = length es;
    }))

-- a result that the bytes do not fix, where neither side failed: memory ran out
fails_freely : (answer : Result ℕ FollowError) (r : Result (Unit {0}) ExitReason)
    (reads reads' writes writes' n : ℕ) → r ≡ ended_by answer
    → HasCauses reads reads' writes writes' r → (Rose reads reads' → ⊥) → (Rose writes writes' → ⊥)
    → IsTrue (is_free (end_for answer)) → status_of_end r ≡ 2
fails_freely (Ok count) r reads reads' writes writes' n is causes calm quiet free = absurd cc
fails_freely (Err errors.OutOfMemory) r reads reads' writes writes' n is causes calm quiet free =
    ap status_of_end is
fails_freely (Err errors.ReadFault) r reads reads' writes writes' n is causes calm quiet free =
    absurd (calm (causes.read is))
fails_freely (Err errors.WriteFault) r reads reads' writes writes' n is causes calm quiet free =
    absurd (quiet (causes.write is))
fails_freely (Err errors.SessionTooLong) r reads reads' writes writes' n is causes calm quiet free =
    absurd cc
fails_freely (Err (errors.BadFrame frame)) r reads reads' writes writes' n is causes calm quiet
    free = absurd cc
fails_freely (Err (errors.Source e)) r reads reads' writes writes' n is causes calm quiet free =
    absurd cc
fails_freely (Err (errors.UnsupportedRpc e)) r reads reads' writes writes' n is causes calm quiet
    free = absurd cc
fails_freely (Err errors.InitialSyncTimeout) r reads reads' writes writes' n is causes calm quiet
    free = absurd cc
fails_freely (Err errors.Closed) r reads reads' writes writes' n is causes calm quiet free =
    absurd cc
fails_freely (Err errors.NeverSynced) r reads reads' writes writes' n is causes calm quiet free =
    absurd cc

ends_whole : (answer : Result ℕ FollowError) (r : Result (Unit {0}) ExitReason) (m : ℕ)
    → r ≡ ended_by answer → end_for answer ≡ Whole m → status_of_end r ≡ 0
ends_whole (Ok count) r m is e = ap status_of_end is
ends_whole (Err errors.OutOfMemory) r m is e = absurd cc
ends_whole (Err errors.ReadFault) r m is e = absurd cc
ends_whole (Err errors.WriteFault) r m is e = absurd cc
ends_whole (Err errors.SessionTooLong) r m is e = absurd cc
ends_whole (Err (errors.BadFrame frame)) r m is e = absurd cc
ends_whole (Err (errors.Source x)) r m is e = absurd cc
ends_whole (Err (errors.UnsupportedRpc x)) r m is e = absurd cc
ends_whole (Err errors.InitialSyncTimeout) r m is e = absurd cc
ends_whole (Err errors.Closed) r m is e = absurd cc
ends_whole (Err errors.NeverSynced) r m is e = absurd cc

completes_by : {E X Y : Type 0} (s : Session E X Y) (bytes : List ℕ)
    (left' held held' : Option (List ℕ)) (r : Result (Unit {0}) ExitReason)
    (reads reads' writes writes' : ℕ) → FollowsSession s (Some bytes) left' held held' r
    → HasCauses reads reads' writes writes' r → IsWholeSession s bytes
    → (Rose reads reads' → ⊥) → (Rose writes writes' → ⊥)
    → (status_of_end r ≡ 0) ⊎ (status_of_end r ≡ 2)
completes_by s bytes left' held held' r reads reads' writes writes' ran causes whole calm quiet =
    by_answer ran.followed.end
  where
    by_answer : IsTrue (is_free (end_for ran.answer))
        ⊎ IsEndOf s.stream s.max_frames bytes ran.followed.es (end_for ran.answer)
        → (status_of_end r ≡ 0) ⊎ (status_of_end r ≡ 2)
    by_answer (inl free) =
        inr (fails_freely ran.answer r reads reads' writes writes' 0 ran.is causes calm quiet free)
    by_answer (inr ended) =
        let same = reading_same s.stream s.max_frames bytes whole.es ran.followed.es whole.rest
        ended.rest whole.reading ended.reading in
        inl (ends_whole ran.answer r (length whole.es) ran.is
        (ended.is ∙ whole_end s whole.es ran.followed.es whole.rest ended.rest same.0 same.1
        whole.calm whole.accepted whole.whole))

completed : {E X Y : Type 0} (s : Session E X Y) (bytes : Option (List ℕ)) (before after : Streams)
    (r : Result (Unit {0}) ExitReason) (n : ℕ) → n ≡ status_of_end r → before.input.bytes ≡ bytes
    → FollowsSession s bytes after.input.bytes before.output.bytes after.output.bytes r
    → HasCauses before.input.failures after.input.failures before.output.failures
    after.output.failures r → CompletesSession s before after n
completed s None before after r n is same ran causes =
    subst (λ b. IfSome b (λ bytes. IsWholeSession s bytes → (Failed before.input after.input → ⊥)
    → (Failed before.output after.output → ⊥) → (n ≡ 0) ⊎ (n ≡ 2))) (sym same) tt
completed s (Some bytes) before after r n is same ran causes =
    subst (λ b. IfSome b (λ bytes. IsWholeSession s bytes → (Failed before.input after.input → ⊥)
    → (Failed before.output after.output → ⊥) → (n ≡ 0) ⊎ (n ≡ 2))) (sym same)
    (λ whole calm quiet. subst (λ k. (k ≡ 0) ⊎ (k ≡ 2)) (sym is)
    (completes_by s bytes after.input.bytes before.output.bytes after.output.bytes r
    before.input.failures after.input.failures before.output.failures after.output.failures ran
    causes whole calm quiet))

pub completes : (command : Option Command) (before after : Streams)
    (r : Result (Unit {0}) ExitReason) (n : ℕ) → n ≡ status_of_end r → Does command before after r
    → HasCauses before.input.failures after.input.failures before.output.failures
    after.output.failures r → Completes command before after n
completes (Some (commands.X509 setting)) before after r n is does causes =
    completed (x509_session setting) before.input.bytes before after r n is refl does causes
completes (Some (commands.Jwt setting)) before after r n is does causes =
    completed (jwt_session setting) before.input.bytes before after r n is refl does causes
completes (Some (commands.Make arguments)) before after r n is does causes = tt
completes (Some (commands.Bench arguments)) before after r n is does causes = tt
completes None before after r n is does causes = tt
