-- How a run of the program ends.
use Rattle.std.proofs.Common.{◌≡◌, ◌≢◌, ◌∙◌, ℕ, ◌+◌, ◌<◌, Bool, true, false, cond, List}
use Rattle.std.proofs.Common.{[], ◌∷◌, length}
use Rattle.std.proofs.Common.{Option, Some, None, Result, Ok, Err, inl, inr, refl, sym, ap, subst}
use Rattle.std.proofs.Common.{arith}
use Rattle.std.specs.Prelude.{ℤ, codes, ◌⊎◌, ◌↔◌, ◌==◌, IfSome}
use Rattle.std.proofs.KnownBytes.{Appends-nil}
use Rattle.spf_io.specs.declared.memory.Failed.{Failed}
use Rattle.spf_io.specs.Outside.{HasCause, PutAppends, Rose}
use Rattle.spf_api.specs.declared.response.ContextResponse.{ContextResponse}
use Rattle.spf_view.specs.Sessions.{GrowsUpTo, all_of, onto}
use Rattle.spf_view.specs.Views.{has_synced}
use Rattle.spf_feed.specs.declared.follow_error.FollowError.TheVariants as follow_errors
use Rattle.spf_feed.specs.declared.limits.ResourceLimits.{ResourceLimits}
use Rattle.spf_feed.specs.declared.ready.Ready.TheVariants as readiness
use Rattle.spf_feed.specs.Items.{Rules, rules_with, subject}
use Rattle.spf_feed.specs.Limits.{default_limits}
use Rattle.spf_feed.specs.Run.{stream, outputs}
use Rattle.spf_proto.specs.declared.proto_error.ProtoError.{ProtoError}
use Rattle.spf_proto.specs.declared.proto_error.ProtoError.TheVariants as errors
use Rattle.spf_proto.specs.BodyErrors.{RefusedFor}
use Rattle.spf_proto.specs.Following.{answer_of, BodyFollowed, FollowsBody, HasCauses, OutputState}
use Rattle.spf_proto.specs.Following.{cuts_line, cuts_steps, is_free, OnlyThese}
use Rattle.spf_proto.specs.Translated.{session_of}
use Rattle.spf_program.specs.Reports.{IsReported, failure_line}
use Rattle.spf_proto.specs.Watching.{message, number, Completes, Follows, Headline}
use Rattle.spf_proto.specs.Watching.{IsWholeBody, line_of_end, max_messages, PrintsBeginning}
use Rattle.spf_proto.specs.Watching.{PrintsBody}
use Rattle.spf_program.specs.Streams.{Side, Streams}
use Rattle.spf_proto.specs.Watching.{program_rules, Runs, shown, status, status_of_end}
use Rattle.spf_proto.proofs.AnswerLemmas.{answer_synced, some_rest}
use Rattle.spf_proto.proofs.BeginningLemmas.{all_lines, lines_of}

-- ---- reports

pub said_nothing : (before after : Side) (end : Result ℕ ProtoError) (n : ℕ) → end ≡ Ok n
    → after ≡ before → IsReported before after (line_of_end end)
said_nothing before after end n is same =
    subst (λ (r : Result ℕ ProtoError). IsReported before after (line_of_end r)) (sym is)
    (subst (λ (s : Side). IsReported before s []) (sym same) (record {
      put = Ok tt;
      appends = Appends-nil before.bytes;
      cause = record { later = omega arith; failed = λ err. cc };
    }))

pub said_line : (before after : Side) (end : Result ℕ ProtoError) (e : ProtoError) (m : List ℕ)
    (n : Option ℕ) → end ≡ Err e → m ≡ message e → n ≡ number e
    → IsReported before after (failure_line (codes "spf_proto: ") m n)
    → IsReported before after (line_of_end end)
said_line before after end e m n is message_is number_is reported =
    subst (λ (r : Result ℕ ProtoError). IsReported before after (line_of_end r)) (sym is)
    (subst (λ (l : List ℕ). IsReported before after l)
    (ap (λ (l : List ℕ). failure_line (codes "spf_proto: ") l n) message_is
    ∙ ap (failure_line (codes "spf_proto: ") (message e)) number_is) reported)

-- ---- what is followed

pub follows_by : (limits : ResourceLimits) (passed start : ℤ) (input input' output output' : Side)
    (end : Result ℕ ProtoError) → limits ≡ default_limits → passed ≡ start
    → BodyFollowed (rules_with limits None readiness.Usable None) passed max_messages input.bytes
    (shown output) (shown output') end
    → RefusedFor max_messages input.bytes end → OnlyThese end
    → HasCauses input.failures input'.failures output.failures output'.failures end
    → Follows start input input' output output' end
follows_by limits passed start input input' output output' end is same followed refused only
    cause = record {
      followed = subst (λ (s : ℤ). BodyFollowed program_rules s max_messages input.bytes
          (shown output)
          (shown output') end) same
          (subst (λ (l : ResourceLimits). BodyFollowed (rules_with l None readiness.Usable None)
          passed max_messages input.bytes (shown output) (shown output') end) is followed);
      refused = refused;
      only = only;
      cause = cause;
    }

-- ---- statuses

status_above : (e : ProtoError) → 1 < status e
status_above (errors.Follow follow_errors.OutOfMemory) = omega arith
status_above (errors.Follow follow_errors.ReadFault) = omega arith
status_above (errors.Follow follow_errors.WriteFault) = omega arith
status_above (errors.Follow follow_errors.SessionTooLong) = omega arith
status_above (errors.Follow (follow_errors.BadFrame n)) = omega arith
status_above (errors.Follow (follow_errors.Source e)) = omega arith
status_above (errors.Follow (follow_errors.UnsupportedRpc e)) = omega arith
status_above (errors.Follow follow_errors.InitialSyncTimeout) = omega arith
status_above (errors.Follow follow_errors.Closed) = omega arith
status_above (errors.Follow follow_errors.NeverSynced) = omega arith
status_above errors.TooManyMessages = omega arith
status_above (errors.BadMessage n) = omega arith

never_one : (end : Result ℕ ProtoError) → status_of_end end ≢ 1
never_one (Ok n) is = absurd (omega (arith, is))
never_one (Err e) is = absurd (omega (arith, is, status_above e))

pub arguments_are : (o : Option ℤ) (start : ℤ) (end : Result ℕ ProtoError) (n : ℕ)
    → Some start ≡ o → n ≡ status_of_end end → (n ≡ 1) ↔ (o ≡ None)
arguments_are o start end n some is = (
  λ one. absurd (never_one end (sym is ∙ one)),
  λ none. let no : Some start ≡ None = some ∙ none in absurd cc,
)

read_by : (end : Result ℕ ProtoError) → status_of_end end ≡ 3
    → end ≡ Err (errors.Follow follow_errors.ReadFault)
read_by (Ok n) is = absurd (omega (arith, is))
read_by (Err (errors.Follow follow_errors.OutOfMemory)) is = absurd (omega (arith, is))
read_by (Err (errors.Follow follow_errors.ReadFault)) is = refl
read_by (Err (errors.Follow follow_errors.WriteFault)) is = absurd (omega (arith, is))
read_by (Err (errors.Follow follow_errors.SessionTooLong)) is = absurd (omega (arith, is))
read_by (Err (errors.Follow (follow_errors.BadFrame n))) is = absurd (omega (arith, is))
read_by (Err (errors.Follow (follow_errors.Source e))) is = absurd (omega (arith, is))
read_by (Err (errors.Follow (follow_errors.UnsupportedRpc e))) is = absurd (omega (arith, is))
read_by (Err (errors.Follow follow_errors.InitialSyncTimeout)) is = absurd (omega (arith, is))
read_by (Err (errors.Follow follow_errors.Closed)) is = absurd (omega (arith, is))
read_by (Err (errors.Follow follow_errors.NeverSynced)) is = absurd (omega (arith, is))
read_by (Err errors.TooManyMessages) is = absurd (omega (arith, is))
read_by (Err (errors.BadMessage n)) is = absurd (omega (arith, is))

write_by : (end : Result ℕ ProtoError) → status_of_end end ≡ 4
    → end ≡ Err (errors.Follow follow_errors.WriteFault)
write_by (Ok n) is = absurd (omega (arith, is))
write_by (Err (errors.Follow follow_errors.OutOfMemory)) is = absurd (omega (arith, is))
write_by (Err (errors.Follow follow_errors.ReadFault)) is = absurd (omega (arith, is))
write_by (Err (errors.Follow follow_errors.WriteFault)) is = refl
write_by (Err (errors.Follow follow_errors.SessionTooLong)) is = absurd (omega (arith, is))
write_by (Err (errors.Follow (follow_errors.BadFrame n))) is = absurd (omega (arith, is))
write_by (Err (errors.Follow (follow_errors.Source e))) is = absurd (omega (arith, is))
write_by (Err (errors.Follow (follow_errors.UnsupportedRpc e))) is = absurd (omega (arith, is))
write_by (Err (errors.Follow follow_errors.InitialSyncTimeout)) is = absurd (omega (arith, is))
write_by (Err (errors.Follow follow_errors.Closed)) is = absurd (omega (arith, is))
write_by (Err (errors.Follow follow_errors.NeverSynced)) is = absurd (omega (arith, is))
write_by (Err errors.TooManyMessages) is = absurd (omega (arith, is))
write_by (Err (errors.BadMessage n)) is = absurd (omega (arith, is))

pub read_rises : (start : ℤ) (input input' output output' : Side) (end : Result ℕ ProtoError)
    (n : ℕ) → Follows start input input' output output' end → n ≡ status_of_end end → n ≡ 3
    → Rose input.failures input'.failures
read_rises start input input' output output' end n f is three =
    f.cause.read (read_by end (sym is ∙ three))

pub write_rises : (start : ℤ) (input input' output output' : Side) (end : Result ℕ ProtoError)
    (n : ℕ) → Follows start input input' output output' end → n ≡ status_of_end end → n ≡ 4
    → Rose output.failures output'.failures
write_rises start input input' output output' end n f is four =
    f.cause.write (write_by end (sym is ∙ four))

-- ---- the headline

synced_by : (b : Bool) (count n : ℕ)
    → Ok count ≡ cond b (Ok n) (Err (errors.Follow follow_errors.NeverSynced)) → b ≡ true
synced_by true count n is = refl
synced_by false count n is = absurd cc

no_count : (b : Bool) (count : ℕ) (d e : ProtoError) → Ok count ≡ cond b (Err d) (Err e) → ⊥
no_count true count d e is = absurd cc
no_count false count d e is = absurd cc

answer_whole : (rules : Rules) (start : ℤ) (max : ℕ) (ms : List ContextResponse) (rest : List ℕ)
    (count : ℕ) → Ok count ≡ answer_of rules start max ms rest
    → (rest ≡ []) × (has_synced (subject rules) (onto [] (session_of rules start ms)) ≡ true)
answer_whole rules start max ms [] count is = (
  refl,
  synced_by (has_synced (subject rules) (onto [] (session_of rules start ms))) count
      (length (session_of rules start ms))
      (is ∙ answer_synced rules start max ms
      (has_synced (subject rules) (onto [] (session_of rules start ms))) refl),
)
answer_whole rules start max ms (x ∷ rest) count is =
    absurd (no_count (length ms == max) count errors.TooManyMessages
    (errors.BadMessage (length ms + 1))
    (is ∙ ap (λ (b : Bool). cond b
    (cond (has_synced (subject rules) (onto [] (session_of rules start ms)))
    (Ok (length (session_of rules start ms))) (Err (errors.Follow follow_errors.NeverSynced)))
    (cond (length ms == max) (Err errors.TooManyMessages)
    (Err (errors.BadMessage (length ms + 1)))))
    (some_rest (x ∷ rest) (λ none. cc))))

printed : (start : ℤ) (left : Option (List ℕ)) (old new : OutputState) (count : ℕ)
    → BodyFollowed program_rules start max_messages left old new (Ok count)
    → IfSome left (PrintsBody start old.held new.held)
printed start None old new count followed = tt
printed start (Some bytes) old new count (inl cut) =
    let free : false ≡ true = cut.free in absurd cc
printed start (Some bytes) old new count (inr f) =
    let whole = answer_whole program_rules start max_messages f.messages f.rest count f.answer in
    record {
      body = record {
        messages = f.messages;
        reading = f.reading ∙ ap (λ (l : List ℕ). (f.messages, l)) whole.0;
        accepted = whole.1;
      };
      lines = f.given.lines;
    }

by_end : (start : ℤ) (input input' output output' : Side) (end : Result ℕ ProtoError)
    → status_of_end end ≡ 0 → Follows start input input' output output' end
    → IfSome input.bytes (PrintsBody start output.bytes output'.bytes)
by_end start input input' output output' (Ok count) zero f =
    printed start input.bytes (shown output) (shown output') count f.followed
by_end start input input' output output' (Err e) zero f =
    absurd (omega (arith, zero, status_above e))

pub headline_of : (o : Option ℤ) (passed start : ℤ) (input input' output output' : Side)
    (end : Result ℕ ProtoError) (n : ℕ) → Some start ≡ o → passed ≡ start
    → Follows passed input input' output output' end → n ≡ status_of_end end → n ≡ 0
    → Headline o input.bytes output.bytes output'.bytes
headline_of o passed start input input' output output' end n some same f is zero =
    subst (λ (x : Option ℤ). Headline x input.bytes output.bytes output'.bytes)
    (ap Some same ∙ some) (by_end passed input input' output output' end (sym is ∙ zero) f)

-- ---- the beginning

begun : (start : ℤ) (left : Option (List ℕ)) (old new : OutputState) (end : Result ℕ ProtoError)
    → BodyFollowed program_rules start max_messages left old new end
    → PrintsBeginning (Some start) left old.held new.held
begun start None old new end followed = tt
begun start (Some bytes) old new end (inl cut) =
    lines_of program_rules _ (cuts_line end) (cuts_steps end) old new cut.given
begun start (Some bytes) old new end (inr f) =
    subst (λ (p : List ContextResponse × List ℕ). GrowsUpTo old.held new.held
    (all_of (stream program_rules) (outputs program_rules).line []
    (session_of program_rules start p.0)) true) (sym f.reading)
    (all_lines old.held new.held
    (all_of (stream program_rules) (outputs program_rules).line []
    (session_of program_rules start f.messages)) f.given.lines)

pub beginning_of : (o : Option ℤ) (passed start : ℤ) (input input' output output' : Side)
    (end : Result ℕ ProtoError) → Some start ≡ o → passed ≡ start
    → Follows passed input input' output output' end
    → PrintsBeginning o input.bytes output.bytes output'.bytes
beginning_of o passed start input input' output output' end some same f =
    subst (λ (x : Option ℤ). PrintsBeginning x input.bytes output.bytes output'.bytes)
    (ap Some same ∙ some)
    (begun passed input.bytes (shown output) (shown output') end f.followed)

pub unprinted : (o : Option ℤ) (left held held' : Option (List ℕ)) → None ≡ o → held' ≡ held
    → PrintsBeginning o left held held'
unprinted o left held held' none same =
    subst (λ (x : Option ℤ). PrintsBeginning x left held held') none same

-- ---- completeness

free_end : (reads reads' writes writes' : ℕ) (end : Result ℕ ProtoError)
    → HasCauses reads reads' writes writes' end
    → (Rose reads reads' → ⊥) → (Rose writes writes' → ⊥)
    → is_free end ≡ true → (status_of_end end ≡ 0) ⊎ (status_of_end end ≡ 2)
free_end reads reads' writes writes' (Ok n) cause calm still free = inl refl
free_end reads reads' writes writes' (Err (errors.Follow follow_errors.OutOfMemory)) cause calm
    still
    free =
    inr refl
free_end reads reads' writes writes' (Err (errors.Follow follow_errors.ReadFault)) cause calm still
    free =
    absurd (calm (cause.read refl))
free_end reads reads' writes writes' (Err (errors.Follow follow_errors.WriteFault)) cause calm still
    free =
    absurd (still (cause.write refl))
free_end reads reads' writes writes' (Err (errors.Follow follow_errors.SessionTooLong)) cause calm
    still
    free = absurd cc
free_end reads reads' writes writes' (Err (errors.Follow (follow_errors.BadFrame n))) cause calm
    still
    free = absurd cc
free_end reads reads' writes writes' (Err (errors.Follow (follow_errors.Source e))) cause calm still
    free = absurd cc
free_end reads reads' writes writes' (Err (errors.Follow (follow_errors.UnsupportedRpc e))) cause
    calm
    still free = absurd cc
free_end reads reads' writes writes' (Err (errors.Follow follow_errors.InitialSyncTimeout)) cause
    calm
    still free = absurd cc
free_end reads reads' writes writes' (Err (errors.Follow follow_errors.Closed)) cause calm still
    free =
    absurd cc
free_end reads reads' writes writes' (Err (errors.Follow follow_errors.NeverSynced)) cause calm
    still
    free = absurd cc
free_end reads reads' writes writes' (Err errors.TooManyMessages) cause calm still free = absurd cc
free_end reads reads' writes writes' (Err (errors.BadMessage n)) cause calm still free = absurd cc

whole_end : (start : ℤ) (bytes : List ℕ) (old new : OutputState) (end : Result ℕ ProtoError)
    → IsWholeBody start bytes → FollowsBody program_rules start max_messages bytes old new end
    → status_of_end end ≡ 0
whole_end start bytes old new end body f =
    let same : (f.messages, f.rest) ≡ (body.messages, []) = sym f.reading ∙ body.reading in
    let all = ap (λ (p : List ContextResponse × List ℕ).
    answer_of program_rules start max_messages p.0 p.1) same in
    ap status_of_end (f.answer ∙ all
    ∙ answer_synced program_rules start max_messages body.messages true body.accepted)

completes_left : (start : ℤ) (left : Option (List ℕ)) (old new : OutputState)
    (reads reads' writes writes' : ℕ) (end : Result ℕ ProtoError)
    → BodyFollowed program_rules start max_messages left old new end
    → HasCauses reads reads' writes writes' end
    → IfSome left (λ bytes. IsWholeBody start bytes → (Rose reads reads' → ⊥)
    → (Rose writes writes' → ⊥) → (status_of_end end ≡ 0) ⊎ (status_of_end end ≡ 2))
completes_left start None old new reads reads' writes writes' end followed cause = tt
completes_left start (Some bytes) old new reads reads' writes writes' end (inl cut) cause =
    λ body calm still. free_end reads reads' writes writes' end cause calm still cut.free
completes_left start (Some bytes) old new reads reads' writes writes' end (inr f) cause =
    λ body calm still. inl (whole_end start bytes old new end body f)

pub completes_of : (o : Option ℤ) (passed start : ℤ) (input input' output output' : Side)
    (end : Result ℕ ProtoError) (n : ℕ) → Some start ≡ o → passed ≡ start
    → Follows passed input input' output output' end → n ≡ status_of_end end
    → Completes o input input' output output' n
completes_of o passed start input input' output output' end n some same f is =
    subst (λ (x : Option ℤ). Completes x input input' output output' n) (ap Some same ∙ some)
    (subst (λ (m : ℕ). Completes (Some passed) input input' output output' m) (sym is)
    (completes_left passed input.bytes (shown output) (shown output') input.failures input'.failures
    output.failures output'.failures end f.followed f.cause))

-- ---- arguments

pub refuses : (o : Option ℤ) (before after : Streams) (n : ℕ) (put : Result (Unit {0}) Failed)
    → None ≡ o → after.input ≡ before.input → after.output ≡ before.output
    → PutAppends before.errors.bytes after.errors.bytes put (codes "spf_proto: bad words\n")
    → HasCause before.errors.failures after.errors.failures put → Runs o before after n
refuses o before after n put none input output appends cause =
    subst (λ (x : Option ℤ). Runs x before after n) none
    (input, output, record { put = put; appends = appends; cause = cause })
