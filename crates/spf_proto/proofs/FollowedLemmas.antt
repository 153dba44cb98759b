-- What a body that is followed gives.
use Rattle.std.proofs.Common.{◌≡◌, ◌≢◌, ◌∙◌, ℕ, ◌+◌, ◌-◌, ◌^◌, ◌<◌, Bool, true, false, cond, List}
use Rattle.std.proofs.Common.{[], ◌∷◌, ◌++◌, length, Option, Some, None, Result, Ok, Err, inl, inr}
use Rattle.std.proofs.Common.{refl, sym, ap, subst, arith, append_assoc}
use Rattle.std.specs.Prelude.{ℤ, pos, ◌⊎◌, IsTrue, IfSome}
use Rattle.std.specs.Option.{option_map}
use Rattle.std.specs.Io.KnownBytes.{Consumes, IsAtEnd, Keeps}
use Rattle.spf_api.specs.declared.response.ContextResponse.{ContextResponse}
use Rattle.spf_view.specs.Sessions.{onto, Ports, Followed}
use Rattle.spf_view.specs.Views.{has_synced}
use Rattle.spf_feed.specs.declared.follow_error.FollowError.{FollowError}
use Rattle.spf_feed.specs.declared.follow_error.FollowError.TheVariants as follow_errors
use Rattle.spf_feed.specs.declared.record.MetricsRecord.{MetricsRecord}
use Rattle.spf_feed.specs.declared.turn.Terminal.TheVariants as terminal
use Rattle.spf_feed.specs.Items.{Event, Rules, subject}
use Rattle.spf_feed.specs.Run.{stream, outputs, end_for, timed_out}
use Rattle.spf_feed.specs.Steps.{PlainStep}
use Rattle.spf_proto.specs.declared.frame_end.FrameEnd.{FrameEnd}
use Rattle.spf_proto.specs.declared.frame_end.FrameEnd.TheVariants as ends
use Rattle.spf_proto.specs.declared.proto_error.ProtoError.{ProtoError}
use Rattle.spf_proto.specs.declared.proto_error.ProtoError.TheVariants as errors
use Rattle.spf_proto.specs.declared.taking.Stop.{Stop}
use Rattle.spf_proto.specs.declared.taking.Stop.TheVariants as stops
use Rattle.spf_proto.specs.Beginning.{Beginning}
use Rattle.spf_proto.specs.Body.{message_at, body_within}
use Rattle.spf_proto.specs.Ends.{IsReasonOf, IsResultOf, begun, error_of}
use Rattle.spf_proto.specs.FrameEnds.{end_by, result_of_end}
use Rattle.spf_proto.specs.Following.{is_due, is_free, answer_of, OutputState, FollowsBody}
use Rattle.spf_proto.specs.Following.{BodyFollowed, CutShort, HandsOnBeginning, cuts_line}
use Rattle.spf_proto.specs.Following.{cuts_steps}
use Rattle.spf_proto.specs.Translated.{frames_from, moment_frame, session_of}
use Rattle.spf_proto.specs.Translator.{Translating, IsTranslator, left_of}
use Rattle.spf_proto.proofs.BodySessions.{undated, shut, body_frames, open_session, read_session}
use Rattle.spf_proto.proofs.LaidMessages.{body_laid, body_count}
use Rattle.spf_proto.proofs.GivenLemmas.{held, Given, IsKnown, IsGiven, known, rest_is, given_by}
use Rattle.spf_proto.proofs.BeginningLemmas.{beginning_by, line_kept, steps_kept, may_be_cut}
use Rattle.spf_proto.proofs.AnswerLemmas.{none_more, body_of, answer_synced, answer_many}
use Rattle.spf_proto.proofs.AnswerLemmas.{answer_bad}

-- ---- how the translation ended

some_more : (xs ys : List ℕ) → xs ≢ [] → xs ++ ys ≢ []
some_more [] ys some is = some refl
some_more (x ∷ xs) ys some is = absurd cc

-- the body, where nothing more is a message
record BodyRead (b : Beginning) (bytes : List ℕ) (messages : List ContextResponse)
    (rest : List ℕ) : Type 0 where
  read : body_within b.max bytes ≡ (messages, rest)

read_so_far : {T : Type 0} (loan : T → ℕ) (left : T → Option (List ℕ)) (failures : T → ℕ)
    (b : Beginning) (t : Translating T) (bytes more : List ℕ)
    (i : IsTranslator loan left failures b t)
    → b.left ≡ Some bytes → left t.source ≡ Some more
    → body_within t.allowed (t.got ++ more) ≡ ([], t.got ++ more)
    → BodyRead b bytes i.messages (t.got ++ more)
read_so_far loan left failures b t bytes more i first now stop =
    let taken : Consumes (Some bytes) (left t.source) (i.text ++ t.got) =
    subst (λ (l : Option (List ℕ)). Consumes l (left t.source) (i.text ++ t.got)) first i.taken in
    let whole : bytes ≡ i.text ++ (t.got ++ more) =
    rest_is bytes (i.text ++ t.got) more (left t.source) taken now
    ∙ append_assoc i.text t.got more in
    record {
      read = ap (body_within b.max) whole
          ∙ body_of b.max i.text (t.got ++ more) i.messages t.allowed i.are i.counted stop;
    }

-- the bytes of its own source are known
tells : {T : Type 0} (loan : T → ℕ) (left : T → Option (List ℕ)) (failures : T → ℕ)
    (b : Beginning) (t : Translating T) (bytes : List ℕ) → IsTranslator loan left failures b t
    → b.left ≡ Some bytes → IsKnown (left t.source)
tells loan left failures b t bytes i first =
    known bytes (i.text ++ t.got) (left t.source)
    (subst (λ (l : Option (List ℕ)). Consumes l (left t.source) (i.text ++ t.got)) first i.taken)

-- the answer of a body, where all frames of its messages are given
follows : (rules : Rules) (start : ℤ) (max : ℕ) (bytes : List ℕ)
    (old new : Ports PlainStep MetricsRecord) (r : Result ℕ ProtoError)
    (messages : List ContextResponse) (rest : List ℕ)
    → body_within max bytes ≡ (messages, rest)
    → Given rules (session_of rules start (body_within max bytes).0) old new
    → r ≡ answer_of rules start max messages rest
    → FollowsBody rules start max bytes (held old) (held new) r
follows rules start max bytes old new r messages rest reading g answer = record {
  messages = messages;
  rest = rest;
  reading = reading;
  answer = answer;
  given = subst (λ (p : List ContextResponse × List ℕ).
      Given rules (session_of rules start p.0) old new) reading g;
}

abbrev Answered : Rules → ℤ → ℕ → List ℕ → Ports PlainStep MetricsRecord
    → Ports PlainStep MetricsRecord → Result ℕ ProtoError → Type 0
Answered rules start max bytes old new r =
    CutShort rules start max bytes (held old) (held new) r
    ⊎ FollowsBody rules start max bytes (held old) (held new) r

-- a beginning of what the session of a body gives
abbrev BodyBegun : Rules → ℤ → ℕ → List ℕ → Ports PlainStep MetricsRecord
    → Ports PlainStep MetricsRecord → Bool → Bool → Type 0
BodyBegun rules start max bytes old new line_cut steps_cut =
    HandsOnBeginning rules (session_of rules start (body_within max bytes).0) line_cut steps_cut
    (held old) (held new)

cut_by : (rules : Rules) (start : ℤ) (max : ℕ) (bytes : List ℕ)
    (old new : Ports PlainStep MetricsRecord) (r end : Result ℕ ProtoError) → r ≡ end
    → IsTrue (is_free end)
    → BodyBegun rules start max bytes old new (cuts_line end) (cuts_steps end)
    → Answered rules start max bytes old new r
cut_by rules start max bytes old new r end is free part =
    subst (λ (r : Result ℕ ProtoError). Answered rules start max bytes old new r) (sym is)
    (inl (record { free = free; given = part }))

-- where nothing is ready and nothing more is a message, nothing is left
nothing_left : {T : Type 0} (loan : T → ℕ) (left : T → Option (List ℕ)) (failures : T → ℕ)
    (b : Beginning) (t : Translating T) (more : List ℕ) → left t.source ≡ Some more → t.ready ≡ []
    → body_within t.allowed (t.got ++ more) ≡ ([], t.got ++ more)
    → left_of left b.rules b.start t ≡ Some []
nothing_left loan left failures b t more now ready stop =
    ap (λ (l : Option (List ℕ)). option_map (λ bytes. t.ready
    ++ frames_from b.rules b.start t.standing (body_within t.allowed (t.got ++ bytes)).0) l) now
    ∙ ap (λ (l : List ℕ). Some (l
    ++ frames_from b.rules b.start t.standing (body_within t.allowed (t.got ++ more)).0)) ready
    ∙ ap (λ (p : List ContextResponse × List ℕ).
    Some (frames_from b.rules b.start t.standing p.0)) stop

-- where the translation stopped
stopped : {T : Type 0} (loan : T → ℕ) (left : T → Option (List ℕ)) (failures : T → ℕ)
    (b : Beginning) (t : Translating T) (rules : Rules) (bytes : List ℕ)
    (old new : Ports PlainStep MetricsRecord) (r : Result ℕ ProtoError) (stop : Stop)
    → IsTranslator loan left failures b t → b.left ≡ Some bytes
    → BodyBegun rules b.start b.max bytes old new false false
    → (left_of left b.rules b.start t ≡ Some []
    → Given rules (session_of rules b.start (body_within b.max bytes).0) old new)
    → r ≡ Err (error_of b.max t.allowed stop) → IsReasonOf left failures b t stop
    → Answered rules b.start b.max bytes old new r
stopped loan left failures b t rules bytes old new r stops.SourceFailed i first part g is reason =
    cut_by rules b.start b.max bytes old new r (Err (errors.Follow follow_errors.ReadFault)) is refl
    part
stopped loan left failures b t rules bytes old new r stops.OutOfMemory i first part g is reason =
    cut_by rules b.start b.max bytes old new r (Err (errors.Follow follow_errors.OutOfMemory)) is
    refl
    (may_be_cut rules (session_of rules b.start (body_within b.max bytes).0) true true (held old)
    (held new) part)
stopped loan left failures b t rules bytes old new r stops.TooManyMessages i first part g is
    (some, full, ready) =
    let more = tells loan left failures b t bytes i first in
    let stop : body_within t.allowed (t.got ++ more.0) ≡ ([], t.got ++ more.0) =
    ap (λ (n : ℕ). body_within n (t.got ++ more.0)) full in
    let body = read_so_far loan left failures b t bytes more.0 i first more.1 stop in
    let none = nothing_left loan left failures b t more.0 more.1 ready stop in
    let counted = i.counted in
    inr (follows rules b.start b.max bytes old new r i.messages (t.got ++ more.0) body.read (g none)
    (is ∙ sym (answer_many rules b.start b.max i.messages (t.got ++ more.0)
    (some_more t.got more.0 some) (omega (arith, counted, full)))))
stopped loan left failures b t rules bytes old new r stops.BadMessage i first part g is
    (some, allowed, ready, none) =
    let more = tells loan left failures b t bytes i first in
    let bad : message_at (t.got ++ more.0) ≡ None =
    subst (λ (l : Option (List ℕ)). IfSome l (λ bytes. message_at (t.got ++ bytes) ≡ None)) more.1
    none in
    let stop = none_more t.allowed (t.got ++ more.0) bad in
    let body = read_so_far loan left failures b t bytes more.0 i first more.1 stop in
    let nothing = nothing_left loan left failures b t more.0 more.1 ready stop in
    let counted = i.counted in
    let above : 0 < t.allowed = grind (arith, allowed) in
    let number : b.max - t.allowed + 1 ≡ length i.messages + 1 = omega (arith, counted) in
    inr (follows rules b.start b.max bytes old new r i.messages (t.got ++ more.0) body.read
    (g nothing)
    (is ∙ ap (λ (n : ℕ). Err (errors.BadMessage n)) number
    ∙ sym (answer_bad rules b.start b.max i.messages (t.got ++ more.0)
    (some_more t.got more.0 some) (omega (arith, counted, above)))))

-- where the source is at its end
nil_front : (xs ys : List ℕ) → xs ++ ys ≡ [] → xs ≡ []
nil_front [] ys is = refl
nil_front (x ∷ xs) ys is = absurd cc

ready_none : {T : Type 0} (left : T → Option (List ℕ)) (rules : Rules) (start : ℤ)
    (t : Translating T) (more : List ℕ) → left t.source ≡ Some more
    → left_of left rules start t ≡ Some [] → t.ready ≡ []
ready_none left rules start t more now none =
    let all : Some (t.ready
    ++ frames_from rules start t.standing (body_within t.allowed (t.got ++ more)).0) ≡ Some [] =
    ap (λ (l : Option (List ℕ)). option_map (λ bytes. t.ready
    ++ frames_from rules start t.standing (body_within t.allowed (t.got ++ bytes)).0) l) (sym now)
    ∙ none in
    nil_front t.ready _ (some_is all)
  where
    some_is : {x y : List ℕ} → Some x ≡ Some y → x ≡ y
    some_is e = cc

at_end : (l : Option (List ℕ)) (more : List ℕ) → l ≡ Some more → IsAtEnd l → more ≡ []
at_end l more is end = subst IsAtEnd is end

ended : {T : Type 0} (loan : T → ℕ) (left : T → Option (List ℕ)) (failures : T → ℕ)
    (b : Beginning) (t : Translating T) (bytes : List ℕ)
    (i : IsTranslator loan left failures b t)
    → b.left ≡ Some bytes → left_of left b.rules b.start t ≡ Some []
    → (t.ready ≡ [] → t.ended ≡ true)
    → BodyRead b bytes i.messages []
unfolding message_at
ended loan left failures b t bytes i first none end =
    let more = tells loan left failures b t bytes i first in
    let ready = ready_none left b.rules b.start t more.0 more.1 none in
    let last = i.at_end (end ready) in
    let empty : more.0 ≡ [] = at_end (left t.source) more.0 more.1 last.1 in
    let nothing : t.got ++ more.0 ≡ [] =
    ap (λ (l : List ℕ). l ++ more.0) last.0 ∙ empty in
    subst (λ (l : List ℕ). BodyRead b bytes i.messages l) nothing
    (read_so_far loan left failures b t bytes more.0 i first more.1
    (none_more t.allowed (t.got ++ more.0) (ap message_at nothing)))

keeps_none : (before after : Option (List ℕ)) → before ≡ Some [] → Keeps before after
    → after ≡ Some []
keeps_none before after is keeps =
    by after (subst (λ (l : Option (List ℕ)). Keeps l after) is keeps)
  where
    by : (after : Option (List ℕ)) → Keeps (Some []) after → after ≡ Some []
    by None keeps = absurd keeps
    by (Some x) keeps = ap Some keeps

kept_none : (before after : Option (List ℕ)) → IsKnown before → Keeps before after
    → after ≡ Some [] → before ≡ Some []
kept_none before after is keeps none =
    let same : [] ≡ is.0 =
    (λ (k : Keeps (Some is.0) (Some [])). k)
    (subst (λ (l : Option (List ℕ)). Keeps (Some is.0) l) none
    (subst (λ (l : Option (List ℕ)). Keeps l after) is.1 keeps)) in
    is.1 ∙ ap Some (sym same)

-- ---- the result

pub answered : {T : Type 0} (loan : T → ℕ) (left : T → Option (List ℕ)) (failures : T → ℕ)
    (b : Beginning) (t : Translating T) (rules : Rules) (bytes : List ℕ)
    (old new : Ports PlainStep MetricsRecord) (end : FrameEnd) (r : Result ℕ ProtoError)
    → IsTranslator loan left failures b t → b.left ≡ Some bytes
    → BodyBegun rules b.start b.max bytes old new (cuts_line (result_of_end end))
    (cuts_steps (result_of_end end))
    → IsGiven rules (session_of rules b.start (body_within b.max bytes).0) old new end
    → IsResultOf left failures b new.left t end r
    → Answered rules b.start b.max bytes old new r
answered loan left failures b t rules bytes old new (ends.Whole n) r i first part
    (count, synced, none, g) (keeps, inl (is, end)) =
    let here = keeps_none new.left (left_of left b.rules b.start t) none keeps in
    let body = ended loan left failures b t bytes i first here end in
    let all = ap (λ (p : List ContextResponse × List ℕ). session_of rules b.start p.0) body.read in
    inr (follows rules b.start b.max bytes old new r i.messages [] body.read g
    (is ∙ ap Ok (count ∙ ap length all)
    ∙ sym (answer_synced rules b.start b.max i.messages true
    (ap (λ (l : List Event). has_synced (subject rules) (onto [] l)) (sym all) ∙ synced))))
answered loan left failures b t rules bytes old new (ends.Whole n) r i first part
    (count, synced, none, g) (keeps, inr (stop, is, reason)) =
    stopped loan left failures b t rules bytes old new r stop i first part (λ none. g) is reason
answered loan left failures b t rules bytes old new ends.NeverSynced r i first part
    (synced, none, g) (keeps, inl (is, end)) =
    let here = keeps_none new.left (left_of left b.rules b.start t) none keeps in
    let body = ended loan left failures b t bytes i first here end in
    let all = ap (λ (p : List ContextResponse × List ℕ). session_of rules b.start p.0) body.read in
    inr (follows rules b.start b.max bytes old new r i.messages [] body.read g
    (is
    ∙ sym (answer_synced rules b.start b.max i.messages false
    (ap (λ (l : List Event). has_synced (subject rules) (onto [] l)) (sym all) ∙ synced))))
answered loan left failures b t rules bytes old new ends.NeverSynced r i first part
    (synced, none, g) (keeps, inr (stop, is, reason)) =
    stopped loan left failures b t rules bytes old new r stop i first part (λ none. g) is reason
answered loan left failures b t rules bytes old new ends.ReadFault r i first part
    (here, g) (keeps, (stop, is, reason)) =
    stopped loan left failures b t rules bytes old new r stop i first part
    (λ none. g (kept_none new.left (left_of left b.rules b.start t) here keeps none)) is reason
answered loan left failures b t rules bytes old new ends.WriteFault r i first part g is =
    cut_by rules b.start b.max bytes old new r (Err (errors.Follow follow_errors.WriteFault)) is
    refl part
answered loan left failures b t rules bytes old new ends.OutOfMemory r i first part g is =
    cut_by rules b.start b.max bytes old new r (Err (errors.Follow follow_errors.OutOfMemory)) is
    refl part

early : (deadline : Option ℤ) (start : ℤ) → is_due deadline start ≡ false
    → timed_out deadline start ≡ None
early None start is = refl
early (Some deadline) start is =
    ap (λ (b : Bool). cond b (Some terminal.InitialSyncTimeout) None) is

-- a body is followed, whatever its bytes are
pub followed_body : {T : Type 0} (loan : T → ℕ) (left : T → Option (List ℕ)) (failures : T → ℕ)
    (b : Beginning) (t : Translating T) (rules : Rules) (seconds : ℕ)
    (old new : Ports PlainStep MetricsRecord) (followed : Result ℕ FollowError)
    (end : FrameEnd) (r : Result ℕ ProtoError)
    → IsTranslator loan left failures b t → b.start ≡ pos seconds → seconds < 2 ^ 63
    → b.max < 2 ^ 32 → is_due rules.deadline (pos seconds) ≡ false
    → old.left ≡ option_map (λ bytes. body_frames rules seconds (body_within b.max bytes).0) b.left
    → Followed (stream rules) (outputs rules) (2 ^ 64 - 1) old new (end_for followed)
    → end ≡ end_by followed → IsResultOf left failures b new.left t end r
    → BodyFollowed rules b.start b.max b.left (held old) (held new) r
followed_body loan left failures b t rules seconds old new followed end r i start small few
    deadline frames f end_is result =
    by b.left refl
  where
    by : (l : Option (List ℕ)) → b.left ≡ l
        → IfSome l (λ bytes. Answered rules b.start b.max bytes old new r)
    by None first = tt
    by (Some bytes) first =
        let ms = (body_within b.max bytes).0 in
        let going = open_session rules seconds ms small
        (early rules.deadline (pos seconds) deadline)
        (body_laid b.max bytes) in
        let count = body_count b.max bytes in
        let reading =
        read_session rules seconds ms (2 ^ 64 - 1) going (omega (arith, count, few)) in
        let is : old.left ≡ Some (body_frames rules seconds ms) =
        frames
        ∙ ap (option_map (λ bytes. body_frames rules seconds (body_within b.max bytes).0)) first in
        let g = given_by rules (2 ^ 64 - 1) (body_frames rules seconds ms)
        (session_of rules (pos seconds) ms) old new followed going reading is f in
        let g' : IsGiven rules (session_of rules b.start ms) old new end =
        subst (λ (e : FrameEnd). IsGiven rules (session_of rules b.start ms) old new e) (sym end_is)
        (subst (λ (s : ℤ). IsGiven rules (session_of rules s ms) old new (end_by followed))
        (sym start) g) in
        let part = beginning_by rules (2 ^ 64 - 1) (body_frames rules seconds ms)
        (session_of rules (pos seconds) ms) old new (end_for followed)
        (cuts_line (result_of_end (end_by followed))) (cuts_steps (result_of_end (end_by followed)))
        going is (line_kept followed) (steps_kept followed) f in
        let part' : BodyBegun rules b.start b.max bytes old new (cuts_line (result_of_end end))
        (cuts_steps (result_of_end end)) =
        subst (λ (e : FrameEnd). BodyBegun rules b.start b.max bytes old new
        (cuts_line (result_of_end e)) (cuts_steps (result_of_end e))) (sym end_is)
        (subst (λ (s : ℤ). BodyBegun rules s b.max bytes old new
        (cuts_line (result_of_end (end_by followed)))
        (cuts_steps (result_of_end (end_by followed)))) (sym start) part) in
        answered loan left failures b t rules bytes old new end r i first part' g' result

-- what a translation that has not begun has left
pub begun_left : {T : Type 0} (left : T → Option (List ℕ)) (b : Beginning) (rules : Rules)
    (seconds : ℕ) (source : T) (frames : List ℕ) (allowed : ℕ) (t : Translating T)
    → t ≡ begun source frames allowed → frames ≡ moment_frame seconds → b.rules ≡ undated rules
    → b.start ≡ pos seconds → left source ≡ b.left → allowed ≡ b.max
    → left_of left b.rules b.start t
    ≡ option_map (λ bytes. body_frames rules seconds (body_within b.max bytes).0) b.left
begun_left left b rules seconds source frames allowed t view made same start known max =
    ap (left_of left b.rules b.start) view
    ∙ (λ i. option_map
    (λ bytes. made i ++ frames_from (same i) (start i) shut (body_within (max i) bytes).0)
    (known i))

pub followed_since : (rules : Rules) (b c : Beginning) (old new : OutputState)
    (r : Result ℕ ProtoError)
    → b ≡ c → BodyFollowed rules b.start b.max b.left old new r
    → BodyFollowed rules c.start c.max c.left old new r
followed_since rules b c old new r same =
    subst (λ (x : Beginning). BodyFollowed rules x.start x.max x.left old new r) same
