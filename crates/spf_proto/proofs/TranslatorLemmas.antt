-- What a translating source knows, and what it has left.
use Rattle.std.proofs.Common.{◌≡◌, ◌≢◌, ◌∙◌, ℕ, ℤ, zero, suc, ◌-◌, ◌≤◌, ◌<◌, Bool, true, false}
use Rattle.std.proofs.Common.{List}
use Rattle.std.proofs.Common.{[], ◌∷◌, ◌++◌, length, drop, Option, Some, None, refl, sym, ap, subst}
use Rattle.std.proofs.Common.{arith}
use Rattle.std.proofs.Common.{append_assoc, length-append, length-take-le, take}
use Rattle.std.specs.Option.{option_map}
use Rattle.std.specs.Io.KnownBytes.{Consumes, IsAtEnd, Keeps}
use Rattle.std.proofs.lemmas.List.{append-nil}
use Rattle.std.proofs.KnownBytes.{Consumes-trans}
use Rattle.spf_io.specs.Option.{◌>>=◌}
use Rattle.spf_view.specs.Frames.{sized}
use Rattle.spf_api.specs.declared.response.ContextResponse.{ContextResponse}
use Rattle.spf_api.specs.Layout.{IsContext}
use Rattle.spf_feed.specs.Items.{Rules, context_in}
use Rattle.spf_proto.specs.declared.taking.Stop.{Stop}
use Rattle.spf_proto.specs.Beginning.{Beginning}
use Rattle.spf_proto.specs.Body.{message_at, response_of, body_within, IsMessage, IsBody, total}
use Rattle.spf_proto.specs.Octets.{IsWhole}
use Rattle.spf_proto.specs.Taking.{Came, IsNoMessage}
use Rattle.spf_proto.specs.Translated.{Standing, client_frames, message_frames, standing_after}
use Rattle.spf_proto.specs.Translated.{frames_from}
use Rattle.spf_proto.specs.declared.translating.Position.{Position}
use Rattle.spf_proto.specs.Translating.{standing, IsMade}
use Rattle.spf_proto.specs.Translator.{Translating, left_of, GivesReady}
use Rattle.spf_proto.specs.Translator.{IsStopped, IsTranslator}

keeps_consumes : (a b c : Option (List ℕ)) (bs : List ℕ) → Keeps a b → Consumes b c bs
    → Consumes a c bs
keeps_consumes None b c bs keeps taken = tt
keeps_consumes (Some x) None c bs keeps taken = absurd keeps
keeps_consumes (Some x) (Some y) None bs keeps taken = absurd taken
keeps_consumes (Some x) (Some y) (Some z) bs keeps taken = sym keeps ∙ taken

length_none : (xs : List ℕ) → length xs ≡ 0 → xs ≡ []
length_none [] none = refl
length_none (x ∷ xs) none = absurd (omega (arith, none))

-- ---- bodies

pub body_more : (text : List ℕ) (rs : List ContextResponse) (front : List ℕ) (r : ContextResponse)
    → IsBody text rs → IsMessage front r → IsBody (text ++ front) (rs ++ r ∷ [])
body_more text [] front r is m =
    (front, [], ap (λ (l : List ℕ). l ++ front) is ∙ sym (append-nil front), m, refl)
body_more text (x ∷ rs) front r (first, rest, is, one, others) m = (
  first,
  rest ++ front,
  ap (λ (l : List ℕ). l ++ front) is ∙ append_assoc first rest front,
  one,
  body_more rest rs front r others m,
)

pub message_of : (got octets : List ℕ) (r : ContextResponse) → IsWhole got octets
    → response_of octets ≡ Some r → IsContext r → IsMessage got r
message_of got octets r whole says laid = record {
  begins = λ more.
      whole more ∙ ap (λ (x : Option ContextResponse). x >>= λ y. Some (y, more)) says;
  laid = laid;
}

-- what says nothing is not a message
pub no_message : (got octets : List ℕ) (left : Option (List ℕ)) → IsWhole got octets
    → response_of octets ≡ None → IsNoMessage got left
no_message got octets None whole says = tt
no_message got octets (Some bytes) whole says =
    whole bytes ∙ ap (λ (x : Option ContextResponse). x >>= λ y. Some (y, bytes)) says

-- ---- one message more

-- where a message is translated
abbrev pub after_one : {T : Type 0} → Translating T → List ℕ → Standing → Translating T
after_one t frames s = record {
  source = t.source;
  ready = frames;
  got = [];
  allowed = t.allowed - 1;
  standing = s;
  ended = t.ended;
  stop = t.stop;
  failures = t.failures;
}

abbrev IsGoing : {T : Type 0} → (T → Option (List ℕ)) → (T → ℕ) → Beginning → Translating T
    → Option Stop → Type 0
IsGoing left failures b t stop = IsStopped left failures b t stop → t.failures ≡ 0

going_on : {T : Type 0} (left : T → Option (List ℕ)) (failures : T → ℕ) (b : Beginning)
    (t : Translating T) → t.stop ≡ None → IsStopped left failures b t t.stop → t.failures ≡ 0
going_on left failures b t none = subst (IsGoing left failures b t) (sym none) (λ x. x)

still_going : {T : Type 0} (left : T → Option (List ℕ)) (failures : T → ℕ) (b : Beginning)
    (t : Translating T) → t.stop ≡ None → t.failures ≡ 0 → IsStopped left failures b t t.stop
still_going left failures b t none calm =
    subst (λ s. IsStopped left failures b t s) (sym none) calm

pub translated_one : {T : Type 0} (loan : T → ℕ) (left : T → Option (List ℕ)) (failures : T → ℕ)
    (b : Beginning) (t : Translating T) (frames : List ℕ) (s : Standing) (r : ContextResponse)
    → IsTranslator loan left failures b t → t.stop ≡ None → IsWhole t.got (drop 5 t.got)
    → t.allowed ≢ 0 → response_of (drop 5 t.got) ≡ Some r → IsContext r
    → IsTranslator loan left failures b (after_one t frames s)
translated_one loan left failures b t frames s r i going whole some says laid =
    let counted = i.counted in
    record {
      same = i.same;
      later = i.later;
      sized = omega arith;
      messages = i.messages ++ r ∷ [];
      text = i.text ++ t.got;
      are = body_more i.text i.messages t.got r i.are (message_of t.got _ r whole says laid);
      taken = subst (λ (l : List ℕ). Consumes b.left (left t.source) l)
          (sym (append-nil (i.text ++ t.got))) i.taken;
      counted = grind (arith, length-append i.messages (r ∷ []), counted, some);
      at_end = λ e. (refl, (i.at_end e).1);
      stopped = still_going left failures b (after_one t frames s) going
          (going_on left failures b t going i.stopped);
    }

-- ---- what is left

kept_known : (l : Option (List ℕ)) (f g : List ℕ → List ℕ)
    → ((bytes : List ℕ) → g bytes ≡ f bytes) → Keeps (option_map f l) (option_map g l)
kept_known None f g same = tt
kept_known (Some bytes) f g same = same bytes

body_first : (allowed : ℕ) (bytes more : List ℕ) (r : ContextResponse) → allowed ≢ 0
    → message_at bytes ≡ Some (r, more)
    → (body_within allowed bytes).0 ≡ r ∷ (body_within (allowed - 1) more).0
body_first zero bytes more r some is = absurd (some refl)
body_first (suc n) bytes more r some is =
    let less : suc n - 1 ≡ n = omega arith in
    rw (is, less) refl

pub keeps_one : {T : Type 0} (left : T → Option (List ℕ)) (rules : Rules) (start : ℤ)
    (t : Translating T) (frames : List ℕ) (s : Standing) (r : ContextResponse)
    → IsWhole t.got (drop 5 t.got) → t.allowed ≢ 0 → t.ready ≡ []
    → response_of (drop 5 t.got) ≡ Some r → frames ≡ message_frames t.standing.is_open r
    → s ≡ standing_after rules start t.standing (context_in r)
    → Keeps (left_of left rules start t) (left_of left rules start (after_one t frames s))
keeps_one left rules start t frames s r whole some none says frames_are s_is =
    kept_known (left t.source) _ _
    (λ bytes.
    let at : message_at (t.got ++ bytes) ≡ Some (r, bytes) =
    whole bytes ∙ ap (λ (x : Option ContextResponse). x >>= λ y. Some (y, bytes)) says in
    let first = body_first t.allowed (t.got ++ bytes) bytes r some at in
    ap (λ (l : List ℕ). l ++ frames_from rules start s (body_within (t.allowed - 1) bytes).0)
    frames_are
    ∙ ap (λ (x : Standing). message_frames t.standing.is_open r
    ++ frames_from rules start x (body_within (t.allowed - 1) bytes).0) s_is
    ∙ ap (frames_from rules start t.standing) (sym first)
    ∙ ap (λ (l : List ℕ). l
    ++ frames_from rules start t.standing (body_within t.allowed (t.got ++ bytes)).0)
    (sym none))

pub frames_some : (is_open : Bool) (r : ContextResponse) → message_frames is_open r ≢ []
unfolding message_frames client_frames
frames_some true r is = absurd cc
frames_some false r is = absurd cc

-- ---- as the code has it

pub after_translating : {T : Type 0} (loan : T → ℕ) (left : T → Option (List ℕ)) (failures : T → ℕ)
    (b : Beginning) (t v : Translating T) (rules : Rules) (start : ℤ) (before after : Position)
    (octets frames got : List ℕ)
    → t ≡ v → IsTranslator loan left failures b t → v.stop ≡ None → IsWhole v.got (drop 5 v.got)
    → v.allowed ≢ 0 → octets ≡ drop 5 t.got → IsMade rules start before after octets frames
    → got ≡ []
    → IsTranslator loan left failures b (record {
      source = t.source;
      ready = frames;
      got = got;
      allowed = t.allowed - 1;
      standing = standing after;
      ended = t.ended;
      stop = t.stop;
      failures = t.failures;
    })
after_translating loan left failures b t v rules start before after octets frames got view i
    going whole some octets_are m none =
    let says : response_of (drop 5 t.got) ≡ Some m.response =
    ap response_of (sym octets_are) ∙ m.says in
    let whole' = subst (λ (x : Translating _). IsWhole x.got (drop 5 x.got)) (sym view) whole in
    let some' = subst (λ (x : Translating _). x.allowed ≢ 0) (sym view) some in
    let going' = ap (λ (x : Translating _). x.stop) view ∙ going in
    subst (λ (l : List ℕ). IsTranslator loan left failures b (record {
      source = t.source;
      ready = frames;
      got = l;
      allowed = t.allowed - 1;
      standing = standing after;
      ended = t.ended;
      stop = t.stop;
      failures = t.failures;
    })) (sym none)
    (translated_one loan left failures b t frames (standing after) m.response i going' whole' some'
    says m.laid)

pub left_translating : {T : Type 0} (left : T → Option (List ℕ)) (b : Beginning)
    (t v : Translating T) (rules : Rules) (start : ℤ) (before after : Position)
    (octets frames got : List ℕ)
    → t ≡ v → standing before ≡ t.standing → b.rules ≡ rules → b.start ≡ start → v.ready ≡ []
    → IsWhole v.got (drop 5 v.got) → v.allowed ≢ 0 → octets ≡ drop 5 t.got
    → IsMade rules start before after octets frames → got ≡ []
    → Keeps (left_of left b.rules b.start v) (left_of left b.rules b.start (record {
      source = t.source;
      ready = frames;
      got = got;
      allowed = t.allowed - 1;
      standing = standing after;
      ended = t.ended;
      stop = t.stop;
      failures = t.failures;
    }))
left_translating left b t v rules start before after octets frames got view at rules_are
    start_is ready whole some octets_are m none =
    let says : response_of (drop 5 t.got) ≡ Some m.response =
    ap response_of (sym octets_are) ∙ m.says in
    let whole' = subst (λ (x : Translating _). IsWhole x.got (drop 5 x.got)) (sym view) whole in
    let some' = subst (λ (x : Translating _). x.allowed ≢ 0) (sym view) some in
    let ready' = ap (λ (x : Translating _). x.ready) view ∙ ready in
    let frames_are = m.frames_are
    ∙ ap (λ (x : Standing). message_frames x.is_open m.response) at in
    let s_is : standing after ≡ standing_after b.rules b.start t.standing (context_in m.response) =
    m.standing_is
    ∙ (λ j. standing_after (sym rules_are j) (sym start_is j) (at j) (context_in m.response)) in
    subst (λ (l : List ℕ). Keeps (left_of left b.rules b.start v)
    (left_of left b.rules b.start (record {
      source = t.source;
      ready = frames;
      got = l;
      allowed = t.allowed - 1;
      standing = standing after;
      ended = t.ended;
      stop = t.stop;
      failures = t.failures;
    }))) (sym none)
    (subst (λ (x : Translating _). Keeps (left_of left b.rules b.start x)
    (left_of left b.rules b.start (after_one t frames (standing after)))) view
    (keeps_one left b.rules b.start t frames (standing after) m.response whole' some' ready' says
    frames_are s_is))

pub ready_translating : (rules : Rules) (start : ℤ) (before after : Position)
    (octets frames : List ℕ) → IsMade rules start before after octets frames → frames ≢ []
ready_translating rules start before after octets frames m none =
    frames_some before.is_open m.response (sym m.frames_are ∙ none)

-- ---- octets that came

pub came_translating : {T : Type 0} (loan : T → ℕ) (left : T → Option (List ℕ)) (failures : T → ℕ)
    (b : Beginning) (t v : Translating T) (s : T) (got : List ℕ)
    → t ≡ v → IsTranslator loan left failures b t → v.stop ≡ None → v.ended ≡ false
    → Came (left t.source) (left s) t.got got → loan s ≡ loan t.source
    → failures t.source ≤ failures s → length got ≤ total got
    → IsTranslator loan left failures b (record {
      source = s;
      ready = t.ready;
      got = got;
      allowed = t.allowed;
      standing = t.standing;
      ended = t.ended;
      stop = t.stop;
      failures = t.failures;
    })
came_translating loan left failures b t v s got view i going unended came same later sized =
    let going' = ap (λ (x : Translating _). x.stop) view ∙ going in
    let unended' = ap (λ (x : Translating _). x.ended) view ∙ unended in
    let before = i.later in
    record {
      same = same ∙ i.same;
      later = omega (arith, before, later);
      sized = sized;
      messages = i.messages;
      text = i.text;
      are = i.are;
      taken = subst (λ (l : List ℕ). Consumes b.left (left s) l)
          (append_assoc i.text t.got came.given
          ∙ ap (λ (l : List ℕ). i.text ++ l) (sym came.added))
          (Consumes-trans b.left (left t.source) (left s) (i.text ++ t.got) came.given i.taken
          came.taken);
      counted = i.counted;
      at_end = λ e. let no = sym unended' ∙ e in absurd cc;
      stopped = still_going left failures b (record {
        source = s;
        ready = t.ready;
        got = got;
        allowed = t.allowed;
        standing = t.standing;
        ended = t.ended;
        stop = t.stop;
        failures = t.failures;
      }) going' (going_on left failures b t going' i.stopped);
    }

came_known : (l l' : Option (List ℕ)) (got got' : List ℕ) (f g : List ℕ → List ℕ)
    → Came l l' got got' → ((bytes : List ℕ) → g bytes ≡ f bytes)
    → Keeps (option_map (λ bytes. f (got ++ bytes)) l) (option_map (λ bytes. g (got' ++ bytes)) l')
came_known None l' got got' f g came same = tt
came_known (Some x) None got got' f g came same = absurd came.taken
came_known (Some x) (Some y) got got' f g came same =
    same (got' ++ y) ∙ ap f (ap (λ (l : List ℕ). l ++ y) came.added
    ∙ append_assoc got came.given y ∙ ap (λ (l : List ℕ). got ++ l) (sym came.taken))

pub left_came : {T : Type 0} (left : T → Option (List ℕ)) (rules : Rules) (start : ℤ)
    (t v : Translating T) (s : T) (got : List ℕ) (ended : Bool)
    → t ≡ v → Came (left t.source) (left s) t.got got
    → Keeps (left_of left rules start v) (left_of left rules start (record {
      source = s;
      ready = t.ready;
      got = got;
      allowed = t.allowed;
      standing = t.standing;
      ended = ended;
      stop = t.stop;
      failures = t.failures;
    }))
left_came left rules start t v s got ended view came =
    subst (λ (x : Translating _). Keeps (left_of left rules start x)
    (left_of left rules start (record {
      source = s;
      ready = t.ready;
      got = got;
      allowed = t.allowed;
      standing = t.standing;
      ended = ended;
      stop = t.stop;
      failures = t.failures;
    }))) view
    (came_known (left t.source) (left s) t.got got
    (λ bytes. t.ready ++ frames_from rules start t.standing (body_within t.allowed bytes).0)
    (λ bytes. t.ready ++ frames_from rules start t.standing (body_within t.allowed bytes).0)
    came (λ bytes. refl))

-- ---- the end

none_within : (max : ℕ) → (body_within max []).0 ≡ []
unfolding message_at
none_within zero = refl
none_within (suc max) = refl

end_known : (l : Option (List ℕ)) (rules : Rules) (start : ℤ) (s : Standing) (allowed : ℕ)
    → IsAtEnd l
    → IsAtEnd (option_map (λ bytes. frames_from rules start s (body_within allowed bytes).0) l)
end_known None rules start s allowed end = tt
end_known (Some x) rules start s allowed end =
    ap (λ (l : List ℕ). frames_from rules start s (body_within allowed l).0) end
    ∙ ap (frames_from rules start s) (none_within allowed)

pub at_end_left : {T : Type 0} (left : T → Option (List ℕ)) (rules : Rules) (start : ℤ)
    (t v : Translating T) → t ≡ v → t.ready ≡ [] → t.got ≡ [] → IsAtEnd (left t.source)
    → IsAtEnd (left_of left rules start v)
at_end_left left rules start t v view ready got end =
    subst (λ (x : Translating _). IsAtEnd (left_of left rules start x)) view
    (subst (λ (r : List ℕ). IsAtEnd (option_map
    (λ bytes. r ++ frames_from rules start t.standing (body_within t.allowed (t.got ++ bytes)).0)
    (left t.source))) (sym ready)
    (subst (λ (g : List ℕ). IsAtEnd (option_map
    (λ bytes. frames_from rules start t.standing (body_within t.allowed (g ++ bytes)).0)
    (left t.source))) (sym got) (end_known (left t.source) rules start t.standing t.allowed end)))

consumes_known : (l : Option (List ℕ)) (f : List ℕ → List ℕ) (old ready given : List ℕ)
    → old ≡ given ++ ready
    → Consumes (option_map (λ bytes. old ++ f bytes) l) (option_map (λ bytes. ready ++ f bytes) l)
    given
consumes_known None f old ready given is = tt
consumes_known (Some x) f old ready given is =
    ap (λ (l : List ℕ). l ++ f x) is ∙ append_assoc given ready (f x)

pub gives_left : {T : Type 0} (left : T → Option (List ℕ)) (rules : Rules) (start : ℤ)
    (old mid new : Translating T) (given : List ℕ) (room : ℕ)
    → Keeps (left_of left rules start old) (left_of left rules start mid)
    → GivesReady mid new given room
    → Consumes (left_of left rules start old) (left_of left rules start new) given
gives_left left rules start old mid new given room keeps gives =
    keeps_consumes (left_of left rules start old) (left_of left rules start mid)
    (left_of left rules start new) given keeps
    (subst (λ (x : Translating _). Consumes (left_of left rules start mid)
    (left_of left rules start x) given) (sym gives.others)
    (consumes_known (left mid.source)
    (λ bytes. frames_from rules start mid.standing (body_within mid.allowed (mid.got ++ bytes)).0)
    mid.ready new.ready given gives.front))

pub gives_none : {T : Type 0} (left : T → Option (List ℕ)) (rules : Rules) (start : ℤ)
    (mid new : Translating T) (n : ℕ) (buf : List ℕ)
    → GivesReady mid new (take n buf) (length buf) → n ≤ length buf
    → (mid.ready ≡ [] → IsAtEnd (left_of left rules start mid))
    → n ≡ 0 → 0 < length buf → IsAtEnd (left_of left rules start new)
gives_none left rules start mid new n buf gives le end nothing some =
    let size = gives.size in
    let taken : length (take n buf) ≡ n = length-take-le n buf le in
    let none : length mid.ready ≡ 0 = grind (arith, size, taken, nothing, some) in
    let empty : mid.ready ≡ [] = length_none mid.ready none in
    let front = gives.front in
    let given : take n buf ≡ [] = length_none (take n buf) (taken ∙ nothing) in
    let rest : new.ready ≡ [] =
    sym (ap (λ (l : List ℕ). l ++ new.ready) given) ∙ sym front ∙ empty in
    let same : new ≡ mid = gives.others
    ∙ ap (λ (r : List ℕ). record mid { ready = r }) (rest ∙ sym empty) in
    subst (λ (x : Translating _). IsAtEnd (left_of left rules start x)) (sym same) (end empty)
