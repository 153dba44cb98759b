-- The messages with which a body begins, and the answer that they fix.
use Rattle.std.proofs.Common.{◌≡◌, ◌≢◌, ◌∙◌, ℕ, zero, suc, ◌+◌, ◌<◌, Bool, true, false, cond, List}
use Rattle.std.proofs.Common.{[], ◌∷◌, ◌++◌, length, Option, Some, None, Ok, Err, refl, ap, arith}
use Rattle.std.proofs.Common.{append_assoc}
use Rattle.std.specs.Prelude.{ℤ, ◌==◌}
use Rattle.std.specs.Option.{option_map_or}
use Rattle.std.proofs.lemmas.Bool.Decides.{nat_tests}
use Rattle.spf_api.specs.declared.response.ContextResponse.{ContextResponse}
use Rattle.spf_view.specs.Sessions.{onto}
use Rattle.spf_view.specs.Views.{has_synced}
use Rattle.spf_feed.specs.declared.follow_error.FollowError.TheVariants as follow_errors
use Rattle.spf_feed.specs.Items.{Rules, subject}
use Rattle.spf_proto.specs.declared.proto_error.ProtoError.TheVariants as errors
use Rattle.spf_proto.specs.Body.{message_at, body_within, IsBody}
use Rattle.spf_proto.specs.Following.{answer_of}
use Rattle.spf_proto.specs.Translated.{session_of}

-- ---- the messages of a body

pub none_more : (max : ℕ) (rest : List ℕ) → message_at rest ≡ None
    → body_within max rest ≡ ([], rest)
none_more zero rest none = refl
none_more (suc max) rest none =
    ap (λ (m : Option (ContextResponse × List ℕ)). option_map_or {U = List ContextResponse × List ℕ}
    (λ (m : ContextResponse × List ℕ).
    (m.0 ∷ (body_within max m.1).0, (body_within max m.1).1)) m ([], rest)) none

-- whole messages, and then none, or the most that are allowed
pub body_of : (max : ℕ) (text rest : List ℕ) (ms : List ContextResponse) (allowed : ℕ)
    → IsBody text ms
    → length ms + allowed ≡ max → (body_within allowed rest ≡ ([], rest))
    → body_within max (text ++ rest) ≡ (ms, rest)
body_of max text rest [] allowed is count stop =
    let full : max ≡ allowed = omega (arith, count) in
    ap (λ (l : List ℕ). body_within max (l ++ rest)) is
    ∙ ap (λ (n : ℕ). body_within n rest) full ∙ stop
body_of zero text rest (m ∷ ms) allowed (front, others, is, one, body) count stop =
    absurd (omega (arith, count))
body_of (suc max) text rest (m ∷ ms) allowed (front, others, is, one, body) count stop =
    let first : message_at (text ++ rest) ≡ Some (m, others ++ rest) =
    ap message_at (ap (λ (l : List ℕ). l ++ rest) is ∙ append_assoc front others rest)
    ∙ one.begins (others ++ rest) in
    let later = body_of max others rest ms allowed body (omega (arith, count)) stop in
    ap (λ (o : Option (ContextResponse × List ℕ)). option_map_or {U = List ContextResponse × List ℕ}
    (λ (o : ContextResponse × List ℕ).
    (o.0 ∷ (body_within max o.1).0, (body_within max o.1).1)) o ([], text ++ rest)) first
    ∙ ap (λ (p : List ContextResponse × List ℕ). (m ∷ p.0, p.1)) later

-- ---- the answer

pub some_rest : (rest : List ℕ) → rest ≢ [] → (length rest == 0) ≡ false
some_rest [] some = absurd (some refl)
some_rest (x ∷ rest) some = grind (arith, nat_tests)

pub answer_synced : (rules : Rules) (start : ℤ) (max : ℕ) (ms : List ContextResponse) (b : Bool)
    → has_synced (subject rules) (onto [] (session_of rules start ms)) ≡ b
    → answer_of rules start max ms []
    ≡ cond b (Ok (length (session_of rules start ms)))
    (Err (errors.Follow follow_errors.NeverSynced))
answer_synced rules start max ms b synced =
    ap (λ (b : Bool). cond b (Ok (length (session_of rules start ms)))
    (Err (errors.Follow follow_errors.NeverSynced))) synced

pub answer_many : (rules : Rules) (start : ℤ) (max : ℕ) (ms : List ContextResponse) (rest : List ℕ)
    → rest ≢ [] → length ms ≡ max → answer_of rules start max ms rest ≡ Err errors.TooManyMessages
answer_many rules start max ms rest some full =
    let is : (length ms == max) ≡ true = grind (arith, nat_tests, full) in
    rw (some_rest rest some, is) refl

pub answer_bad : (rules : Rules) (start : ℤ) (max : ℕ) (ms : List ContextResponse) (rest : List ℕ)
    → rest ≢ [] → length ms < max
    → answer_of rules start max ms rest ≡ Err (errors.BadMessage (length ms + 1))
answer_bad rules start max ms rest some less =
    let isnt : (length ms == max) ≡ false = grind (arith, nat_tests, less) in
    rw (some_rest rest some, isnt) refl
