-- How a message is translated.
use Rattle.std.proofs.Common.{◌≡◌, ◌∙◌, ℕ, ◌^◌, ◌≤◌, ◌<◌, Bool, true, false, cond, List, [], ◌∷◌}
use Rattle.std.proofs.Common.{◌+◌, ◌-◌, ◌++◌, length, take, drop, Option, Some, None, refl, ap}
use Rattle.std.proofs.Common.{append_assoc, arith, length-append, sym}
use Rattle.std.specs.Option.{option_map}
use Rattle.std.specs.Int.{w32, to_be_bytes}
use Rattle.std.specs.Prelude.{nat_lt}
use Rattle.std.proofs.Math.Seq.{take-append_seam, drop-append_seam}
use Rattle.std.proofs.lemmas.Bool.Decides.{nat_tests}
use Rattle.spf_io.specs.Option.{◌>>=◌}
use Rattle.spf_view.specs.Frames.{sized}
use Rattle.spf_api.specs.declared.response.ContextResponse.{ContextResponse}
use Rattle.spf_x509.specs.Context.{Context}
use Rattle.spf_api.specs.declared.response.Response.TheVariants as response
use Rattle.spf_api.specs.declared.response.ResponseKind.TheVariants as kinds
use Rattle.spf_api.specs.Layout.{IsContext, context_payload, field_text}
use Rattle.spf_api.specs.Payload.{IsRead, Payload}
use Rattle.spf_api.specs.Reading.{context_at}
use Rattle.spf_api.proofs.Payloads.{laid_is_read}
use Rattle.spf_feed.specs.Items.{context_in, item_at}
use Rattle.spf_proto.specs.Message.{context_message}
use Rattle.spf_proto.specs.Body.{fits, response_of}
use Rattle.spf_proto.specs.Translated.{client_frames, message_frames}
use Rattle.spf_proto.specs.Translating.{item_frames, payload_start, ArePut, IsLengthPut}
use Rattle.spf_frame.specs.declared.frame_kind.TheConstants.{ITEM}

pub client_is : 1 ∷ 0 ∷ 0 ∷ 0 ∷ 0 ∷ 3 ∷ 0 ∷ 0 ∷ 0 ∷ 0 ∷ [] ≡ client_frames
unfolding client_frames sized
client_is = refl

-- an item whose length is put in the place of four octets
pub frames_put : (is_open : Bool) (payload start zeros old new : List ℕ) (at : ℕ) (put : Bool)
    → start ≡ cond is_open [] client_frames ++ ITEM ∷ [] → at ≡ length start → length zeros ≡ 4
    → old ≡ (start ++ zeros) ++ payload → IsLengthPut at old new put
    → ArePut is_open payload new put
unfolding item_frames field_text
frames_put is_open payload start zeros old new at true start_is at_is four is (short, made) =
    let size : length old ≡ at + 4 + length payload =
    omega (
      arith,
      ap length is,
      length-append (start ++ zeros) payload,
      length-append start zeros,
      at_is,
      four,
    ) in
    let rest : length old - at - 4 ≡ length payload = omega (arith, size) in
    let seam : at + 4 ≡ length (start ++ zeros) =
    omega (arith, length-append start zeros, at_is, four) in
    let front : take at old ≡ start =
    (λ j. take (at_is j) (is j)) ∙ ap (take (length start)) (append_assoc start zeros payload)
    ∙ take-append_seam start (zeros ++ payload) in
    let back : drop (at + 4) old ≡ payload =
    (λ j. drop (seam j) (is j)) ∙ drop-append_seam (start ++ zeros) payload in (
      omega (arith, size, short),
      made
          ∙ (λ j. (front j ++ to_be_bytes w32 (rest j)) ++ back j)
          ∙ append_assoc start (to_be_bytes w32 (length payload)) payload
          ∙ ap (λ (l : List ℕ). l ++ (to_be_bytes w32 (length payload) ++ payload)) start_is
          ∙ append_assoc (cond is_open [] client_frames) (ITEM ∷ [])
          (to_be_bytes w32 (length payload) ++ payload),
    )
frames_put is_open payload start zeros old new at false start_is at_is four is long =
    omega (
      arith,
      long,
      ap length is,
      length-append (start ++ zeros) payload,
      length-append start zeros,
      at_is,
      four,
    )

pub frames_made : (is_open : Bool) (r : ContextResponse) (frames : List ℕ)
    → frames ≡ item_frames is_open (context_payload r) → frames ≡ message_frames is_open r
unfolding item_frames message_frames sized field_text
frames_made is_open r frames made = made

-- a message that is longer than one may be says nothing
pub response_long : (octets : List ℕ) → 2 ^ 24 < length octets → response_of octets ≡ None
unfolding response_of
response_long octets gt =
    let test : nat_lt (2 ^ 24) (length octets) ≡ true = grind (arith, nat_tests, gt) in rw test refl

after_fit : (b : Bool) (octets : List ℕ) (r : Option ContextResponse) → context_message octets ≡ r
    → (cond b None (Some octets) >>= λ o. context_message o >>= λ s. fits (context_payload s) s)
    ≡ cond b None (r >>= λ s. fits (context_payload s) s)
after_fit true octets r is = refl
after_fit false octets r is =
    ap (λ (x : Option ContextResponse). x >>= λ s. fits (context_payload s) s) is

neither : {A : Type 0} (b : Bool) → cond {A = Option A} b None None ≡ None
neither true = refl
neither false = refl

pub response_none : (octets : List ℕ) → context_message octets ≡ None → response_of octets ≡ None
unfolding response_of
response_none octets is =
    after_fit (nat_lt (2 ^ 24) (length octets)) octets None is
    ∙ neither (nat_lt (2 ^ 24) (length octets))

pub response_large : (octets : List ℕ) (r : ContextResponse) → context_message octets ≡ Some r
    → 2 ^ 24 < length (context_payload r) → response_of octets ≡ None
unfolding response_of
response_large octets r is gt =
    let test : nat_lt (2 ^ 24) (length (context_payload r)) ≡ true = grind (arith, nat_tests, gt) in
    after_fit (nat_lt (2 ^ 24) (length octets)) octets (Some r) is
    ∙ (rw test (neither (nat_lt (2 ^ 24) (length octets))))

pub response_some : (octets : List ℕ) (r : ContextResponse) → length octets ≤ 2 ^ 24
    → context_message octets ≡ Some r → length (context_payload r) ≤ 2 ^ 24
    → response_of octets ≡ Some r
unfolding response_of
response_some octets r short is fitting =
    let first : nat_lt (2 ^ 24) (length octets) ≡ false = grind (arith, nat_tests, short) in
    let second : nat_lt (2 ^ 24) (length (context_payload r)) ≡ false =
    grind (arith, nat_tests, fitting) in
    after_fit (nat_lt (2 ^ 24) (length octets)) octets (Some r) is ∙ rw (first, second) refl

-- ---- what a payload reads as

response_is : (o : Option ContextResponse) (r : ContextResponse)
    → Some (response.Context r) ≡ option_map response.Context o → o ≡ Some r
response_is None r is = absurd cc
response_is (Some x) r is = ap Some cc

pub payload_read : (r : ContextResponse) → IsContext r → context_at (context_payload r) ≡ Some r
unfolding IsRead Payload
payload_read r laid =
    response_is (context_at (context_payload r)) r
    (laid_is_read kinds.Context (context_payload r) (response.Context r)
    (record { fits = laid; octets = refl }))

-- the payload of an item is what stands from there on
pub payload_of : (is_open : Bool) (payload : List ℕ)
    → drop (payload_start is_open) (item_frames is_open payload) ≡ payload
unfolding item_frames field_text client_frames sized
payload_of true payload = refl
payload_of false payload = refl

-- the payload that was put reads as what was read of the response
pub known_is : (is_open : Bool) (r : ContextResponse) (frames : List ℕ) (context : Option Context)
    → IsContext r → frames ≡ item_frames is_open (context_payload r) → context ≡ context_in r
    → item_at (drop (payload_start is_open) frames) ≡ Some context
known_is is_open r frames context laid made is =
    ap (λ (l : List ℕ). item_at (drop (payload_start is_open) l)) made
    ∙ ap item_at (payload_of is_open (context_payload r))
    ∙ ap (option_map context_in) (payload_read r laid)
    ∙ ap Some (sym is)
