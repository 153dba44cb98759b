-- The body of a gRPC response: messages one after another, each a flag octet 0 (not
-- compressed), its length in four octets, big-endian, and its octets (gRPC over HTTP/2).
use Rattle.std.specs.Prelude.{◌≡◌, ℕ, zero, suc, ◌+◌, ◌^◌, nat_lt, ◌==◌, List, [], ◌∷◌, ◌++◌}
use Rattle.std.specs.Prelude.{length}
use Rattle.std.specs.Prelude.{Option, Some, None, if◌then◌else◌}
use Rattle.std.specs.Int.{w32, from_be_bytes}
use Rattle.std.specs.Option.{option_map_or}
use Rattle.spf_io.specs.Option.{◌>>=◌}
use Rattle.spf_api.specs.declared.response.ContextResponse.{ContextResponse}
use Rattle.spf_api.specs.Layout.{context_payload, IsContext}
use Rattle.spf_api.specs.Reading.{byte_field_at}
use Rattle.spf_proto.specs.Message.{context_message}

-- no more than a message, or the payload of a frame, may have
abbrev pub fits : {A : Type 0} → List ℕ → A → Option A
fits octets x = if nat_lt (2 ^ 24) (length octets) then None else Some x

-- the response that the octets of a message say, where its payload fits in a frame
unfoldable pub response_of : List ℕ → Option ContextResponse
response_of octets = do
  o ← fits octets octets
  r ← context_message o
  fits (context_payload r) r

-- the message at the start, and what follows it
unfoldable pub message_at : List ℕ → Option (ContextResponse × List ℕ)
message_at [] = None
message_at (flag ∷ bytes) =
    if flag == 0
    then (byte_field_at bytes >>= λ f. response_of f.0 >>= λ r. Some (r, f.1))
    else None

-- the messages at the start, at most `max` of them, and what follows them
abbrev pub body_within : ℕ → List ℕ → List ContextResponse × List ℕ
body_within zero bytes = ([], bytes)
body_within (suc max) bytes =
    option_map_or
    (λ (m : ContextResponse × List ℕ).
    (m.0 ∷ (body_within max m.1).0, (body_within max m.1).1))
    (message_at bytes) ([], bytes)

-- these octets are a message that says the response, whatever follows them
pub record IsMessage (text : List ℕ) (r : ContextResponse) : Type 0 where
  pub begins : (more : List ℕ) → message_at (text ++ more) ≡ Some (r, more)
  pub laid : IsContext r

-- the octets are these messages, one after another
abbrev pub IsBody : List ℕ → List ContextResponse → Type 0
IsBody text [] = text ≡ []
IsBody text (r ∷ rs) =
    (front : List ℕ) × (rest : List ℕ) × (text ≡ front ++ rest) × IsMessage front r × IsBody rest rs

-- how long the message is that begins with these octets, as far as they say
abbrev pub total : List ℕ → ℕ
total (flag ∷ a ∷ b ∷ c ∷ d ∷ octets) = 5 + from_be_bytes w32 (a ∷ b ∷ c ∷ d ∷ [])
total _ = 5
