-- What a body has where it is refused.
use Rattle.std.specs.Prelude.{◌≡◌, ◌≢◌, ℕ, ◌+◌, ◌<◌, List, [], ◌++◌, length, Option, None, IfSome}
use Rattle.std.specs.Prelude.{Result, Err}
use Rattle.spf_api.specs.declared.response.ContextResponse.{ContextResponse}
use Rattle.spf_proto.specs.declared.proto_error.ProtoError.{ProtoError}
use Rattle.spf_proto.specs.declared.proto_error.ProtoError.TheVariants as errors
use Rattle.spf_proto.specs.Body.{IsBody, message_at}

-- The bytes are whole messages, and then octets that are none, in
-- the place of the message of this number, which is allowed.
pub record IsBadAt (max : ℕ) (bytes : List ℕ) (number : ℕ) : Type 0 where
  pub messages : List ContextResponse
  pub text : List ℕ
  pub rest : List ℕ
  pub bytes_are : bytes ≡ text ++ rest
  pub body : IsBody text messages
  pub number_is : number ≡ length messages + 1
  pub allowed : length messages < max
  pub some : rest ≢ []
  pub none : message_at rest ≡ None

-- The bytes are as many messages as are allowed, and octets after them.
pub record IsTooMany (max : ℕ) (bytes : List ℕ) : Type 0 where
  pub messages : List ContextResponse
  pub text : List ℕ
  pub rest : List ℕ
  pub bytes_are : bytes ≡ text ++ rest
  pub body : IsBody text messages
  pub full : length messages ≡ max
  pub some : rest ≢ []

-- a body is refused for what it has, where its bytes are known
abbrev pub RefusedFor : ℕ → Option (List ℕ) → Result ℕ ProtoError → Type 0
RefusedFor max left (Err (errors.BadMessage number)) =
    IfSome left (λ bytes. IsBadAt max bytes number)
RefusedFor max left (Err errors.TooManyMessages) = IfSome left (λ bytes. IsTooMany max bytes)
RefusedFor max left _ = Unit {0}
