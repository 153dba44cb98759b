-- A source that translates the messages of another one into frames.
use Rattle.std.specs.Prelude.{◌≡◌, ◌≢◌, ℕ, ℤ, ◌+◌, ◌≤◌, Bool, true, min, List, [], ◌++◌, length}
use Rattle.std.specs.Prelude.{Option, None, Some}
use Rattle.std.specs.Option.{option_map}
use Rattle.std.specs.Io.KnownBytes.{Consumes, IsAtEnd}
use Rattle.spf_io.specs.Outside.{Rose}
use Rattle.spf_api.specs.declared.response.ContextResponse.{ContextResponse}
use Rattle.spf_feed.specs.Items.{Rules}
use Rattle.spf_proto.specs.declared.taking.Stop.{Stop}
use Rattle.spf_proto.specs.declared.taking.Stop.TheVariants as stops
use Rattle.spf_proto.specs.Beginning.{Beginning}
use Rattle.spf_proto.specs.Body.{IsBody, body_within, total}
use Rattle.spf_proto.specs.Taking.{IsNoMessage}
use Rattle.spf_proto.specs.Translated.{Standing, frames_from}

-- the source; the octets that can be handed out; what came of the next message, and how many are
-- allowed; where the session stands; whether the source ended, or why the translation stopped
pub record Translating (T : Type 0) : Type 0 where
  pub source : T
  pub ready : List ℕ
  pub got : List ℕ
  pub allowed : ℕ
  pub standing : Standing
  pub ended : Bool
  pub stop : Option Stop
  pub failures : ℕ

-- what reads give: the octets that are ready, and the frames of the messages to come
abbrev pub left_of : {T : Type 0} → (T → Option (List ℕ)) → Rules → ℤ → Translating T
    → Option (List ℕ)
left_of left rules start t =
    option_map
    (λ bytes. t.ready
    ++ frames_from rules start t.standing (body_within t.allowed (t.got ++ bytes)).0)
    (left t.source)

-- why the translation stopped, if it did
abbrev pub IsStopped : {T : Type 0} → (T → Option (List ℕ)) → (T → ℕ) → Beginning → Translating T
    → Option Stop → Type 0
IsStopped left failures b t None = t.failures ≡ 0
IsStopped left failures b t (Some stops.SourceFailed) = Rose b.failures (failures t.source)
IsStopped left failures b t (Some stops.OutOfMemory) = Unit {0}
IsStopped left failures b t (Some stops.TooManyMessages) =
    (t.got ≢ []) × (t.allowed ≡ 0) × (t.ready ≡ [])
IsStopped left failures b t (Some stops.BadMessage) =
    (t.got ≢ []) × (t.allowed ≢ 0) × (t.ready ≡ []) × IsNoMessage t.got (left t.source)

-- What was read since the beginning are whole messages, and what came of the next one.
pub record IsTranslator {T : Type 0} (loan : T → ℕ) (left : T → Option (List ℕ))
    (failures : T → ℕ) (b : Beginning) (t : Translating T) : Type 0 where
  pub same : loan t.source ≡ b.loan
  pub later : b.failures ≤ failures t.source
  pub sized : length t.got ≤ total t.got
  pub messages : List ContextResponse
  pub text : List ℕ
  pub are : IsBody text messages
  pub taken : Consumes b.left (left t.source) (text ++ t.got)
  pub counted : length messages + t.allowed ≡ b.max
  pub at_end : t.ended ≡ true → (t.got ≡ []) × IsAtEnd (left t.source)
  pub stopped : IsStopped left failures b t t.stop

-- the first of the octets that are ready are given, as many as there is room for
pub record GivesReady {T : Type 0} (old new : Translating T) (given : List ℕ)
    (room : ℕ) : Type 0 where
  pub front : old.ready ≡ given ++ new.ready
  pub size : length given ≡ min room (length old.ready)
  pub others : new ≡ record old { ready = new.ready }
