-- DelaysOf: the pause after each attempt that ended. A history, `past`, has the newest step first.
use Rattle.std.specs.Prelude.{◌≡◌, ℕ, ◌*◌, Bool, true, false, not, ◌&&◌, if◌then◌else◌, List, []}
use Rattle.std.specs.Prelude.{◌∷◌}
use Rattle.std.specs.Duration.{as_nanos}
use Rattle.spf_system.specs.declared.pacer.AttemptEnd.{AttemptEnd}
use Rattle.spf_system.specs.declared.pacer.AttemptEnd.TheVariants.{Client, Connect, Stream}
use Rattle.spf_system.specs.declared.pacer.Pacer.{Pacer}
use Rattle.spf_system.specs.declared.reconnect_config.ReconnectConfig.{ReconnectConfig}
use Rattle.spf_system.specs.Backoff.{NANOS_PER_MILLI, millis, grown, grown_without_identity}
use Rattle.spf_system.specs.Bounds.{normalized}

-- an update was accepted for the first time, or an
-- attempt ended, at which this random word was at hand
pub data PaceStep : Type 0 where
  Synchronised : PaceStep
  Ended : AttemptEnd → ℕ → PaceStep

abbrev pub is_synchronised : List PaceStep → Bool
is_synchronised [] = false
is_synchronised (Synchronised ∷ past) = true
is_synchronised (Ended end word ∷ past) = is_synchronised past

-- the delay grows at every end but that of a stream that gave an accepted update, once synchronised
abbrev pub does_grow : Bool → AttemptEnd → Bool
does_grow synced (Client no_identity) = true
does_grow synced (Connect no_identity) = true
does_grow synced (Stream gave_accepted no_identity) = not (synced && gave_accepted)

-- it grows in the form for no identity where the agent said
-- so, but not at the end of a stream once synchronised
abbrev pub without_identity : Bool → AttemptEnd → Bool
without_identity synced (Client no_identity) = no_identity
without_identity synced (Connect no_identity) = no_identity
without_identity synced (Stream gave_accepted no_identity) = not synced && no_identity

-- once synchronised a refused connection pauses for the grown delay; every other end at which the
-- delay grows pauses for the delay before
abbrev pub pauses_grown : Bool → AttemptEnd → Bool
pauses_grown synced (Client no_identity) = false
pauses_grown synced (Connect no_identity) = synced
pauses_grown synced (Stream gave_accepted no_identity) = false

-- a delay grown once, in nanoseconds
abbrev pub grown_at : Bool → AttemptEnd → ℕ → ℕ → ℕ → ℕ
grown_at synced end current max_delay word =
    (if without_identity synced end
    then grown_without_identity (millis current) (millis max_delay) word
    else grown (millis current) (millis max_delay) word) * NANOS_PER_MILLI

abbrev pub least : ReconnectConfig → ℕ
least bounds = as_nanos (normalized bounds).min_backoff

abbrev pub greatest : ReconnectConfig → ℕ
greatest bounds = as_nanos (normalized bounds).max_backoff

-- the current delay: the least at the start, at the synchronisation, and, once synchronised, after
-- a stream that gave an accepted update
abbrev pub delay_after : ReconnectConfig → List PaceStep → ℕ
delay_after bounds [] = least bounds
delay_after bounds (Synchronised ∷ past) = least bounds
delay_after bounds (Ended end word ∷ past) =
    if does_grow (is_synchronised past) end
    then grown_at (is_synchronised past) end (delay_after bounds past) (greatest bounds) word
    else least bounds

-- the pause after an attempt that ended
abbrev pub pause_after : ReconnectConfig → List PaceStep → AttemptEnd → ℕ → ℕ
pause_after bounds past end word =
    if does_grow (is_synchronised past) end && not (pauses_grown (is_synchronised past) end)
    then delay_after bounds past
    else delay_after bounds (Ended end word ∷ past)

-- the pauses of a history, the newest first
abbrev pub delays_of : ReconnectConfig → List PaceStep → List ℕ
delays_of bounds [] = []
delays_of bounds (Synchronised ∷ past) = delays_of bounds past
delays_of bounds (Ended end word ∷ past) = pause_after bounds past end word ∷ delays_of bounds past

-- where a pacer with these bounds stands after a history
pub record StandsAfter (bounds : ReconnectConfig) (past : List PaceStep)
    (pacer : Pacer) : Type 0 where
  pub bounds_are : pacer.bounds ≡ normalized bounds
  pub current_is : as_nanos pacer.current ≡ delay_after bounds past
  pub synced_is : pacer.synchronised ≡ is_synchronised past
