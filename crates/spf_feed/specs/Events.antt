-- Events, and the payloads that lay them out ("Frames" in docs/SESSIONS.md).
use Rattle.std.specs.Prelude.{ℕ, ℤ, pos, ◌^◌, Bool, List, [], ◌∷◌, length, Option, None, Some, ◌==◌}
use Rattle.std.specs.Prelude.{nat_lt, true, false, if◌then◌else◌}
use Rattle.std.specs.Int.{w64, from_be_bytes}
use Rattle.std.specs.Option.{option_map}
unfoldable pub use Rattle.spf_frame.specs.Status.{text_at, status_at}
use Rattle.spf_api.specs.declared.link.ClientFault.{ClientFault}
use Rattle.spf_api.specs.declared.link.ClientFault.TheVariants as fault
use Rattle.spf_frame.specs.declared.frame_kind.TheConstants.{CLIENT_MADE, CLIENT_FAILED, CONNECTED}
use Rattle.spf_frame.specs.declared.frame_kind.TheConstants.{CONNECT_STATUS, ITEM, ITEM_STATUS}
use Rattle.spf_frame.specs.declared.frame_kind.TheConstants.{STREAM_END, MOMENT, CLOSE}
use Rattle.spf_feed.specs.declared.event.SessionEvent.{SessionEvent}
use Rattle.spf_feed.specs.declared.event.SessionEvent.TheVariants as events

-- a status, or the code octet 255 and a text
unfoldable pub failure_at : List ℕ → Option ClientFault
failure_at [] = None
failure_at (n ∷ rest) =
    if n == 255 then option_map fault.Unreachable (text_at rest)
    else option_map fault.Status (status_at (n ∷ rest))

-- eight octets of Unix seconds, from 0 to 2^63 - 1
unfoldable pub moment_at : List ℕ → Option ℤ
moment_at payload =
    if length payload == 8
    then (if nat_lt (from_be_bytes w64 payload) (2 ^ 63) then Some (pos (from_be_bytes w64 payload))
    else None) else None

-- an event without a payload
abbrev pub when_empty : {E : Type 0} → List ℕ → E → Option E
when_empty payload e = if length payload == 0 then Some e else None

-- The event that a payload of a kind lays out, where `item_at` says what an item lays out.
unfoldable pub event_at : {I : Type 0} → (List ℕ → Option I) → ℕ → List ℕ → Option (SessionEvent I)
event_at item_at kind payload =
    if kind == CLIENT_MADE then when_empty payload events.ClientMade
    else (if kind == CLIENT_FAILED then option_map events.ClientFailed (failure_at payload)
    else (if kind == CONNECTED then when_empty payload events.Connected
    else (if kind == CONNECT_STATUS then option_map events.ConnectStatus (status_at payload)
    else (if kind == ITEM then option_map events.Item (item_at payload)
    else (if kind == ITEM_STATUS then option_map events.ItemStatus (status_at payload)
    else (if kind == STREAM_END then when_empty payload events.StreamEnd
    else (if kind == MOMENT then option_map events.Moment (moment_at payload)
    else (if kind == CLOSE then when_empty payload events.Close
    else None))))))))

-- the same event, with a function applied to its item
abbrev pub map_item : {I J : Type 0} → (I → J) → SessionEvent I → SessionEvent J
map_item f events.ClientMade = events.ClientMade
map_item f (events.ClientFailed e) = events.ClientFailed e
map_item f events.Connected = events.Connected
map_item f (events.ConnectStatus s) = events.ConnectStatus s
map_item f (events.Item i) = events.Item (f i)
map_item f (events.ItemStatus s) = events.ItemStatus s
map_item f events.StreamEnd = events.StreamEnd
map_item f (events.Moment m) = events.Moment m
map_item f events.Close = events.Close

abbrev pub closes : {I : Type 0} → SessionEvent I → Bool
closes events.Close = true
closes _ = false
