-- Flow control (RFC 9113, sections 5.2 and 6.9).
use Rattle.std.specs.Prelude.{ℕ, ◌+◌, ◌-◌, ◌^◌, min, nat_le, if◌then◌else◌, Option, None, Some}

-- the window of the connection after an increment, unless it is above the maximum
abbrev pub window_raised : ℕ → ℕ → Option ℕ
window_raised window increment =
    if nat_le (window + increment) (2 ^ 31 - 1) then Some (window + increment) else None

-- how much may be sent on a stream: the initial window and what it was raised by, less what was
-- sent, and nothing where that is below 0
abbrev pub stream_left : ℕ → ℕ → ℕ → ℕ
stream_left initial raised sent = (initial + raised) - sent

-- what a stream's window was raised by after an increment, unless it is then above the maximum
abbrev pub stream_raised : ℕ → ℕ → ℕ → ℕ → Option ℕ
stream_raised initial raised sent increment =
    if nat_le (initial + (raised + increment)) (sent + (2 ^ 31 - 1)) then Some (raised + increment)
    else None

-- the greatest initial window with which that of a stream is not above the maximum; it is itself
-- at most the maximum
abbrev pub most_initial : ℕ → ℕ → ℕ
most_initial raised sent = min ((sent + (2 ^ 31 - 1)) - raised) (2 ^ 31 - 1)
