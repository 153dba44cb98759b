-- What settings say (RFC 9113, sections 6.5.1 and 6.5.2).
use Rattle.std.specs.Prelude.{ℕ, ◌-◌, ◌^◌, ◌==◌, nat_le, Bool, true, ◌&&◌, if◌then◌else◌, List, []}
use Rattle.std.specs.Prelude.{◌∷◌, Option, None, Some}
use Rattle.std.specs.Int.{w16, w32, from_be_bytes}
use Rattle.spf_http2.specs.declared.settings.Setting.{Setting}
use Rattle.spf_http2.specs.declared.settings.TheConstants.{ENABLE_PUSH, INITIAL_WINDOW_SIZE}
use Rattle.spf_http2.specs.declared.settings.TheConstants.{MAX_FRAME_SIZE}

-- the first setting of a payload, Identifier (16) and Value (32), and what follows it
abbrev pub setting_at : List ℕ → Option (Setting × List ℕ)
setting_at (a ∷ b ∷ c ∷ d ∷ e ∷ f ∷ rest) = Some (
  record {
    identifier = from_be_bytes w16 (a ∷ b ∷ []);
    value = from_be_bytes w32 (c ∷ d ∷ e ∷ f ∷ []);
  },
  rest,
)
setting_at _ = None

-- the settings of a payload, in order
abbrev pub settings_in : List ℕ → List Setting
settings_in (a ∷ b ∷ c ∷ d ∷ e ∷ f ∷ rest) = record {
  identifier = from_be_bytes w16 (a ∷ b ∷ []);
  value = from_be_bytes w32 (c ∷ d ∷ e ∷ f ∷ []);
} ∷ settings_in rest
settings_in _ = []

-- The setting may have this value: no push, an initial window of at most `most`, and frames of at
-- least 2^14 and at most 2^24 - 1 octets. Unknown settings are ignored.
abbrev pub is_allowed : ℕ → Setting → Bool
is_allowed most s =
    if s.identifier == ENABLE_PUSH then s.value == 0
    else if s.identifier == INITIAL_WINDOW_SIZE then nat_le s.value most
    else if s.identifier == MAX_FRAME_SIZE then nat_le (2 ^ 14) s.value
    && nat_le s.value (2 ^ 24 - 1)
    else true

-- INITIAL_WINDOW_SIZE after a setting
abbrev pub window_with : Setting → ℕ → ℕ
window_with s initial = if s.identifier == INITIAL_WINDOW_SIZE then s.value else initial

-- INITIAL_WINDOW_SIZE after these settings, in order, unless one of them is not allowed
abbrev pub initial_after : ℕ → ℕ → List Setting → Option ℕ
initial_after initial most [] = Some initial
initial_after initial most (s ∷ others) =
    if is_allowed most s
    then initial_after (window_with s initial) most others
    else None

-- the same of a payload
abbrev pub window_after : ℕ → ℕ → List ℕ → Option ℕ
window_after initial most pairs = initial_after initial most (settings_in pairs)
