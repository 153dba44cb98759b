-- Frames: a kind octet, four octets of length, and the payload.
use Rattle.std.specs.Prelude.{ℕ, Bool, ◌≤◌, ◌^◌, nat_lt, if◌then◌else◌, List, [], ◌∷◌, ◌++◌, length}
use Rattle.std.specs.Prelude.{take, drop}
use Rattle.std.specs.Int.{w32, to_be_bytes, from_be_bytes}

-- four octets of length, and the payload
unfoldable pub sized : List ℕ → List ℕ
sized payload = to_be_bytes w32 (length payload) ++ payload

-- the payload is not too long for a frame
abbrev pub FitsFrame : List ℕ → Type 0
FitsFrame payload = length payload ≤ 2 ^ 24

abbrev pub raw_text : ℕ → List ℕ → List ℕ
raw_text kind payload = kind ∷ sized payload

-- ---- how far a frame is read

-- the length that these octets give, and 0 where it is above the greatest
abbrev pub payload_size : List ℕ → ℕ
payload_size octets =
    if nat_lt (2 ^ 24) (from_be_bytes w32 octets) then 0 else from_be_bytes w32 octets

-- the length, and the payload of that length, as far as there are bytes
unfoldable pub sized_front : List ℕ → List ℕ
sized_front bytes = take 4 bytes ++ take (payload_size (take 4 bytes)) (drop 4 bytes)

-- As much of the bytes as is read to see which frame begins them: the kind;
-- the length, where the kind is allowed; the payload, where the length is at
-- most the greatest. Where the bytes end inside the frame it is all of them.
unfoldable pub frame_front : (ℕ → Bool) → List ℕ → List ℕ
frame_front allows [] = []
frame_front allows (kind ∷ bytes) = kind ∷ (if allows kind then sized_front bytes else [])
