-- How far a frame is read.
use Rattle.std.proofs.Common.{◌≡◌, ℕ, ◌<◌, ◌≤◌, ◌^◌, Bool, true, false, cond, ltb, List, [], ◌∷◌}
use Rattle.std.proofs.Common.{◌++◌, length, take, drop, refl, ap, ◌∙◌, arith, take_at, drop_at}
use Rattle.std.proofs.Common.{take_all, append_assoc}
use Rattle.std.specs.Int.{w32, to_be_bytes, from_be_bytes}
use Rattle.std.proofs.lemmas.Bool.Decides.{nat_tests}
use Rattle.std.proofs.lemmas.List.{append-nil, drop_all}
use Rattle.std.proofs.lemmas.Nat.{from_be_bytes-to_be_bytes_4}
use Rattle.spf_view.specs.Frames.{sized, FitsFrame, raw_text, payload_size, sized_front}
use Rattle.spf_view.specs.Frames.{frame_front}

-- the bytes end inside the length
pub short_front : (bytes : List ℕ) → length bytes ≤ 4 → sized_front bytes ≡ bytes
unfolding sized_front
short_front bytes le =
    let size = payload_size (take 4 bytes) in
    ap (λ (f : List ℕ). f ++ take size (drop 4 bytes)) (take_all 4 bytes le)
    ∙ ap (λ (d : List ℕ). bytes ++ take size d) (drop_all 4 bytes le)
    ∙ ap (λ (t : List ℕ). bytes ++ t) (take_all size [] (omega arith)) ∙ append-nil bytes

-- after the length
after_length : (octets rest : List ℕ) → length octets ≡ 4
    → sized_front (octets ++ rest) ≡ octets ++ take (payload_size octets) rest
unfolding sized_front
after_length octets rest len =
    ap (λ (f : List ℕ). f ++ take (payload_size f) (drop 4 (octets ++ rest)))
    (take_at octets rest 4 len)
    ∙ ap (λ (d : List ℕ). octets ++ take (payload_size octets) d) (drop_at octets rest 4 len)

-- a length that is too great
pub large_front : (octets rest : List ℕ) → length octets ≡ 4 → 2 ^ 24 < from_be_bytes w32 octets
    → sized_front (octets ++ rest) ≡ octets
large_front octets rest len large =
    let over : ltb (2 ^ 24) (from_be_bytes w32 octets) ≡ true = grind (arith, nat_tests) in
    let none : payload_size octets ≡ 0 = ap (λ b. cond b 0 (from_be_bytes w32 octets)) over in
    after_length octets rest len ∙ ap (λ n. octets ++ take n rest) none ∙ append-nil octets

-- the payload is read as far as its length says
pub payload_front : (n : ℕ) (rest : List ℕ) → n ≤ 2 ^ 24
    → sized_front (to_be_bytes w32 n ++ rest) ≡ to_be_bytes w32 n ++ take n rest
payload_front n rest le =
    let back : from_be_bytes w32 (to_be_bytes w32 n) ≡ n =
    from_be_bytes-to_be_bytes_4 n (omega arith) in
    let under : ltb (2 ^ 24) n ≡ false = grind (arith, nat_tests) in
    let size : payload_size (to_be_bytes w32 n) ≡ n =
    ap (λ m. cond (ltb (2 ^ 24) m) 0 m) back ∙ ap (λ b. cond b 0 n) under in
    after_length (to_be_bytes w32 n) rest refl ∙ ap (λ m. to_be_bytes w32 n ++ take m rest) size

-- a frame is read whole
pub frame_whole : (allows : ℕ → Bool) (kind : ℕ) (payload rest : List ℕ) → allows kind ≡ true
    → FitsFrame payload → frame_front allows (raw_text kind payload ++ rest) ≡ raw_text kind payload
unfolding frame_front sized
frame_whole allows kind payload rest ok fits =
    ap (λ b. kind ∷ cond b (sized_front ((to_be_bytes w32 (length payload) ++ payload) ++ rest)) [])
    ok
    ∙ ap (λ (t : List ℕ). kind ∷ sized_front t)
    (append_assoc (to_be_bytes w32 (length payload)) payload rest)
    ∙ ap (λ (t : List ℕ). kind ∷ t) (payload_front (length payload) (payload ++ rest) fits)
    ∙ ap (λ (p : List ℕ). kind ∷ to_be_bytes w32 (length payload) ++ p)
    (take_at payload rest (length payload) refl)
