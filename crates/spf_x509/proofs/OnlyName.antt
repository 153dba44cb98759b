-- A subject alternative name of one short URI.
use Rattle.std.proofs.Common.{◌≡◌, ℕ, ◌+◌, ◌-◌, ◌<◌, ◌≤◌, List, [], ◌∷◌, length, Some}
use Rattle.std.proofs.Common.{get_or, take, drop, refl, arith, false}
use Rattle.std.specs.Prelude.{nat_lt}
use Rattle.std.specs.Str.{IsAscii}
use Rattle.std.proofs.lemmas.Bool.{lt-ltb, le-ltb}
use Rattle.std.proofs.lemmas.List.{take_all, drop_all, take_rest}
use Rattle.spf_der.specs.Value.{length_at, contents_at, value_at, tagged_at, whole_at}
use Rattle.spf_der.specs.Names.{name_at, san_uris_of}
use Rattle.spf_der.proofs.NameWalk.{all_ascii}

-- a value that the bytes hold whole
whole : (size : ℕ) (bytes : List ℕ) → size < 128 → length bytes ≡ size
    → contents_at (size ∷ bytes) ≡ Some (bytes, [])
unfolding contents_at length_at
whole size bytes short long =
    let less : nat_lt (length bytes) size ≡ false = le-ltb (length bytes) size (omega arith) in
    let all : take size bytes ≡ bytes = take_all size bytes (omega arith) in
    let none : drop size bytes ≡ [] = drop_all size bytes (omega arith) in
    rw (lt-ltb size 128 short, less, all, none) refl

-- the name of a URI
one_name : (size : ℕ) (uri : List ℕ) → size < 128 → length uri ≡ size → IsAscii uri
    → name_at (134 ∷ size ∷ uri) ≡ Some (Some uri, [])
unfolding name_at value_at
one_name size uri short long ascii = rw (whole size uri short long, all_ascii uri ascii) refl

one : (names size : ℕ) (uri : List ℕ) → names < 128 → names ≡ length uri + 2 → size ≡ length uri
    → IsAscii uri → san_uris_of (48 ∷ names ∷ 134 ∷ size ∷ uri) ≡ Some (uri ∷ [])
unfolding san_uris_of whole_at tagged_at
one names size uri short long same ascii =
    let outer : contents_at (names ∷ 134 ∷ size ∷ uri) ≡ Some (134 ∷ size ∷ uri, []) =
    whole names (134 ∷ size ∷ uri) short (omega arith) in
    let inner : name_at (134 ∷ size ∷ uri) ≡ Some (Some uri, []) =
    one_name size uri (omega arith) (omega arith) ascii in
    rw (outer, inner) refl

pub only_uri_read : (bytes : List ℕ) → 4 ≤ length bytes → get_or bytes 0 0 ≡ 48
    → get_or bytes 2 0 ≡ 134 → get_or bytes 1 0 < 128
    → get_or bytes 1 0 ≡ length (take (length bytes - 4) (drop 4 bytes)) + 2
    → get_or bytes 3 0 ≡ length (take (length bytes - 4) (drop 4 bytes))
    → IsAscii (take (length bytes - 4) (drop 4 bytes))
    → san_uris_of bytes ≡ Some (take (length bytes - 4) (drop 4 bytes) ∷ [])
only_uri_read [] long a c short names size ascii = absurd (omega arith)
only_uri_read (x ∷ []) long a c short names size ascii = absurd (omega arith)
only_uri_read (x ∷ y ∷ []) long a c short names size ascii = absurd (omega arith)
only_uri_read (x ∷ y ∷ z ∷ []) long a c short names size ascii = absurd (omega arith)
only_uri_read (x ∷ y ∷ z ∷ w ∷ uri) long a c short names size ascii =
    let all : take (length (x ∷ y ∷ z ∷ w ∷ uri) - 4) uri ≡ uri =
    take_rest (x ∷ y ∷ z ∷ w ∷ uri) 4 in
    rw (a, c, all) (one y w uri short (rw all at names) (rw all at size) (rw all at ascii))
