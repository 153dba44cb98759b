-- Readers of a payload: the value at its start, and the octets that follow.
use Rattle.std.specs.Prelude.{ℕ, zero, suc, List, [], ◌∷◌, length, take, drop, Option, Some, None}
use Rattle.std.specs.Prelude.{nat_lt, ◌==◌, if◌then◌else◌}
use Rattle.std.specs.Int.{w32, from_be_bytes}
use Rattle.std.specs.Str.{is_utf8}
use Rattle.spf_api.specs.declared.response.SvidEntry.{SvidEntry}
use Rattle.spf_api.specs.declared.response.BundleEntry.{BundleEntry}
use Rattle.spf_api.specs.declared.response.ContextResponse.{ContextResponse}
use Rattle.spf_api.specs.declared.response.JwtSvidEntry.{JwtSvidEntry}

infixl 10 ◌>>=◌
abbrev pub ◌>>=◌ : {A B : Type 0} → Option A → (A → Option B) → Option B
None >>= f = None
(Some x) >>= f = f x

-- four octets, big-endian
unfoldable pub number_at : List ℕ → Option (ℕ × List ℕ)
number_at (a ∷ b ∷ c ∷ d ∷ rest) = Some (from_be_bytes w32 (a ∷ b ∷ c ∷ d ∷ []), rest)
number_at _ = None

-- a length and that many octets
unfoldable pub byte_field_at : List ℕ → Option (List ℕ × List ℕ)
byte_field_at bytes = do
  n ← number_at bytes
  if nat_lt (length n.1) n.0 then None else Some (take n.0 n.1, drop n.0 n.1)

-- a byte field in UTF-8
unfoldable pub text_field_at : List ℕ → Option (List ℕ × List ℕ)
text_field_at bytes = do
  t ← byte_field_at bytes
  if is_utf8 t.0 then Some (t.0, t.1) else None

-- n entries
abbrev pub counted : {A : Type 0} → (List ℕ → Option (A × List ℕ)) → ℕ → List ℕ
    → Option (List A × List ℕ)
counted one zero bytes = Some ([], bytes)
counted one (suc n) bytes =
    one bytes >>= λ x. counted one n x.1 >>= λ others. Some (x.0 ∷ others.0, others.1)

-- a count and that many entries
abbrev pub list_at : {A : Type 0} → (List ℕ → Option (A × List ℕ)) → List ℕ
    → Option (List A × List ℕ)
list_at one bytes = number_at bytes >>= λ n. counted one n.0 n.1

unfoldable pub svid_entry_at : List ℕ → Option (SvidEntry × List ℕ)
svid_entry_at bytes = do
  i ← text_field_at bytes
  c ← byte_field_at i.1
  k ← byte_field_at c.1
  b ← byte_field_at k.1
  h ← text_field_at b.1
  Some (
    record { spiffe_id = i.0; x509_svid = c.0; x509_svid_key = k.0; bundle = b.0; hint = h.0 },
    h.1,
  )

unfoldable pub bundle_entry_at : List ℕ → Option (BundleEntry × List ℕ)
bundle_entry_at bytes = do
  n ← text_field_at bytes
  b ← byte_field_at n.1
  Some (record { name = n.0; bundle = b.0 }, b.1)

-- a context response, after which nothing follows
unfoldable pub context_at : List ℕ → Option ContextResponse
context_at bytes = do
  s ← list_at svid_entry_at bytes
  f ← list_at bundle_entry_at s.1
  c ← list_at byte_field_at f.1
  if length c.1 == 0 then Some (record { svids = s.0; federated = f.0; crls = c.0 }) else None

-- a bundles response, after which nothing follows
unfoldable pub bundles_at : List ℕ → Option (List BundleEntry)
bundles_at bytes = do
  b ← list_at bundle_entry_at bytes
  if length b.1 == 0 then Some b.0 else None

unfoldable pub jwt_svid_entry_at : List ℕ → Option (JwtSvidEntry × List ℕ)
jwt_svid_entry_at bytes = do
  i ← text_field_at bytes
  t ← text_field_at i.1
  h ← text_field_at t.1
  Some (record { spiffe_id = i.0; svid = t.0; hint = h.0 }, h.1)

-- a JWT SVID response, after which nothing follows
unfoldable pub jwt_svids_at : List ℕ → Option (List JwtSvidEntry)
jwt_svids_at bytes = do
  t ← list_at jwt_svid_entry_at bytes
  if length t.1 == 0 then Some t.0 else None
