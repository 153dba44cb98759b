-- What a message that has come in part still needs.
use Rattle.std.specs.Prelude.{◌≡◌, ◌≢◌, ℕ, ◌+◌, ◌^◌, ◌<◌, ◌≤◌, List, [], ◌++◌, length, drop}
use Rattle.std.specs.Prelude.{None, Some}
unfoldable pub use Rattle.spf_api.specs.Reading.{number_at}
use Rattle.spf_io.specs.Option.{◌>>=◌}
use Rattle.spf_proto.specs.declared.octets.Needed.{Needed}
use Rattle.spf_proto.specs.declared.octets.Needed.TheVariants as needs
use Rattle.spf_proto.specs.Body.{message_at, response_of, total}

-- the octets are a message, whatever follows them: it says what these say
abbrev pub IsWhole : List ℕ → List ℕ → Type 0
IsWhole got octets = (more : List ℕ)
    → message_at (got ++ more) ≡ (response_of octets >>= λ r. Some (r, more))

-- `count` octets more are needed, and without them there is no message
pub record NeedsOctets (got : List ℕ) (count : ℕ) : Type 0 where
  pub some : 0 < count
  pub missing : length got + count ≤ total got
  pub short : total got ≤ 5 + 2 ^ 24
  pub none : message_at got ≡ None

-- whatever follows, there is no message
abbrev pub IsBad : List ℕ → Type 0
IsBad got = (more : List ℕ) → message_at (got ++ more) ≡ None

abbrev pub IsNeed : List ℕ → Needed → Type 0
IsNeed got (needs.Octets count) = NeedsOctets got count
IsNeed got needs.Nothing = IsWhole got (drop 5 got) × (5 ≤ length got)
IsNeed got needs.Bad = IsBad got × (got ≢ [])
