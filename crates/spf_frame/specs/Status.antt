-- A status as the payload of a frame.
use Rattle.std.specs.Prelude.{ℕ, List, [], ◌∷◌, length, Option, None, Some, ◌==◌, if◌then◌else◌}
use Rattle.std.specs.Option.{option_map, option_and_then}
use Rattle.spf_api.specs.Reading.{text_field_at}
use Rattle.spf_api.specs.Refused.{Refused}
use Rattle.spf_api.specs.Status.{code_at}

-- a text field and nothing more
unfoldable pub text_at : List ℕ → Option (List ℕ)
text_at bytes =
    option_and_then (λ (t : List ℕ × List ℕ). if length t.1 == 0 then Some t.0 else None)
    (text_field_at bytes)

-- a status and nothing more: a code octet, and its message
unfoldable pub status_at : List ℕ → Option Refused
status_at [] = None
status_at (n ∷ rest) =
    option_and_then
    (λ c. option_map (λ m. record { code = c; message = m; source = None }) (text_at rest))
    (code_at n)
