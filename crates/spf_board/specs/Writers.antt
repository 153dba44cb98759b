-- What a desk has published.
use Rattle.std.specs.Prelude.{Option, unwrap_or}
use Rattle.std.specs.Option.{option_map}
use Rattle.spf_board.specs.Past.{Past}
use Rattle.spf_board.specs.Desks.{no_past}

-- by what its writer has published
abbrev pub past_in : {W S : Type 0} → (W → Past S) → Option W → Past S
past_in past held = unwrap_or (option_map past held) no_past
