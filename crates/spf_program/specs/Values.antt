-- What the value of an option reads as.
use Rattle.std.specs.Prelude.{ℕ, ℤ, List, Option, None, Some, if◌then◌else◌, codes, ◌==◌}
use Rattle.std.specs.Option.{option_map}
use Rattle.std.specs.Str.{bytes_eq}
use Rattle.spf_io.specs.Option.{◌>>=◌}
use Rattle.spf_feed.specs.declared.ready.Ready.{Ready}
use Rattle.spf_feed.specs.declared.ready.Ready.TheVariants as readiness
use Rattle.spf_program.specs.Numbers.{moment_in, number_in}

-- a limit: a number, or `none`
unfoldable pub limit_in : List ℕ → Option (Option ℕ)
limit_in text = if bytes_eq text (codes "none") then Some None else option_map Some (number_in text)

-- what the first update must hold
unfoldable pub ready_in : List ℕ → Option Ready
ready_in text =
    if bytes_eq text (codes "usable") then Some readiness.Usable
    else (if bytes_eq text (codes "any") then Some readiness.Any
    else None)

-- a text, as it stands
abbrev pub text_in : List ℕ → Option (Option (List ℕ))
text_in text = Some (Some text)

-- a moment that may be set, in Unix seconds
abbrev pub optional_moment_in : List ℕ → Option (Option ℤ)
optional_moment_in text = option_map Some (moment_in text)

-- a number of seconds
abbrev pub seconds_in : List ℕ → Option (Option ℕ)
seconds_in text = option_map Some (number_in text)

-- a number from 1 on
abbrev pub positive : ℕ → Option ℕ
positive number = if number == 0 then None else Some number

abbrev pub count_in : List ℕ → Option ℕ
count_in text = number_in text >>= positive
