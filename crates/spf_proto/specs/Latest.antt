-- The last message that was translated.
use Rattle.std.specs.Prelude.{◌≡◌, ℕ, ℤ, List, drop, Some}
use Rattle.std.specs.Option.{ForSome}
use Rattle.spf_feed.specs.Items.{Rules}
use Rattle.spf_proto.specs.declared.latest.Latest.{Latest}
use Rattle.spf_proto.specs.declared.translating.Position.{Position}
use Rattle.spf_proto.specs.Translating.{IsMade}

-- where there is one, the frames are those of that message, from where the session stood
abbrev pub IsLatest : Rules → ℤ → Latest → Type 0
IsLatest rules start l =
    ForSome l.stood (λ p. IsMade rules start p.0 p.1 (drop 5 l.message) l.frames.items)

-- the message is the last one again, from the same place
pub record IsAgain (l : Latest) (before : Position) (message : List ℕ) (after : Position)
    : Type 0 where
  pub stood : l.stood ≡ Some (before, after)
  pub same : l.message ≡ message
