-- Lines: one line feed, at the end.
use Rattle.std.specs.Prelude.{◌≡◌, ◌≢◌, ℕ, List, [], ◌∷◌, ◌++◌, All}

-- a text without a line feed
abbrev pub HasNoFeed : List ℕ → Type 0
HasNoFeed = All (λ c. c ≢ 10)

-- the text is a line: one line feed, at its end
pub record IsLine (text : List ℕ) : Type 0 where
  pub body : List ℕ
  pub text_is : text ≡ body ++ 10 ∷ []
  pub plain : HasNoFeed body
