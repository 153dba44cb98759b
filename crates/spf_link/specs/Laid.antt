-- What is found in a frame that was read.
use Rattle.std.specs.Prelude.{ℕ, List, Option, None, Some}

-- what was found is what the frame says, and nothing is found where it says nothing
abbrev pub IsLaid : {A : Type 0} → (ℕ → List ℕ → A → Type 0) → ℕ → List ℕ → Option A → Type 0
IsLaid Says kind payload (Some answer) = Says kind payload answer
IsLaid {A} Says kind payload None = (answer : A) → ¬ (Says kind payload answer)
