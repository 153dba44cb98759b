-- The plain random words: a linear congruential generator modulo 2^64, by the constants of
-- D. E. Knuth's MMIX.
use Rattle.std.specs.Prelude.{ℕ, ◌+◌, ◌*◌, ◌%◌, ◌^◌, ℤ, pos, negsuc, Option, None, Some}
use Rattle.rand_core.specs.Steps.{Steps, steps_u64_low}

-- the next word is the next state
abbrev pub next_word : ℕ → ℕ
next_word state = (6_364_136_223_846_793_005 * state + 1_442_695_040_888_963_407) % 2 ^ 64

abbrev pub word_step : ℕ → ℕ × ℕ
word_step state = (next_word state, next_word state)

-- 32 bits are the low half of a word, and bytes are those of words, the low ones first
abbrev pub word_steps : Steps ℕ
word_steps = steps_u64_low word_step

-- the seed of a moment of the clock; 0 where there is none, or one before the epoch
abbrev pub seed_of : Option ℤ → ℕ
seed_of None = 0
seed_of (Some (pos moment)) = moment
seed_of (Some (negsuc before)) = 0
