-- What stays true of a publisher over a disk, step after step.
use Rattle.std.specs.Prelude.{◌≡◌, ℕ, ◌+◌, ◌^◌, ◌<◌, ◌≤◌, ◌⊎◌, ◌||◌, true, List, [], ◌∷◌}
use Rattle.std.specs.Prelude.{length, take, Option, Result, Ok, Err}
use Rattle.std.specs.Bool.{OnFalse}
use Rattle.std.specs.Option.{option_map_or}
use Rattle.spf_io.specs.Outside.{Rose}
use Rattle.spf_disk.specs.declared.generation.Entry.{Entry}
use Rattle.spf_disk.specs.declared.generation.Generation.{Generation}
use Rattle.spf_disk.specs.declared.open_error.OpenError.{OpenError}
use Rattle.spf_disk.specs.Crash.{Only}
use Rattle.spf_disk.specs.Image.{Image}
use Rattle.spf_disk.specs.Standing.{found, latest, number_of}
use Rattle.spf_feed.specs.Steps.{PlainStep}
use Rattle.spf_helper.specs.Generations.{generation_after}
use Rattle.spf_helper.specs.Helping.{Helping}

-- the greatest open number, or 0
abbrev pub base_in : Result (Option Entry) OpenError → ℕ
base_in (Ok entry) = option_map_or number_of entry 0
base_in (Err e) = 0

abbrev pub base_of : Image → ℕ
base_of image = base_in (latest image)

-- What is found after these steps: before the first one
-- what was found in the image, and then what the last one says.
abbrev pub found_after : Image → List PlainStep → Result (Option Generation) OpenError
found_after image [] = found image
found_after image (s ∷ steps) = Ok (generation_after (base_of image) (s ∷ steps))

-- a crash leaves what is found after a beginning of the steps
abbrev pub IsFoundAfter : Image → List PlainStep → Image → Type 0
IsFoundAfter image steps c =
    (n : ℕ) × (n ≤ length steps) × (found c ≡ found_after image (take n steps))

-- which loan of a disk is followed over; what a read of the disk gave at
-- first, the moment then, and how often the disk had failed
pub record Beginning : Type 0 where
  pub loan : ℕ
  pub image : Image
  pub moment : ℕ
  pub failures : ℕ

abbrev pub no_beginning : Beginning
no_beginning = record {
  loan = 0;
  image = record { gates = []; first = []; second = [] };
  moment = 0;
  failures = 0;
}

-- Nothing is pending, and what is found is what is found after the steps.
pub record IsWhole {D : Type 0} (seen : D → Image) (may_leave : D → Image → Type 0)
    (image : Image) (steps : List PlainStep) (disk : D) : Type 0 where
  pub durable : Only (seen disk) (may_leave disk)
  pub found_is : found (seen disk) ≡ found_after image steps

-- A publisher over the disk that was there at the beginning. A crash at any moment left what
-- it had left by then, `past`, or what is found after a beginning of the steps.
pub record IsKept {D : Type 0} (seen : D → Image) (may_leave : D → Image → Type 0)
    (moment : D → ℕ) (left_since : D → ℕ → Image → Type 0) (failures : D → ℕ) (b : Beginning)
    (past : ℕ → Image → Type 0) (p : Helping D) : Type 0 where
  -- what was there at the beginning is not damaged
  pub entry : Option Entry
  pub undamaged : latest b.image ≡ Ok entry
  pub loan : p.disk.ghost_name ≡ b.loan
  pub base : p.base ≡ base_of b.image
  pub time : b.moment ≤ moment p.disk.now
  pub count : b.failures ≤ failures p.disk.now
  pub left : (t : ℕ) → t ≤ b.moment → (c : Image) → left_since p.disk.now t c
      → past t c ⊎ IsFoundAfter b.image p.steps c
  pub fault : p.fault ≡ true → Rose b.failures (failures p.disk.now)
  pub full : p.full ≡ true → 2 ^ 64 ≤ base_of b.image + length p.steps
  pub room : OnFalse (p.fault || p.full) (base_of b.image + length p.steps < 2 ^ 64)
  pub whole : OnFalse (p.fault || p.full) (IsWhole seen may_leave b.image p.steps p.disk.now)
