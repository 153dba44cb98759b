-- A publisher over a disk: what contracts see of it, and what holds of it.
use Rattle.std.specs.Prelude.{◌≡◌, ◌≢◌, ℕ, ◌+◌, ◌^◌, ◌<◌, ◌⊎◌, Bool, List, [], length}
use Rattle.std.specs.Prelude.{Option, None, Some, Result, Ok, Err}
use Rattle.std.specs.Option.{option_map_or}
use Rattle.spf_disk.specs.declared.open_error.OpenError.{OpenError}
use Rattle.spf_disk.specs.declared.open_error.OpenError.TheVariants.{Damaged}
use Rattle.std.specs.Borrow.{MutBor}
use Rattle.spf_feed.specs.Steps.{PlainStep}
use Rattle.spf_disk.specs.declared.generation.Entry.{Entry}
use Rattle.spf_disk.specs.declared.slot.Slot.{Slot}
use Rattle.spf_disk.specs.Crash.{Only}
use Rattle.spf_disk.specs.Image.{Image}
use Rattle.spf_disk.specs.Scanning.{IsNext}
use Rattle.spf_disk.specs.Slots.{gate_of, other_slot}
use Rattle.spf_disk.specs.Standing.{is_open, latest, number_of, found}
use Rattle.spf_helper.specs.Generations.{entry_after, generation_after}

-- the disk that is lent to it, the greatest number that was found there, the steps, how many of
-- them are written, whether the disk failed, and whether the numbers ran out
pub record Helping (D : Type 0) : Type 0 where
  pub disk : MutBor D
  pub base : ℕ
  pub steps : List PlainStep
  pub acknowledged : ℕ
  pub fault : Bool
  pub full : Bool

-- the entry, where there is one, has no greater number
abbrev pub IsUpTo : ℕ → Option Entry → Type 0
IsUpTo number None = Unit {0}
IsUpTo number (Some e) = number_of e < number + 1

-- The files hold what was found or the last step, and the next slot can be written.
pub record IsReady (base written : ℕ) (steps : List PlainStep) (next : Slot)
    (next_is_open other_is_open : Bool) (image : Image) : Type 0 where
  pub entry : Option Entry
  pub is_next : IsNext next entry image
  pub number : IsUpTo (base + written) entry
  pub next_gate : next_is_open ≡ is_open (gate_of image next)
  pub other_gate : other_is_open ≡ is_open (gate_of image (other_slot next))
  pub count : written ≡ length steps
  pub small : base + written < 2 ^ 64
  pub kept : steps ≢ [] → latest image ≡ Ok (entry_after base steps)

-- A crash leaves what was found before, or the last of these steps.
abbrev pub IsBeforeOrAfter : Image → ℕ → List PlainStep → Image → Type 0
IsBeforeOrAfter old base steps c =
    (found c ≡ found old) ⊎ (found c ≡ Ok (generation_after base steps))

-- The greatest number is that of what is found, or 0; or the files are damaged.
abbrev pub OpensAs : {D : Type 0} → Image → Result (Helping D) OpenError → Type 0
OpensAs image (Ok p) =
    (entry : Option Entry) × (latest image ≡ Ok entry) × (p.base ≡ option_map_or number_of entry 0)
OpensAs image (Err Damaged) = latest image ≡ Err Damaged
OpensAs image (Err _) = Unit {0}

-- All steps are written, and a crash leaves nothing but what the last one says.
pub record IsStanding {D : Type 0} (seen : D → Image) (may_leave : D → Image → Type 0)
    (p : Helping D) : Type 0 where
  pub all : p.acknowledged ≡ length p.steps
  pub durable : Only (seen p.disk.now) (may_leave p.disk.now)
  pub found_is : p.steps ≢ [] → found (seen p.disk.now) ≡ Ok (generation_after p.base p.steps)
