-- What the program keeps of a generated session while it runs.
use Rattle.std.specs.Prelude.{◌≡◌, ℕ, ◌+◌, ◌≤◌, ◌<◌, Bool, true, false, List, [], ◌++◌, length}
use Rattle.std.specs.Prelude.{Option, IfSome, Result, IsOk, IsErr, min}
use Rattle.spf_io.specs.Outside.{Rose}
use Rattle.spf_io.specs.declared.memory.Failed.{Failed}
use Rattle.spf_der.specs.Written.{key_text}
use Rattle.spf_der.specs.WrittenTime.{expiry_text}
use Rattle.spf_watch.specs.declared.generated.Parts.{Parts}
use Rattle.spf_watch.specs.declared.generated.Workload.{Workload}
use Rattle.spf_watch.specs.MadeSession.{expiry_of, identity, leaf_spec, root_spec}
use Rattle.spf_watch.specs.MadeSession.{intermediate_spec}
use Rattle.spf_watch.specs.Template.{IsTemplate}

-- the text, the leaf and the key of a workload, by its index
pub record IsWorkload (index : ℕ) (w : Workload) : Type 0 where
  pub identity_is : w.identity ≡ identity index
  pub leaf_is : IsTemplate (leaf_spec index 0) w.leaf
  pub key_is : w.key.items ≡ key_text (1 + index)

pub record AreParts (p : Parts) : Type 0 where
  pub first : IsWorkload 0 p.first
  pub second : IsWorkload 1 p.second
  pub third : IsWorkload 2 p.third
  pub intermediate : IsTemplate (intermediate_spec 0) p.intermediate
  pub root_a : IsTemplate (root_spec 10 0) p.root_a
  pub root_b : IsTemplate (root_spec 11 0) p.root_b
  pub foreign_root : IsTemplate (root_spec 12 0) p.foreign_root

-- the expiry of a generation, as a Time of 15 octets
pub record IsExpiry (generation : ℕ) (text : List ℕ) : Type 0 where
  pub is : text ≡ expiry_text (expiry_of generation)
  pub size : length text ≡ 15

-- the generation stays within 16 bits, also where each operation that is left raises it
abbrev pub HasRoom : Option ℕ → ℕ → Type 0
HasRoom left generation = IfSome left (λ left. generation + left ≤ 65535)

-- these frames come next; none where nothing is to come
pub record Yields (more : Bool) (old new frames : List ℕ) : Type 0 where
  pub next : old ≡ frames ++ new
  pub ended : more ≡ false → old ≡ []
  pub some : more ≡ true → 0 < length frames

-- a generated session as a source: the frames that are read
-- from, what comes after them, and how often memory ran out
pub record GeneratedRead : Type 0 where
  pub ready : List ℕ
  pub later : List ℕ
  pub failures : ℕ

-- The next frames are ready where none were; where
-- memory runs out, only the count of failures rises.
pub record MakesReady (old new : GeneratedRead) (r : Result (Unit {0}) Failed) : Type 0 where
  pub same : old.ready ++ old.later ≡ new.ready ++ new.later
  pub ended : IsOk r → new.ready ≡ [] → new.later ≡ []
  pub more : old.failures ≤ new.failures
  pub failed : IsErr r → Rose old.failures new.failures

-- The first of what is ready was given, as much as there was room for.
pub record GivesReady (old new : GeneratedRead) (given : List ℕ) (room : ℕ) : Type 0 where
  pub front : old.ready ≡ given ++ new.ready
  pub size : length given ≡ min room (length old.ready)
  pub later_is : new.later ≡ old.later
  pub failures_are : new.failures ≡ old.failures
