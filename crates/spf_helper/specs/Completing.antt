-- When a run has to end well, unless memory runs out.
use Rattle.std.specs.Prelude.{◌≡◌, ℕ, ◌+◌, ◌^◌, ◌<◌, ◌⊎◌, true, ◌||◌, ◌==◌, IsTrue, List, []}
use Rattle.std.specs.Prelude.{length, Option, None, IfSome, Ok}
use Rattle.spf_io.specs.Outside.{Rose}
use Rattle.spf_disk.specs.declared.generation.Entry.{Entry}
use Rattle.spf_disk.specs.Image.{Image}
use Rattle.spf_disk.specs.Standing.{latest}
use Rattle.spf_view.specs.Views.{has_synced}
use Rattle.spf_view.specs.Sessions.{IsReading, refusal_of, closed_of, onto, all_of}
use Rattle.spf_feed.specs.Items.{Event, Rules, subject}
use Rattle.spf_feed.specs.Run.{stream, outputs}
use Rattle.spf_helper.specs.Keeping.{base_of}

-- The bytes begin with a whole session within the bound.
pub record IsWholeSession (rules : Rules) (max_frames : ℕ) (bytes : List ℕ) : Type 0 where
  -- the events of the session, and what follows them
  pub es : List Event
  pub rest : List ℕ
  pub reading : IsReading (stream rules) max_frames bytes es rest
  -- some event is accepted, and none ends the session before
  pub accepted : has_synced (subject rules) (onto [] es) ≡ true
  pub calm : refusal_of (stream rules) [] es ≡ None
  -- the last event is a close, or nothing follows
  pub whole : IsTrue (closed_of (stream rules) es || length rest == 0)

-- The disk is not damaged, and there is a number for each step of the session.
pub record IsKeepable (rules : Rules) (max_frames : ℕ) (image : Image)
    (bytes : List ℕ) : Type 0 where
  pub session : IsWholeSession rules max_frames bytes
  pub entry : Option Entry
  pub undamaged : latest image ≡ Ok entry
  pub room : base_of image + length (all_of (stream rules) (outputs rules).steps [] session.es)
      < 2 ^ 64

-- Completeness: such a session is followed to its end and kept, or memory runs
-- out; where the input, the output or the disk failed, nothing is said.
abbrev pub Completes : Rules → ℕ → Image → Option (List ℕ) → (ℕ × ℕ) → (ℕ × ℕ) → (ℕ × ℕ) → ℕ
    → Type 0
Completes rules max_frames image left reads writes failures n =
    IfSome left
    (λ bytes. IsKeepable rules max_frames image bytes → (Rose reads.0 reads.1 → ⊥)
    → (Rose writes.0 writes.1 → ⊥) → (Rose failures.0 failures.1 → ⊥) → (n ≡ 0) ⊎ (n ≡ 2))
