-- Reading a frame of an allowed kind.
use Rattle.std.specs.Prelude.{◌≡◌, ◌≢◌, ℕ, Bool, false, IsTrue, List, [], ◌∷◌, ◌++◌, Option, None}
use Rattle.std.specs.Prelude.{Some, IfSome, Result, Ok, Err}
use Rattle.std.specs.Io.KnownBytes.{Consumes, IsAtEnd}
unfoldable pub use Rattle.spf_view.specs.Frames.{sized, sized_front, frame_front}
pub use Rattle.spf_view.specs.Frames.{FitsFrame, raw_text}
use Rattle.spf_frame.specs.declared.frame.RawFrame.{RawFrame}
use Rattle.spf_frame.specs.declared.error.FrameError.{FrameError}
use Rattle.spf_frame.specs.declared.error.FrameError.TheVariants as errors
use Rattle.spf_frame.specs.Parts.{Takes}

-- no frame of an allowed kind begins these bytes
abbrev pub NoFrame : (ℕ → Bool) → List ℕ → Type 0
NoFrame kinds bytes = (kind : ℕ) (payload rest : List ℕ) → IsTrue (kinds kind) → FitsFrame payload
    → bytes ≡ raw_text kind payload ++ rest → ⊥

-- the frame that was read
pub record IsRead (kinds : ℕ → Bool) (allowed : Bool) (old new : Option (List ℕ))
    (raw : RawFrame) : Type 0 where
  pub leave : IsTrue allowed
  pub kind : IsTrue (kinds raw.kind)
  pub short : FitsFrame raw.payload
  pub taken : Consumes old new (raw_text raw.kind raw.payload)

-- Why no frame was read, and what was taken. After the last frame one octet. At a bad frame exactly
-- as much as shows that it is one: the kind, where it is not allowed; kind and length, where the
-- length is too great; the whole frame, where its payload has no layout; and all that is left,
-- where the source ends inside. Otherwise no more than that.
abbrev pub Unread : (ℕ → Bool) → (List ℕ → Type 0) → Bool → Option (List ℕ) → Option (List ℕ)
    → FrameError → Type 0
Unread kinds NoFrame allowed old new errors.TooLong =
    (allowed ≡ false) × ((x : ℕ) × Consumes old new (x ∷ []))
Unread kinds NoFrame allowed old new errors.BadFrame =
    IsTrue allowed
    × Takes old new
    (λ given. (given ≢ []) × (frame_front kinds given ≡ given)
    × IfSome old (λ bytes. NoFrame bytes × (frame_front kinds bytes ≡ given)))
Unread kinds NoFrame allowed old new errors.ReadFault =
    Takes old new
    (λ given. NoFrame given × (frame_front kinds given ≡ given) × (allowed ≡ false → given ≡ []))
Unread kinds NoFrame allowed old new errors.OutOfMemory =
    IsTrue allowed × Takes old new (λ given. frame_front kinds given ≡ given)

abbrev pub IsUnread : (ℕ → Bool) → Bool → Option (List ℕ) → Option (List ℕ) → FrameError → Type 0
IsUnread kinds = Unread kinds (NoFrame kinds)

abbrev pub FrameRead : (ℕ → Bool) → Bool → Option (List ℕ) → Option (List ℕ)
    → Result (Option RawFrame) FrameError → Type 0
FrameRead kinds allowed old new (Ok None) = Consumes old new [] × IsAtEnd old
FrameRead kinds allowed old new (Ok (Some raw)) = IsRead kinds allowed old new raw
FrameRead kinds allowed old new (Err e) = IsUnread kinds allowed old new e

-- the frame of a kind, whose payload stands in a buffer
abbrev pub with_payload : Result (Option ℕ) FrameError → List ℕ
    → Result (Option RawFrame) FrameError
with_payload (Ok None) payload = Ok None
with_payload (Ok (Some kind)) payload = Ok (Some (record { kind = kind; payload = payload }))
with_payload (Err e) payload = Err e

-- one octet was read, or the end
abbrev pub KindRead : Option (List ℕ) → Option (List ℕ) → Result (Option ℕ) FrameError → Type 0
KindRead old new (Ok None) = Consumes old new [] × IsAtEnd old
KindRead old new (Ok (Some kind)) = Consumes old new (kind ∷ [])
KindRead old new (Err errors.ReadFault) = Consumes old new []
KindRead old new (Err errors.TooLong) = ⊥
KindRead old new (Err errors.BadFrame) = ⊥
KindRead old new (Err errors.OutOfMemory) = ⊥
