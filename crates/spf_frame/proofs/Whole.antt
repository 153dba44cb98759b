-- A frame is its kind, and what has a length.
use Rattle.std.proofs.Common.{◌≡◌, ℕ, Bool, List, [], ◌∷◌, ◌++◌, Option, Err, true, false, cond}
use Rattle.std.proofs.Common.{refl, ap, ◌∙◌}
use Rattle.std.specs.Prelude.{IsTrue}
use Rattle.std.specs.Io.KnownBytes.{Consumes}
use Rattle.std.proofs.KnownBytes.{Consumes-trans}
use Rattle.spf_frame.specs.declared.error.FrameError.{FrameError}
use Rattle.spf_frame.specs.declared.error.FrameError.TheVariants as errors
use Rattle.spf_frame.specs.Parts.{NoPart, PartFails}
use Rattle.spf_frame.specs.Frames.{sized, FitsFrame, sized_front, frame_front, NoFrame, KindRead}
use Rattle.spf_frame.specs.Frames.{IsUnread}
use Rattle.spf_frame.proofs.Parts.{none_from_rest, none_from_front}

no_frame : (kinds : ℕ → Bool) (kind : ℕ) (ys : List ℕ) → NoPart sized FitsFrame ys
    → NoFrame kinds (kind ∷ ys)
no_frame kinds kind ys none k p rest ok short e =
    let tail : ys ≡ sized p ++ rest = cc in
    none p rest short tail

frame_more : (kinds : ℕ → Bool) (kind : ℕ) (ys front : List ℕ) → IsTrue (kinds kind)
    → sized_front ys ≡ front → frame_front kinds (kind ∷ ys) ≡ kind ∷ front
unfolding frame_front
frame_more kinds kind ys front may is =
    ap (λ b. kind ∷ cond b (sized_front ys) []) may ∙ ap (λ (l : List ℕ). kind ∷ l) is

-- no kind was read
pub no_kind : (kinds : ℕ → Bool) (allowed : Bool) (old new : Option (List ℕ)) (e : FrameError)
    → KindRead old new (Err e) → IsUnread kinds allowed old new e
unfolding frame_front
no_kind kinds allowed old new errors.TooLong h = absurd h
no_kind kinds allowed old new errors.BadFrame h = absurd h
no_kind kinds allowed old new errors.ReadFault h =
    ([], h, ((λ k p rest ok short e. absurd cc), refl, λ e. refl))
no_kind kinds allowed old new errors.OutOfMemory h = absurd h

-- no frame begins with a kind that is not allowed
other_kind : (kinds : ℕ → Bool) (kind : ℕ) (ys : List ℕ) → kinds kind ≡ false
    → NoFrame kinds (kind ∷ ys) × (frame_front kinds (kind ∷ ys) ≡ kind ∷ [])
unfolding frame_front
other_kind kinds kind ys not_it = (
  λ k p rest ok short e.
      let same : kind ≡ k = cc in
      let may : kinds kind ≡ true = ap kinds same ∙ ok in
      absurd cc,
  ap (λ b. kind ∷ cond b (sized_front ys) []) not_it,
)

pub bad_kind : (kinds : ℕ → Bool) (allowed : Bool) (kind : ℕ) (old new : Option (List ℕ))
    → IsTrue allowed → kinds kind ≡ false → Consumes old new (kind ∷ [])
    → IsUnread kinds allowed old new errors.BadFrame
bad_kind kinds allowed kind old new leave not_it took = (
  leave,
  (
    kind ∷ [],
    took,
    (
      (λ e. absurd cc),
      (other_kind kinds kind [] not_it).1,
      none_from_front (λ ys. NoFrame kinds ys × (frame_front kinds ys ≡ kind ∷ [])) old new
          (kind ∷ []) took (λ ys. other_kind kinds kind ys not_it),
    ),
  ),
)

pub frame_fails : (kinds : ℕ → Bool) (allowed : Bool) (kind : ℕ) (old mid new : Option (List ℕ))
    (e : FrameError) → IsTrue allowed → IsTrue (kinds kind)
    → Consumes old mid (kind ∷ []) → PartFails sized FitsFrame sized_front mid new e
    → IsUnread kinds allowed old new e
frame_fails kinds allowed kind old mid new errors.TooLong leave may took h = absurd h
frame_fails kinds allowed kind old mid new errors.BadFrame leave may took h = (
  leave,
  (
    kind ∷ h.0,
    Consumes-trans old mid new (kind ∷ []) h.0 took h.1,
    (
      λ e. absurd cc,
      frame_more kinds kind h.0 h.0 may h.2.0,
      none_from_rest (λ ys. NoFrame kinds ys × (frame_front kinds ys ≡ kind ∷ h.0))
          (λ ys. NoPart sized FitsFrame ys × (sized_front ys ≡ h.0)) old mid (kind ∷ []) took
          (λ ys n. (no_frame kinds kind ys n.0, frame_more kinds kind ys h.0 may n.1)) h.2.1,
    ),
  ),
)
frame_fails kinds true kind old mid new errors.ReadFault leave may took h = (
  kind ∷ h.0,
  Consumes-trans old mid new (kind ∷ []) h.0 took h.1,
  (no_frame kinds kind h.0 h.2.1, frame_more kinds kind h.0 h.0 may h.2.0, λ e. absurd cc),
)
frame_fails kinds false kind old mid new errors.ReadFault leave may took h = absurd cc
frame_fails kinds allowed kind old mid new errors.OutOfMemory leave may took h = (
  leave,
  (
    kind ∷ h.0,
    Consumes-trans old mid new (kind ∷ []) h.0 took h.1,
    frame_more kinds kind h.0 h.0 may h.2,
  ),
)
