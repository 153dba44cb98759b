-- From the frame that was read, or the lack of one, to the answer.
use Rattle.std.proofs.Common.{◌≡◌, ℕ, Bool, true, false, List, [], ◌++◌, Option, None, Some}
use Rattle.std.proofs.Common.{refl, sym, ap, ◌∙◌, subst}
use Rattle.std.specs.Prelude.{IsTrue}
use Rattle.std.proofs.lemmas.List.{append-nil}
use Rattle.std.specs.Io.KnownBytes.{Consumes, IsAtEnd}
use Rattle.spf_view.specs.Frames.{FitsFrame, raw_text, frame_front}
use Rattle.spf_view.proofs.FrameLemmas.{raw_same}
use Rattle.spf_view.proofs.FrontLemmas.{frame_whole}
use Rattle.spf_frame.specs.declared.error.FrameError.{FrameError}
use Rattle.spf_frame.specs.declared.error.FrameError.TheVariants as errors
use Rattle.spf_frame.specs.Parts.{NoPart}
use Rattle.spf_frame.specs.Frames.{NoFrame, IsRead, IsUnread, Unread}
use Rattle.spf_frame.proofs.Parts.{none_from_front, unread_as}
use Rattle.spf_link.specs.Answers.{said_text, IsSaid, IsAnswered, IsMissed}

-- what a frame says, it says only by an allowed kind
abbrev pub Covers : {A : Type 0} → (ℕ → List ℕ → A → Type 0) → (ℕ → Bool) → Type 0
Covers {A} Says kinds = (kind : ℕ) (payload : List ℕ) (answer : A) → Says kind payload answer
    → IsTrue (kinds kind)

none_said : {A : Type 0} (Says : ℕ → List ℕ → A → Type 0) (kinds : ℕ → Bool) → Covers Says kinds
    → (ys : List ℕ) → NoFrame kinds ys → NoPart said_text (IsSaid Says) ys
none_said Says kinds covers ys none said rest fits e =
    none said.kind said.payload rest (covers said.kind said.payload said.answer fits.says)
    fits.short e

-- no frame was read
missed : {A : Type 0} (Says : ℕ → List ℕ → A → Type 0) (kinds : ℕ → Bool)
    (old new : Option (List ℕ)) (e : FrameError)
    → Unread kinds (NoPart said_text (IsSaid Says)) true old new e → IsMissed Says kinds old new e
missed Says kinds old new errors.TooLong h = let never : true ≡ false = h.0 in absurd cc
missed Says kinds old new errors.BadFrame h = (h.1.0, h.1.1, (h.1.2.1, h.1.2.2))
missed Says kinds old new errors.ReadFault h = (h.0, h.1, (h.2.1, h.2.0))
missed Says kinds old new errors.OutOfMemory h = (h.1.0, h.1.1, h.1.2)

pub unread : {A : Type 0} (Says : ℕ → List ℕ → A → Type 0) (kinds : ℕ → Bool)
    (old new : Option (List ℕ)) (e : FrameError) → Covers Says kinds → IsUnread kinds true old new e
    → IsMissed Says kinds old new e
unread Says kinds old new e covers h =
    missed Says kinds old new e
    (unread_as kinds kinds (NoFrame kinds) (NoPart said_text (IsSaid Says)) true old new e refl
    (λ ys none. none_said Says kinds covers ys none) h)

-- the source is at its end
nothing_said : {A : Type 0} (Says : ℕ → List ℕ → A → Type 0) → NoPart said_text (IsSaid Says) []
nothing_said Says said rest fits e = absurd cc

pub ended : {A : Type 0} (Says : ℕ → List ℕ → A → Type 0) (kinds : ℕ → Bool)
    (old new : Option (List ℕ)) → Consumes old new [] → IsAtEnd old
    → IsMissed Says kinds old new errors.BadFrame
unfolding frame_front
ended Says kinds None new took end = ([], took, (refl, tt))
ended Says kinds (Some xs) new took end = (
  [],
  took,
  (
    refl,
    subst (λ (ys : List ℕ). NoPart said_text (IsSaid Says) ys × (frame_front kinds ys ≡ []))
        (sym end) (nothing_said Says, refl),
  ),
)

front_alone : (kinds : ℕ → Bool) (kind : ℕ) (payload : List ℕ) → IsTrue (kinds kind)
    → FitsFrame payload → frame_front kinds (raw_text kind payload) ≡ raw_text kind payload
front_alone kinds kind payload may fits =
    ap (frame_front kinds) (sym (append-nil (raw_text kind payload)))
    ∙ frame_whole kinds kind payload [] may fits

-- a frame whose payload lays out nothing says nothing
unsaid : {A : Type 0} (Says : ℕ → List ℕ → A → Type 0) (kind : ℕ) (payload : List ℕ)
    → FitsFrame payload → ((answer : A) → Says kind payload answer → ⊥) → (ys : List ℕ)
    → NoPart said_text (IsSaid Says) (raw_text kind payload ++ ys)
unsaid Says kind payload short none ys said rest fits e =
    let parts = raw_same kind payload ys said.kind said.payload rest short fits.short e in
    none said.answer
    (subst (λ k. Says k payload said.answer) (sym parts.0)
    (subst (λ p. Says said.kind p said.answer) (sym parts.1) fits.says))

pub nothing : {A : Type 0} (Says : ℕ → List ℕ → A → Type 0) (kinds : ℕ → Bool)
    (old new : Option (List ℕ)) (kind : ℕ) (payload slice : List ℕ)
    → IsRead kinds true old new (record { kind = kind; payload = payload }) → slice ≡ payload
    → ((answer : A) → Says kind slice answer → ⊥) → IsMissed Says kinds old new errors.BadFrame
nothing {A} Says kinds old new kind payload slice read same none =
    let none' : (answer : A) → Says kind payload answer → ⊥ =
    λ answer says. none answer (subst (λ p. Says kind p answer) (sym same) says) in (
      raw_text kind payload,
      read.taken,
      (
        front_alone kinds kind payload read.kind read.short,
        none_from_front
            (λ ys. NoPart said_text (IsSaid Says) ys
            × (frame_front kinds ys ≡ raw_text kind payload)) old new (raw_text kind payload)
            read.taken
            (λ ys. (
              unsaid Says kind payload read.short none' ys,
              frame_whole kinds kind payload ys read.kind read.short,
            )),
      ),
    )

-- memory ran out over the payload of a frame
pub stopped : {A : Type 0} (Says : ℕ → List ℕ → A → Type 0) (kinds : ℕ → Bool)
    (old new : Option (List ℕ)) (kind : ℕ) (payload : List ℕ)
    → IsRead kinds true old new (record { kind = kind; payload = payload })
    → IsMissed Says kinds old new errors.OutOfMemory
stopped Says kinds old new kind payload read =
    (raw_text kind payload, read.taken, front_alone kinds kind payload read.kind read.short)

pub answered : {A : Type 0} (Says : ℕ → List ℕ → A → Type 0) (kinds : ℕ → Bool)
    (old new : Option (List ℕ)) (kind : ℕ) (payload slice : List ℕ) (answer : A)
    → IsRead kinds true old new (record { kind = kind; payload = payload }) → slice ≡ payload
    → Says kind slice answer → IsAnswered Says old new answer
answered Says kinds old new kind payload slice answer read same says =
    record {
      kind = kind;
      payload = payload;
      short = read.short;
      taken = read.taken;
      says = subst (λ p. Says kind p answer) same says;
    }
