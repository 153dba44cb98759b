-- What passes have seen, one read after another, and what is marked in a wait.
use Rattle.std.proofs.Common.{◌≡◌, ◌∙◌, ℕ, List, inl, inr, refl, subst, sym, Result, Ok, Err}
use Rattle.std.specs.Prelude.{OnErr}
use Rattle.spf_board.specs.Passes.{PassView}
use Rattle.spf_system.specs.Marks.{Mark}
use Rattle.spf_board.proofs.Prefixes.{begins_self, begins_trans}
use Rattle.spf_board.specs.Passing.{MarksOnBy, ReadsOnBy, SeesNoLess}

pub sees_on : {S : Type 0} (old mid new : PassView S Mark) → SeesNoLess old mid
    → SeesNoLess mid new → SeesNoLess old new
sees_on old mid new before after = record {
  book = after.book ∙ before.book;
  seen = begins_trans old.seen mid.seen new.seen before.seen after.seen;
  entered = begins_trans old.entered mid.entered new.entered before.entered after.entered;
}

pub sees_self : {S : Type 0} (pass : PassView S Mark) → SeesNoLess pass pass
sees_self pass = record {
  book = refl;
  seen = begins_self pass.seen;
  entered = begins_self pass.entered;
}

pub reads_later : {S : Type 0} (legal : List S → Type 0) (old mid new : PassView S Mark)
    → SeesNoLess old mid → ReadsOnBy legal mid new → ReadsOnBy legal old new
reads_later legal old mid new before after = record {
  between = after.between;
  seen = sees_on old mid after.between before after.seen;
  renews = after.renews;
}

-- a revision is read, and marked
pub marks_now : {S : Type 0} (is_revision : PassView S Mark → ℕ → Type 0)
    (old new : PassView S Mark) (was marked revision : ℕ) → SeesNoLess old new
    → is_revision new revision → marked ≡ revision → MarksOnBy is_revision old was new marked
marks_now is_revision old new was marked revision sees read is =
    inr (new, sees, subst (is_revision new) (sym is) read, sees_self new)

-- more is seen, and the mark stays
pub marks_later : {S : Type 0} (is_revision : PassView S Mark → ℕ → Type 0)
    (old mid new : PassView S Mark) (was between marked : ℕ)
    → MarksOnBy is_revision old was mid between → marked ≡ between → SeesNoLess mid new
    → MarksOnBy is_revision old was new marked
marks_later is_revision old mid new was between marked (inl same) stays sees = inl (stays ∙ same)
marks_later is_revision old mid new was between marked (inr marks) stays sees = inr (
  marks.0,
  marks.1,
  subst (is_revision marks.0) (sym stays) marks.2,
  sees_on marks.0 mid new marks.3 sees,
)

pub on_any : {T E : Type 0} (result : Result T E) (P : Type 0) → P → OnErr result P
on_any (Ok value) P holds = tt
on_any (Err e) P holds = holds
