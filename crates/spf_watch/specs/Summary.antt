-- The summary of a session.
use Rattle.std.specs.Prelude.{ℕ, ◌+◌, Bool, true, false, if◌then◌else◌, List, [], ◌∷◌, ◌++◌, length}
use Rattle.std.specs.Prelude.{decimal, codes}
use Rattle.spf_view.specs.Views.{View, Withdrawn, outcomes, view_of, revision_after}
use Rattle.spf_feed.specs.Items.{Event, Rules, subject}
use Rattle.spf_watch.specs.Octets.{LINE_FEED}

-- whether a view is withdrawn
abbrev pub is_withdrawn : {M D : Type 0} → View M D → Bool
is_withdrawn (Withdrawn d) = true
is_withdrawn _ = false

-- how many of these events after a history leave the view withdrawn
abbrev pub withdrawn_of : Rules → List Event → List Event → ℕ
withdrawn_of rules past [] = 0
withdrawn_of rules past (e ∷ es) =
    (if is_withdrawn (view_of (outcomes (subject rules) (e ∷ past))) then 1 else 0)
    + withdrawn_of rules (e ∷ past) es

-- the line of a number of events, a revision, and a number of withdrawn events
unfoldable pub summary_line : ℕ → ℕ → ℕ → List ℕ
summary_line events revision withdrawn =
    codes "events "
    ++ (decimal events
    ++ (codes " revision "
    ++ (decimal revision ++ (codes " withdrawn " ++ (decimal withdrawn ++ LINE_FEED ∷ [])))))

-- Summary: how many events there are, the revision
-- at the last, and how many leave the view withdrawn
abbrev pub summary : Rules → List Event → List ℕ
summary rules es =
    summary_line (length es) (revision_after (subject rules) es) (withdrawn_of rules [] es)
