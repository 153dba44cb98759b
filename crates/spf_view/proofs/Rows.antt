-- The definitions at named sessions, with small items.
use Rattle.std.proofs.Common.{◌≡◌, ℕ, Bool, false, List, [], ◌∷◌, Option, None, Some, refl}
use Rattle.std.specs.Prelude.{ℤ, pos, int_lt, nat_eq, nat_le}
use Rattle.spf_view.specs.Views.{Subject, Waiting, Withdrawn, Permitted, view_at, revision_at}
use Rattle.spf_view.specs.Steps.{Accept, Deny, steps_of, replay_held}

-- an item has a size, and an expiry
record Item : Type 0 where
  size : ℕ
  expiry : ℤ

data Event : Type 0 where
  Update : Option Item → Event
  Refused : ℕ → Event
  Moment : ℤ → Event
  Other : Event

abbrev item_in : Event → Option Item
item_in (Update o) = o
item_in (Refused d) = None
item_in (Moment t) = None
item_in Other = None

abbrev reason_in : Event → Option ℕ
reason_in (Update o) = None
reason_in (Refused d) = Some d
reason_in (Moment t) = None
reason_in Other = None

abbrev moment_in : Event → Option ℤ
moment_in (Update o) = None
moment_in (Refused d) = None
moment_in (Moment t) = Some t
moment_in Other = None

abbrev is_ready : Item → Option ℤ → Bool
is_ready i None = false
is_ready i (Some t) = int_lt t i.expiry

-- items of at most nine, which are the same where their sizes are
abbrev small : Subject Event Item ℕ ℕ
small = record {
  parsed = item_in;
  limits = 9;
  is_within = λ l i. nat_le i.size l;
  may_sync = is_ready;
  denial = reason_in;
  moment = moment_in;
  is_same = λ a b. nat_eq a.size b.size;
}

abbrev one : Item
one = record { size = 1; expiry = pos 1000 }

abbrev two : Item
two = record { size = 2; expiry = pos 1000 }

abbrev large : Item
large = record { size = 10; expiry = pos 1000 }

-- ---- denial-and-recovery

abbrev recovery : List Event
recovery =
    Moment (pos 999) ∷ Other ∷ Other ∷ Update (Some one) ∷ Other ∷ Other ∷ Refused 7 ∷ Other ∷ Other
    ∷ Update None ∷ Other ∷ Other ∷ Update (Some large) ∷ Other ∷ Other ∷ Update (Some one)
    ∷ []

before : view_at small recovery 3 ≡ Waiting
before = refl

opened : (view_at small recovery 4 ≡ Permitted one) × (revision_at small recovery 4 ≡ 0)
opened = (refl, refl)

denied : (view_at small recovery 7 ≡ Withdrawn 7) × (revision_at small recovery 7 ≡ 1)
denied = (refl, refl)

-- neither a broken item nor one above the limits restores anything
rejected : (view_at small recovery 15 ≡ Withdrawn 7) × (revision_at small recovery 15 ≡ 1)
rejected = (refl, refl)

restored : (view_at small recovery 16 ≡ Permitted one) × (revision_at small recovery 16 ≡ 2)
restored = (refl, refl)

published : steps_of small recovery ≡ Accept one 9 ∷ (Deny 7 ∷ (Accept one 9 ∷ []))
published = refl

-- ---- first-denial-stays, and a denial before the first accepted item

abbrev again : List Event
again = Refused 3 ∷ Moment (pos 999) ∷ Update (Some one) ∷ Refused 7 ∷ Refused 8 ∷ []

first_stays : (view_at small again 5 ≡ Withdrawn 7) × (revision_at small again 5 ≡ 1)
first_stays = (refl, refl)

waiting_first : view_at small again 1 ≡ Waiting
waiting_first = refl

-- ---- expired-at-first, no-moment-yet

expired : view_at small (Moment (pos 1000) ∷ Update (Some one) ∷ []) 2 ≡ Waiting
expired = refl

no_moment : (view_at small (Update (Some one) ∷ Moment (pos 0) ∷ Update (Some one) ∷ []) 1
    ≡ Waiting) × (view_at small (Update (Some one) ∷ Moment (pos 0) ∷ Update (Some one) ∷ []) 3
    ≡ Permitted one)
no_moment = (refl, refl)

-- ---- the same material again keeps the older one

older : replay_held {L = ℕ} {D = ℕ} small.is_same
    (Accept one 9 ∷ (Accept (record { size = 1; expiry = pos 2000 }) 9 ∷ [])) ≡ Some one
older = refl

newer : replay_held {L = ℕ} {D = ℕ} small.is_same (Accept one 9 ∷ (Accept two 9 ∷ [])) ≡ Some two
newer = refl
