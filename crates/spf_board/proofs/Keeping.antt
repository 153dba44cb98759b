-- The steps of a board keep its rule.
use Rattle.std.proofs.Common.{◌≡◌, ◌≢◌, ℕ, ◌+◌, true, List, [], ◌∷◌, ◌++◌, fold, set, refl, sym}
use Rattle.std.proofs.Common.{ap, ◌∙◌, subst, ⊎_elim, length}
use mathlib.Core.Option.{some, some-ne-none}
use lib.ListN.{get_elem?}
use Rattle.left_right.specs.Register.{Admits, TurnsAt, Turns, Forks, Merges}
use Rattle.atomic_table.proofs.Lists.{at_set, at_snoc, set_again}
use Rattle.logbook.specs.Pages.{Book}
use Rattle.spf_board.specs.declared.entry.Entry.{Entry}
use Rattle.spf_board.specs.Lists.{steps_of}
use Rattle.spf_board.specs.Past.{Past, added}
use Rattle.spf_board.proofs.Prefixes.{steps_more, steps_end}
use Rattle.spf_board.specs.declared.rule.Place.{Place}
use Rattle.spf_board.specs.declared.posted.Change.{Change}
use Rattle.spf_board.specs.declared.posted.Change.TheVariants as change
use Rattle.spf_board.specs.Posted.{changed, entry_of}
use Rattle.spf_board.specs.Board.{unbound, book_of, bound_to, Keeps, Enters, Posts, note_of}
use Rattle.spf_board.specs.Board.{informed}

none_bound : (b : Book) → unbound.bound ≡ true → book_of unbound ≡ b
none_bound b bound = cc

module _ {S X N : Type 0} (replays : List S → X → Type 0) (snap : N → X) (front : N → Past S) where
  abbrev pub holds : N → List Place → Type 0
  holds x views = Keeps replays (snap x) (front x) views

  -- one view becomes another that is bound to the board's history or to none
  stays : (x : N) (views : List Place) (seat : ℕ) (w : Place) → holds x views
      → (w.bound ≡ true → book_of w ≡ (front x).book) → holds x (set views seat w)
  stays x views seat w keeps book = record {
    stands = keeps.stands;
    bound = λ j u at. ⊎_elim
        (λ (t : (j ≡ seat) × (w ≡ u)).
        subst (λ z. z.bound ≡ true → book_of z ≡ (front x).book) t.1 book)
        (λ (t : (j ≢ seat) × (get_elem? views j ≡ some u)). keeps.bound j u t.1)
        (at_set views seat j w u at);
  }

  -- one more view
  joins : (x : N) (views : List Place) (w : Place) → holds x views
      → (w.bound ≡ true → book_of w ≡ (front x).book) → holds x (views ++ w ∷ [])
  joins x views w keeps book = record {
    stands = keeps.stands;
    bound = λ j u at. ⊎_elim (λ here. keeps.bound j u here)
        (λ new. subst (λ z. z.bound ≡ true → book_of z ≡ (front x).book) new book)
        (at_snoc views w u j at);
  }

  pub admits : Admits holds unbound
  admits x views keeps = joins x views unbound keeps (none_bound (front x).book)

  pub opens : (x : N) → replays (steps_of (front x).list) (snap x) → holds x (unbound ∷ [])
  opens x stands =
      admits x [] (record {
        stands = stands;
        bound = λ j u at bound. absurd (some-ne-none u (sym at));
      })

  pub takes : (seat : ℕ) (v : Place)
      → Turns holds seat v (λ x. x) (λ v x y w. Enters replays v (snap y) (front y) w)
  takes seat v x views keeps at =
      let w = bound_to (v.enters + 1) (length (front x).list) (front x).book in (
        w,
        stays x views seat w keeps (λ _. refl),
        record {
          once = refl;
          all = refl;
          stands = keeps.stands;
          bound = record { bound = refl; book = refl };
          same = keeps.bound seat v at;
        },
      )

  pub forks : (seat : ℕ) (v : Place) → Forks holds seat v v (note_of v)
  forks seat v x views keeps at =
      subst (λ vs. holds x (vs ++ note_of v ∷ [])) (sym (set_again views seat v at))
      (joins x views (note_of v) keeps (keeps.bound seat v at))

  pub merges : (seat : ℕ) (v : Place) (other : ℕ) (w : Place)
      → Merges holds seat v other w (informed v w) unbound
  merges seat v other w x views keeps at apart there =
      let book : w.bound ≡ true → book_of w ≡ (front x).book = ⊎_elim
      (λ (t : (other ≡ seat) × (informed v w ≡ w)). absurd (apart t.0))
      (λ (t : (other ≢ seat) × (get_elem? views other ≡ some w)). keeps.bound other w t.1)
      (at_set views seat other (informed v w) w there) in
      stays x (set views seat (informed v w)) other unbound
      (stays x views seat (informed v w) keeps book) (none_bound (front x).book)

  posts : (seat : ℕ) (v : Place) (x y : N) → (front y).book ≡ (front x).book
      → (replays (steps_of (front x).list) (snap x) → replays (steps_of (front y).list) (snap y))
      → TurnsAt holds seat v x y (λ v x y w. Posts replays (snap y) (front y) w)
  posts seat v x y book stands views keeps at =
      let w = bound_to v.enters v.entries (front y).book in
      let moved : holds y views = record {
        stands = stands keeps.stands;
        bound = λ j u e t. keeps.bound j u e t ∙ sym book;
      } in (
        w,
        stays y views seat w moved (λ _. refl),
        record { stands = moved.stands; bound = record { bound = refl; book = refl } },
      )

  -- nothing is published, which binds the writer to the history
  pub claims : {P : Type 0} (f : X × Past S → P → X × Past S) (pending : List P) (seat : ℕ)
      (v : Place) (x : N) → pending ≡ [] → (next : N)
      → (snap next, front next) ≡ fold f (snap x, front x) pending
      → TurnsAt holds seat v x next (λ v x y w. Posts replays (snap y) (front y) w)
  claims f pending seat v x none next to =
      let same : ◌≡◌ {A = X × Past S} (snap next, front next) (snap x, front x) =
      to ∙ ap (λ l. fold f (snap x, front x) l) none in
      posts seat v x next (ap (λ s. s.1.book) same)
      (λ stands. subst (λ (s : X × Past S). replays (steps_of s.1.list) s.0) (sym same) stands)

module _ {S X : Type 0} (replays : List S → X → Type 0) (after : X → S → X)
    (law : (steps : List S) (x : X) (s : S) → replays steps x
    → replays (steps ++ s ∷ []) (after x s))
  where
    stands_more : (c : Change S) (list : List (Entry S)) (x : X) → replays (steps_of list) x
        → replays (steps_of (list ++ entry_of c ∷ [])) (changed after x c)
    stands_more (change.Step twice) list x stands =
        subst (λ l. replays l (after x twice.first)) (sym (steps_more list twice.first))
        (law (steps_of list) x twice.first stands)
    stands_more change.End list x stands =
        subst (λ l. replays l x) (sym (steps_end list)) stands

    -- one change is published
    pub pushes : {N P : Type 0} (snap : N → X) (front : N → Past S) (change : P → Change S)
        (given : P → Past S) (post : P) (before pending : List P) (seat : ℕ) (v : Place) (x : N)
        → before ≡ [] → pending ≡ before ++ post ∷ []
        → given post ≡ added (front x) (entry_of (change post)) → (next : N)
        → ◌≡◌ {A = X × Past S} (snap next, front next)
        (fold (λ s p. (changed after s.0 (change p), given p)) (snap x, front x) pending)
        → TurnsAt (λ y views. Keeps replays (snap y) (front y) views) seat v x next
        (λ v x y w. Posts replays (snap y) (front y) w)
    pushes {N} {P} snap front change given post before pending seat v x none is follows next to =
        let f : X × Past S → P → X × Past S =
        λ s p. (changed after s.0 (change p), given p) in
        let alone : pending ≡ post ∷ [] = is ∙ ap (λ l. l ++ post ∷ []) none in
        let to' : ◌≡◌ {A = X × Past S} (snap next, front next)
        (changed after (snap x) (change post), given post) =
        to ∙ ap (λ l. fold f (snap x, front x) l) alone in
        let front' : front next ≡ added (front x) (entry_of (change post)) =
        ap (λ s. s.1) to' ∙ follows in
        posts replays snap front seat v x next (ap (λ p. p.book) front')
        (λ stands. rw (front', ap (λ s. s.0) to')
        (stands_more (change post) (front x).list (snap x) stands))
