-- Beginnings of one list, and lists that end.
use Rattle.std.proofs.Common.{◌≡◌, ◌≢◌, ℕ, ◌≤◌, ◌<◌, leb, Bool, true, false, List, [], ◌∷◌, ◌++◌}
use Rattle.std.proofs.Common.{length, MatchBool, refl, sym, ap, subst, arith}
use Rattle.std.proofs.lemmas.Bool.Decides.{nat_tests}
use mathlib.Core.List.{IsPrefix}
use Rattle.spf_board.specs.declared.entry.Entry.{Entry}
use Rattle.spf_board.specs.declared.entry.Entry.TheVariants as entry
use Rattle.spf_board.specs.Lists.{steps_of, is_ended, EndsLast, IsBoardList, MayFollow}

-- of two beginnings of one list the shorter begins the longer
pub shorter_begins : {A : Type 0} (xs ys zs : List A) → IsPrefix xs zs → IsPrefix ys zs
    → length xs ≤ length ys → IsPrefix xs ys
shorter_begins [] ys zs p q le = (ys, refl)
shorter_begins (x ∷ xs) [] zs p q le = absurd (omega arith)
shorter_begins (x ∷ xs) (y ∷ ys) [] p q le = absurd (cc (p.1))
shorter_begins (x ∷ xs) (y ∷ ys) (z ∷ zs) p q le =
    let rest = shorter_begins xs ys zs (p.0, cc (p.1)) (q.0, cc (q.1)) (omega arith) in
    (rest.0, cc (p.1, q.1, rest.1))

-- a beginning as long as the whole is the whole
pub begins_whole : {A : Type 0} (xs ys : List A) → IsPrefix xs ys → length ys ≤ length xs → xs ≡ ys
begins_whole [] [] p le = refl
begins_whole [] (y ∷ ys) p le = absurd (omega arith)
begins_whole (x ∷ xs) [] p le = absurd (cc (p.1))
begins_whole (x ∷ xs) (y ∷ ys) p le =
    let rest = begins_whole xs ys (p.0, cc (p.1)) (omega arith) in
    cc (p.1, rest)

pub begins_self : {A : Type 0} (xs : List A) → IsPrefix xs xs
begins_self [] = ([], refl)
begins_self (x ∷ xs) = let rest = begins_self xs in (rest.0, ap (λ l. x ∷ l) rest.1)

pub begins_more : {A : Type 0} (xs ys : List A) → IsPrefix xs ys → xs ≢ [] → ys ≢ []
begins_more [] ys p some none = some refl
begins_more (x ∷ xs) [] p some none = cc (p.1)
begins_more (x ∷ xs) (y ∷ ys) p some none = cc

pub begins_by : {A : Type 0} (b : Bool) (n m : ℕ) (xs ys zs : List A)
    → leb n m ≡ b → n ≡ length xs → m ≡ length ys → IsPrefix xs zs → IsPrefix ys zs
    → MatchBool b (IsPrefix xs ys) (length ys < length xs)
begins_by true n m xs ys zs is len len' p q =
    let le : n ≤ m = grind (arith, nat_tests) in
    shorter_begins xs ys zs p q (omega arith)
begins_by false n m xs ys zs is len len' p q =
    let lt : m < n = grind (arith, nat_tests) in
    omega arith

-- a list that has ended is the beginning of no longer one
pub ended_stays : {S : Type 0} (old new : List (Entry S)) → IsPrefix old new → EndsLast new
    → is_ended old ≡ true → new ≡ old
unfolding is_ended EndsLast
ended_stays [] new p ends ended = cc
ended_stays (e ∷ old) [] p ends ended = cc (p.1)
ended_stays (entry.Step s ∷ old) (entry.Step t ∷ new) p ends ended =
    let rest = ended_stays old new (p.0, cc (p.1)) ends ended in
    cc (p.1, rest)
ended_stays (entry.Step s ∷ old) (entry.End ∷ new) p ends ended = cc (p.1)
ended_stays (entry.End ∷ old) (entry.Step t ∷ new) p ends ended = cc (p.1)
ended_stays (entry.End ∷ []) (entry.End ∷ new) p ends ended = ap (λ l. entry.End ∷ l) ends
ended_stays (entry.End ∷ (f ∷ old)) (entry.End ∷ new) p ends ended = cc (p.1, ends)

-- after a list that has not ended, with one more entry, nothing follows an End
pub ends_next : {S : Type 0} (list : List (Entry S)) (e : Entry S) → is_ended list ≡ false
    → EndsLast (list ++ e ∷ [])
unfolding is_ended EndsLast
ends_next [] (entry.Step s) unended = tt
ends_next [] entry.End unended = refl
ends_next (entry.Step s ∷ list) e unended = ends_next list e unended
ends_next (entry.End ∷ list) e unended = cc

pub steps_more : {S : Type 0} (list : List (Entry S)) (s : S)
    → steps_of (list ++ entry.Step s ∷ []) ≡ steps_of list ++ s ∷ []
unfolding steps_of
steps_more [] s = refl
steps_more (entry.Step t ∷ list) s = ap (λ l. t ∷ l) (steps_more list s)
steps_more (entry.End ∷ list) s = steps_more list s

pub steps_end : {S : Type 0} (list : List (Entry S))
    → steps_of (list ++ entry.End ∷ []) ≡ steps_of list
unfolding steps_of
steps_end [] = refl
steps_end (entry.Step t ∷ list) = ap (λ l. t ∷ l) (steps_end list)
steps_end (entry.End ∷ list) = steps_end list

pub begins_trans : {A : Type 0} (xs ys zs : List A) → IsPrefix xs ys → IsPrefix ys zs
    → IsPrefix xs zs
begins_trans [] ys zs p q = (zs, refl)
begins_trans (x ∷ xs) [] zs p q = absurd (cc (p.1))
begins_trans (x ∷ xs) (y ∷ ys) [] p q = absurd (cc (q.1))
begins_trans (x ∷ xs) (y ∷ ys) (z ∷ zs) p q =
    let rest = begins_trans xs ys zs (p.0, cc (p.1)) (q.0, cc (q.1)) in
    (rest.0, cc (p.1, q.1, rest.1))

-- ---- what may come next

pub first_may : {S : Type 0} (legal : List S → Type 0) (s : S) → legal (s ∷ [])
    → MayFollow legal [] (entry.Step s)
unfolding steps_of is_ended
first_may legal s h = record { steps = h; unended = refl }

pub step_may : {S : Type 0} (legal : List S → Type 0) (list : List (Entry S)) (s t : S)
    → t ≡ s → legal (steps_of list ++ s ∷ []) → is_ended list ≡ false
    → MayFollow legal list (entry.Step t)
step_may legal list s t same h unended =
    let may : MayFollow legal list (entry.Step s) =
    record { steps = subst legal (sym (steps_more list s)) h; unended = unended } in
    subst (λ x. MayFollow legal list (entry.Step x)) (sym same) may

pub end_may : {S : Type 0} (legal : List S → Type 0) (list : List (Entry S))
    → IsBoardList legal list → is_ended list ≡ false → MayFollow legal list entry.End
end_may legal list board unended =
    record { steps = subst legal (sym (steps_end list)) board.steps; unended = unended }

pub first_steps : {S : Type 0} (list : List (Entry S)) (s : S) → list ≡ entry.Step s ∷ []
    → steps_of list ≡ s ∷ []
unfolding steps_of
first_steps list s one = ap steps_of one

pub first_unended : {S : Type 0} (list : List (Entry S)) (s : S) → list ≡ entry.Step s ∷ []
    → is_ended list ≡ false
unfolding is_ended
first_unended list s one = ap is_ended one

pub ended_end : {S : Type 0} (list : List (Entry S)) → is_ended (list ++ entry.End ∷ []) ≡ true
unfolding is_ended
ended_end [] = refl
ended_end (entry.Step s ∷ list) = ended_end list
ended_end (entry.End ∷ list) = refl

pub unended_step : {S : Type 0} (list : List (Entry S)) (s : S)
    → is_ended list ≡ false → is_ended (list ++ entry.Step s ∷ []) ≡ false
unfolding is_ended
unended_step [] s unended = refl
unended_step (entry.Step t ∷ list) s unended = unended_step list s unended
unended_step (entry.End ∷ list) s unended = cc
