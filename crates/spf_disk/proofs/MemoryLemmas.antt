-- What a change of a file in memory lets a crash leave.
use Rattle.std.proofs.Common.{◌≡◌, ◌≢◌, ℕ, zero, suc, ◌+◌, ◌-◌, ◌<◌, ◌≤◌, ◌⊎◌, inl, inr, ⊎_elim}
use Rattle.std.proofs.Common.{Bool, true, false}
use Rattle.std.proofs.Common.{List, [], ◌∷◌, ◌++◌, length, take, drop, Option, Some, None}
use Rattle.std.proofs.Common.{refl, sym, ◌∙◌, ap, subst, arith, max, length-append, replicate}
use Rattle.std.proofs.lemmas.Grind.{common_steps}
use Rattle.std.proofs.lemmas.Option.{gets}
use Rattle.std.proofs.lemmas.Bool.{cases_lt}
use Rattle.std.proofs.lemmas.List.{length-replicate}
use Rattle.std.proofs.lemmas.Option.{slice_get_within}
use Rattle.std.specs.List.{slice_get}
use Rattle.spf_disk.specs.Memory.{FileState, IsFilledTo, IsOutcome, IsUnsettled, longest}

-- which octet is there outside of what is written
pub written_outside : (at : ℕ) (piece old : List ℕ) (i : ℕ) → at ≤ length old
    → (i < at) ⊎ (at + length piece ≤ i) → i < length old
    → slice_get (take at old ++ (piece ++ drop (at + length piece) old)) i ≡ slice_get old i
written_outside at piece old i le (inl before) inside = grind (arith, common_steps, gets)
written_outside at piece old i le (inr after) inside = grind (arith, common_steps, gets)

-- another octet at a position
changed_at : ℕ → ℕ → List ℕ → List ℕ
changed_at i octet [] = []
changed_at zero octet (b ∷ bytes) = octet ∷ bytes
changed_at (suc i) octet (b ∷ bytes) = b ∷ changed_at i octet bytes

length-changed_at : (i octet : ℕ) (bytes : List ℕ)
    → length (changed_at i octet bytes) ≡ length bytes
unfolding changed_at
length-changed_at i octet [] = refl
length-changed_at zero octet (b ∷ bytes) = refl
length-changed_at (suc i) octet (b ∷ bytes) =
    ap (λ (n : ℕ). suc n) (length-changed_at i octet bytes)

changed_here : (i octet : ℕ) (bytes : List ℕ) → i < length bytes
    → slice_get (changed_at i octet bytes) i ≡ Some octet
unfolding changed_at
changed_here i octet [] lt = absurd (omega arith)
changed_here zero octet (b ∷ bytes) lt = refl
changed_here (suc i) octet (b ∷ bytes) lt = changed_here i octet bytes (omega arith)

changed_there : (i j octet : ℕ) (bytes : List ℕ) → (i ≡ j → ⊥)
    → slice_get (changed_at i octet bytes) j ≡ slice_get bytes j
unfolding changed_at
changed_there i j octet [] other = refl
changed_there zero zero octet (b ∷ bytes) other = absurd (other refl)
changed_there zero (suc j) octet (b ∷ bytes) other = refl
changed_there (suc i) zero octet (b ∷ bytes) other = refl
changed_there (suc i) (suc j) octet (b ∷ bytes) other =
    changed_there i j octet bytes (λ is. other (ap (λ (n : ℕ). suc n) is))

pub bytes_left : (f : FileState) → IsOutcome f f.bytes
bytes_left f = record { stays = λ i settled inside. refl; no_longer = omega arith }

-- settled, or not
data Known (settled : Option Bool) : Type 0 where
  Yes : settled ≡ Some true → Known settled
  No : (settled ≡ Some true → ⊥) → Known settled

known : (settled : Option Bool) → Known settled
known None = No (λ e. cc)
known (Some true) = Yes refl
known (Some false) = No (λ e. cc)

-- where nothing is settled, no octet is left by each crash
unsettled_free : (f : FileState) (i octet : ℕ) → (slice_get f.settled i ≡ Some true → ⊥)
    → ((b : List ℕ) → IsOutcome f b → slice_get b i ≡ Some octet) → ⊥
unsettled_free f i octet free each =
    let here = each f.bytes (bytes_left f) in
    let inside : i < length f.bytes = slice_get_within f.bytes i octet here in
    let other = changed_at i (octet + 1) f.bytes in
    let left : IsOutcome f other = record {
      stays = λ j settled lt. changed_there i j (octet + 1) f.bytes
          (λ is. free (subst (λ (k : ℕ). slice_get f.settled k ≡ Some true) (sym is) settled));
      no_longer = omega (arith, length-changed_at i (octet + 1) f.bytes);
    } in
    let two : Some (octet + 1) ≡ Some octet =
    sym (changed_here i (octet + 1) f.bytes inside) ∙ each other left in
    one_more octet (some_same (octet + 1) octet two)
  where
    some_same : (a b : ℕ) → Some a ≡ Some b → a ≡ b
    some_same a b e = cc

    one_more : (a : ℕ) → a + 1 ≡ a → ⊥
    one_more a e = omega arith

-- the longest outcome
longest_left : (f : FileState)
    → IsOutcome f (f.bytes ++ replicate (longest f - length f.bytes) 0)
longest_left f = record {
  stays = λ i settled inside. grind (arith, common_steps, gets);
  no_longer = omega (
    arith,
    length-append f.bytes (replicate (longest f - length f.bytes) 0),
    length-replicate {A = ℕ} (longest f - length f.bytes) 0,
  );
}

pub file_no_longer : (f state : FileState) (end size : ℕ) (c : List ℕ)
    → longest state ≤ max (longest f) end → IsOutcome state c
    → ((b : List ℕ) → IsOutcome f b → length b ≤ size) → length c ≤ max size end
file_no_longer f state end size c reach left each = omega (
  arith,
  left.no_longer,
  reach,
  each _ (longest_left f),
  length-append f.bytes (replicate (longest f - length f.bytes) 0),
  length-replicate {A = ℕ} (longest f - length f.bytes) 0,
)

-- what is settled before and not touched is left
pub file_stays : (f state : FileState) (i octet : ℕ) (c : List ℕ)
    → (slice_get f.settled i ≡ Some true → i < length f.bytes
    → (slice_get state.settled i ≡ Some true) × (slice_get state.bytes i ≡ slice_get f.bytes i))
    → IsOutcome state c → ((b : List ℕ) → IsOutcome f b → slice_get b i ≡ Some octet)
    → slice_get c i ≡ Some octet
file_stays f state i octet c same left each = elim (known (slice_get f.settled i)) [
  | Yes settled ↦
      let here = each f.bytes (bytes_left f) in
      let inside = slice_get_within f.bytes i octet here in
      let so = same settled inside in
      let there : slice_get state.bytes i ≡ Some octet = so.1 ∙ here in
      left.stays i so.0 (slice_get_within state.bytes i octet there) ∙ there
  | No free ↦ absurd (unsettled_free f i octet free each)
]

pushed_before : {X : Type 0} (xs : List X) (b : X) (j : ℕ) → j < length xs
    → slice_get (xs ++ b ∷ []) j ≡ slice_get xs j
pushed_before [] b j lt = absurd (omega arith)
pushed_before (x ∷ xs) b zero lt = refl
pushed_before (x ∷ xs) b (suc j) lt = pushed_before xs b j (omega arith)

pushed_last : {X : Type 0} (xs : List X) (b : X) → slice_get (xs ++ b ∷ []) (length xs) ≡ Some b
pushed_last [] b = refl
pushed_last (x ∷ xs) b = pushed_last xs b

-- one more position
pub unsettled_more : (from end i : ℕ) (old new : List Bool) (b : Bool)
    → (b ≡ true → (slice_get old i ≡ Some true) × ((i < from) ⊎ (end ≤ i)))
    → ((slice_get old i ≡ Some true) × ((i < from) ⊎ (end ≤ i)) → b ≡ true)
    → IsUnsettled from end i old new → IsUnsettled from end (i + 1) old (new ++ b ∷ [])
unsettled_more from end i old new b if_set then_set so_far = record {
  size_is = omega (arith, so_far.size_is, length-append new (b ∷ []));
  settled = λ j set. ⊎_elim
      (λ before. so_far.settled j (sym (pushed_before new b j before) ∙ set))
      (λ past.
      let within = slice_get_within (new ++ b ∷ []) j true set in
      let is : j ≡ length new = omega (arith, within, past, length-append new (b ∷ [])) in
      let at_i : j ≡ i = is ∙ so_far.size_is in
      let value : Some b ≡ Some true =
      sym (pushed_last new b) ∙ ap (slice_get (new ++ b ∷ [])) (sym is) ∙ set in
      subst (λ (k : ℕ). (slice_get old k ≡ Some true) × ((k < from) ⊎ (end ≤ k))) (sym at_i)
      (if_set (value_of b value)))
      (cases_lt j (length new));
  still = λ j lt set outside. ⊎_elim
      (λ before.
      let inside : j < i = omega (arith, before, so_far.size_is) in
      pushed_before new b j before ∙ so_far.still j inside set outside)
      (λ past.
      let at_i : j ≡ i = omega (arith, lt, past, so_far.size_is) in
      let is : j ≡ length new = at_i ∙ sym so_far.size_is in
      ap (slice_get (new ++ b ∷ [])) is ∙ pushed_last new b ∙ ap (λ (v : Bool). Some v)
      (then_set (subst (λ (k : ℕ). (slice_get old k ≡ Some true) × ((k < from) ⊎ (end ≤ k))) at_i
      (set, outside))))
      (cases_lt j (length new));
}
  where
    value_of : (v : Bool) → Some v ≡ Some true → v ≡ true
    value_of v e = cc

-- one more octet that a crash leaves
pub filled_more : (fill i : ℕ) (f : FileState) (new : List ℕ) (octet : ℕ)
    → (slice_get f.settled i ≡ Some true → i < length f.bytes → Some octet ≡ slice_get f.bytes i)
    → ((slice_get f.settled i ≢ Some true) ⊎ (length f.bytes ≤ i) → octet ≡ fill)
    → IsFilledTo fill i f new → IsFilledTo fill (i + 1) f (new ++ octet ∷ [])
filled_more fill i f new octet stays fills so_far =
    let here : slice_get (new ++ octet ∷ []) i ≡ Some octet =
    ap (slice_get (new ++ octet ∷ [])) (sym so_far.size_is) ∙ pushed_last new octet in
    record {
      size_is = omega (arith, so_far.size_is, length-append new (octet ∷ []));
      stays = λ j lt set inside. ⊎_elim
          (λ before. pushed_before new octet j (omega (arith, before, so_far.size_is))
          ∙ so_far.stays j before set inside)
          (λ past.
          let at_i : i ≡ j = omega (arith, lt, past) in
          subst
          (λ (k : ℕ). slice_get f.settled k ≡ Some true → k < length f.bytes
          → slice_get (new ++ octet ∷ []) k ≡ slice_get f.bytes k)
          at_i (λ s w. here ∙ stays s w) set inside)
          (cases_lt j i);
      fills = λ j lt free. ⊎_elim
          (λ before. pushed_before new octet j (omega (arith, before, so_far.size_is))
          ∙ so_far.fills j before free)
          (λ past.
          let at_i : i ≡ j = omega (arith, lt, past) in
          subst
          (λ (k : ℕ). (slice_get f.settled k ≢ Some true) ⊎ (length f.bytes ≤ k)
          → slice_get (new ++ octet ∷ []) k ≡ Some fill)
          at_i (λ out. here ∙ ap (λ (v : ℕ). Some v) (fills out)) free)
          (cases_lt j i);
    }
