-- What one more event does to the delays.
use Rattle.std.proofs.Common.{◌≡◌, ℕ, Bool, true, false, not, cond, ◌||◌, ◌&&◌, List, [], ◌∷◌, ◌++◌}
use Rattle.std.proofs.Common.{reverse, map, Option, None, Some, refl, sym, ap, ◌∙◌, subst}
use Rattle.std.specs.Duration.{as_nanos}
use Rattle.std.specs.declared.time.Duration.{Duration}
use Rattle.std.proofs.lemmas.List.{reverse-append}
use Rattle.spf_system.specs.declared.pace.Pace.{Pace}
use Rattle.spf_system.specs.declared.pacer.AttemptEnd.{AttemptEnd}
use Rattle.spf_system.specs.declared.pacer.Pacer.{Pacer}
use Rattle.spf_system.specs.declared.reconnect_config.ReconnectConfig.{ReconnectConfig}
use Rattle.spf_system.specs.Delays.{PaceStep, Ended, StandsAfter, delays_of, does_grow}
use Rattle.spf_system.specs.Delays.{is_synchronised}
use Rattle.spf_system.specs.Pacing.{AreSynced, Paces, earlier_words, ended, newest_word, paced_by}

last_first : {A : Type 0} (xs : List A) (x : A) → reverse (xs ++ x ∷ []) ≡ x ∷ reverse xs
last_first xs x = reverse-append xs (x ∷ [])

-- the delays in the order of `delays_of`
map_last : {A B : Type 0} (f : A → B) (xs : List A) (x : A)
    → reverse (map f (xs ++ x ∷ [])) ≡ f x ∷ reverse (map f xs)
map_last {A} f xs x = ap reverse (pushed xs) ∙ last_first (map f xs) (f x)
  where
    pushed : (l : List A) → map f (l ++ x ∷ []) ≡ map f l ++ f x ∷ []
    pushed [] = refl
    pushed (y ∷ ys) = ap (λ r. f y ∷ r) (pushed ys)

-- ---- a history is synchronised where something was accepted

grow_synced : (b synced : Bool) (end : AttemptEnd) (words : List ℕ)
    (before : List ℕ → List PaceStep) → AreSynced synced before
    → is_synchronised (cond b (Ended end (newest_word words) ∷ before (earlier_words words))
    (Ended end 0 ∷ before words)) ≡ synced
grow_synced true synced end words before h = h (earlier_words words)
grow_synced false synced end words before h = h words

pub step_synced : (accepted synced : Bool) (end : Option AttemptEnd)
    (before : List ℕ → List PaceStep) → AreSynced synced before
    → AreSynced (accepted || synced)
    (paced_by synced (accepted && not synced) (cond accepted None end) before)
step_synced true true end before h = λ words. h words
step_synced true false end before h = λ words. refl
step_synced false true None before h = λ words. h words
step_synced false true (Some end) before h =
    λ words. grow_synced (does_grow true end) true end words before h
step_synced false false None before h = λ words. h words
step_synced false false (Some end) before h =
    λ words. grow_synced (does_grow false end) false end words before h

-- ---- one more attempt

-- what a pacer says of one more attempt
abbrev pub PacesTo : AttemptEnd → ℕ → Pacer → Duration → Pacer → Type 0
PacesTo end word old delay new = (bounds : ReconnectConfig) (past : List PaceStep)
    → StandsAfter bounds past old
    → (delays_of bounds (Ended end word ∷ past) ≡ as_nanos delay ∷ delays_of bounds past)
    × StandsAfter bounds (Ended end word ∷ past) new

paced_with : (steps more : List ℕ → List PaceStep) (end : AttemptEnd) (word : ℕ)
    (delay : Duration) (old new : Pace)
    → more (reverse new.words.items) ≡ Ended end word ∷ steps (reverse old.words.items)
    → new.bounds ≡ old.bounds → new.delays.items ≡ old.delays.items ++ delay ∷ []
    → PacesTo end word old.pacer delay new.pacer → Paces steps old → Paces more new
paced_with steps more end word delay old new is bounds delays paces keeps =
    let after = paces old.bounds (steps (reverse old.words.items)) keeps.stands in
    record {
      stands = subst (λ b. StandsAfter b (more (reverse new.words.items)) new.pacer) (sym bounds)
          (subst (λ s. StandsAfter old.bounds s new.pacer) (sym is) after.1);
      delays_are = ap (λ l. reverse (map as_nanos l)) delays
          ∙ map_last as_nanos old.delays.items delay
          ∙ ap (λ l. as_nanos delay ∷ l) keeps.delays_are ∙ sym after.0
          ∙ (λ i. delays_of (sym bounds i) (sym is i));
    }

pub after_growth : (synced : Bool) (steps : List ℕ → List PaceStep) (end : AttemptEnd) (word : ℕ)
    (delay : Duration) (old new : Pace) → new.bounds ≡ old.bounds
    → new.words.items ≡ old.words.items ++ word ∷ []
    → new.delays.items ≡ old.delays.items ++ delay ∷ []
    → does_grow old.pacer.synchronised end ≡ true → PacesTo end word old.pacer delay new.pacer
    → AreSynced synced steps → Paces steps old → Paces (ended synced end steps) new
after_growth synced steps end word delay old new bounds words delays grows paces are keeps =
    let ws = reverse old.words.items in
    let same : old.pacer.synchronised ≡ synced = keeps.stands.synced_is ∙ are ws in
    let is : ended synced end steps (reverse new.words.items) ≡ Ended end word ∷ steps ws =
    (λ i. ended synced end steps (reverse (words i)))
    ∙ ap (ended synced end steps) (last_first old.words.items word)
    ∙ ap (λ b. cond b (Ended end word ∷ steps ws) (Ended end 0 ∷ steps (word ∷ ws)))
    (ap (λ b. does_grow b end) (sym same) ∙ grows) in
    paced_with steps (ended synced end steps) end word delay old new is bounds delays paces keeps

pub after_none : (synced : Bool) (steps : List ℕ → List PaceStep) (end : AttemptEnd)
    (delay : Duration) (old new : Pace) → new.bounds ≡ old.bounds
    → new.words.items ≡ old.words.items → new.delays.items ≡ old.delays.items ++ delay ∷ []
    → does_grow old.pacer.synchronised end ≡ false → PacesTo end 0 old.pacer delay new.pacer
    → AreSynced synced steps → Paces steps old → Paces (ended synced end steps) new
after_none synced steps end delay old new bounds words delays grows paces are keeps =
    let ws = reverse old.words.items in
    let same : old.pacer.synchronised ≡ synced = keeps.stands.synced_is ∙ are ws in
    let is : ended synced end steps (reverse new.words.items) ≡ Ended end 0 ∷ steps ws =
    (λ i. ended synced end steps (reverse (words i)))
    ∙ ap (λ b. cond b (Ended end (newest_word ws) ∷ steps (earlier_words ws))
    (Ended end 0 ∷ steps ws)) (ap (λ b. does_grow b end) (sym same) ∙ grows) in
    paced_with steps (ended synced end steps) end 0 delay old new is bounds delays paces keeps

-- the same steps
pub paces_as : (steps more : List ℕ → List PaceStep) (pace : Pace)
    → more (reverse pace.words.items) ≡ steps (reverse pace.words.items) → Paces steps pace
    → Paces more pace
paces_as steps more pace same keeps = record {
  stands = subst (λ s. StandsAfter pace.bounds s pace.pacer) (sym same) keeps.stands;
  delays_are = keeps.delays_are ∙ ap (delays_of pace.bounds) (sym same);
}
