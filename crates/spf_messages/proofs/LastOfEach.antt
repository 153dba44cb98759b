-- Of entries with the same name the last is kept.
use Rattle.std.proofs.Common.{◌≡◌, ◌∙◌, ℕ, List, [], ◌∷◌, ◌++◌, Bool, true, false, cond, refl, sym}
use Rattle.std.proofs.Common.{◌<◌, ap, append_assoc, arith, Bor, length, map, reverse}
use Rattle.std.proofs.lemmas.List.{reverse-append}
use Rattle.std.specs.Prelude.{nat_eq, ◌||◌}
use Rattle.std.specs.Cmp.Lexicographic.{pointwise, texts_ties}
use Rattle.std.specs.List.{list_any}
use Rattle.std.specs.BTreeSet.{BTreeSet, contains, Updates}
use Rattle.spf_messages.specs.Message.{last_of_each}
use Rattle.spf_messages.specs.Members.{text_cmp, KeptWith}

or_else : (test has : Bool) → cond test true has ≡ (test || has)
or_else true has = refl
or_else false has = refl

module _ {V E : Type 0} (entry_of : V → E) (name_of : E → List ℕ) where
  -- whether one of the entries has the name
  abbrev pub is_met : List ℕ → List V → Bool
  is_met name done = list_any (λ x. pointwise nat_eq (name_of x) name) (map entry_of done)

  -- which entries are looked at, from the last on, and which of them are kept
  pub record Kept (entries left kept : List V) (later : BTreeSet (Bor (List ℕ))) : Type 0 where
    pub done : List V
    pub all : left ++ done ≡ entries
    pub last : last_of_each name_of (map entry_of done) ≡ map entry_of (reverse kept)
    pub names : (q : Bor (List ℕ)) → contains text_cmp later q ≡ is_met q.now done

  one_more : (entries left before done : List V) (e : V) → left ≡ before ++ e ∷ []
      → left ++ done ≡ entries → before ++ e ∷ done ≡ entries
  one_more entries left before done e is all =
      sym (append_assoc before (e ∷ []) done) ∙ ap (λ (l : List V). l ++ done) (sym is) ∙ all

  named : (later next : BTreeSet (Bor (List ℕ))) (done : List V) (name : Bor (List ℕ)) (e : V)
      → name.now ≡ name_of (entry_of e)
      → Updates text_cmp later next name true
      → ((q : Bor (List ℕ)) → contains text_cmp later q ≡ is_met q.now done)
      → (q : Bor (List ℕ)) → contains text_cmp next q ≡ is_met q.now (e ∷ done)
  named later next done name e is updates names q =
      updates.0 q ∙ (λ i. cond (sym (texts_ties name.now q.now) i) true (names q i))
      ∙ or_else (pointwise nat_eq name.now q.now) (is_met q.now done)
      ∙ ap (λ (n : List ℕ). pointwise nat_eq n q.now || is_met q.now done) is

  last_with : (met : Bool) (e : V) (done kept next : List V)
      → next ≡ cond met kept (kept ++ e ∷ [])
      → met ≡ is_met (name_of (entry_of e)) done
      → last_of_each name_of (map entry_of done) ≡ map entry_of (reverse kept)
      → last_of_each name_of (map entry_of (e ∷ done)) ≡ map entry_of (reverse next)
  last_with true e done kept next is has last =
      rw (sym has)
      (last ∙ ap (λ (l : List V). map entry_of (reverse l)) (sym is))
  last_with false e done kept next is has last =
      rw (sym has) (ap (λ (l : List E). entry_of e ∷ l) last
      ∙ ap (map entry_of) (sym (reverse-append kept (e ∷ [])))
      ∙ ap (λ (l : List V). map entry_of (reverse l)) (sym is))

  -- one more entry was looked at
  pub kept_with : (entries left before kept next : List V)
      (names met : BTreeSet (Bor (List ℕ))) (name : Bor (List ℕ)) (e : V)
      → left ≡ before ++ e ∷ [] → name.now ≡ name_of (entry_of e)
      → KeptWith name e kept next names met → Kept entries left kept names
      → Kept entries before next met
  kept_with entries left before kept next names met name e is name_is step k = record {
    done = e ∷ k.done;
    all = one_more entries left before k.done e is k.all;
    last = last_with (contains text_cmp names name) e k.done kept next step.kept
        (k.names name ∙ ap (λ (n : List ℕ). is_met n k.done) name_is) k.last;
    names = named names met k.done name e name_is step.met_too k.names;
  }

  -- all were looked at
  pub kept_last : (entries left kept result : List V) (names : BTreeSet (Bor (List ℕ)))
      → left ≡ [] → result ≡ reverse kept → Kept entries left kept names
      → map entry_of result ≡ last_of_each name_of (map entry_of entries)
  kept_last entries left kept result names none is k =
      let done : k.done ≡ entries =
      ap (λ (l : List V). l ++ k.done) (sym none) ∙ k.all in
      ap (map entry_of) is ∙ sym k.last
      ∙ ap (λ (l : List V). last_of_each name_of (map entry_of l)) done

  -- a list that is too short to have a name twice
  pub last_of_few : (entries : List V) → length entries < 2
      → last_of_each name_of (map entry_of entries) ≡ map entry_of entries
  last_of_few [] few = refl
  last_of_few (e ∷ []) few = refl
  last_of_few (e ∷ f ∷ es) few = absurd (omega (arith, few))
