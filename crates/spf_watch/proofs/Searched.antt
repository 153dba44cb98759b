-- What a search for an octet says of the fields of a line.
use Rattle.std.proofs.Common.{◌≡◌, ◌≢◌, refl, sym, ap, ◌∙◌, ℕ, suc, ◌+◌, ◌<◌, false, ◌==◌, List, []}
use Rattle.std.proofs.Common.{◌∷◌, ◌++◌, length, take, drop, get_or, arith, drop-cons, get_or-take}
use Rattle.std.proofs.Common.{length-take}
use Rattle.std.proofs.lemmas.List.{take-append-drop, take_more}
use borrow.Author.Tests.{eqb-true, eq-eqb, ne_eqb}
use Rattle.memchr.specs.Find.{Nowhere, NoneBefore, Passes, is_byte}
use Rattle.spf_watch.specs.Tallied.{first_word, after_word}

-- no octet is this one
abbrev pub Avoids : ℕ → List ℕ → Type 0
Avoids b l = (k : ℕ) → k < length l → get_or l k 0 ≢ b

-- Text up to an octet, and after it.
pub record Cut (b : ℕ) (l front tail : List ℕ) : Type 0 where
  pub text : l ≡ front ++ b ∷ tail
  pub avoids : Avoids b front

-- a search that finds nothing
pub avoids_all : (b : ℕ) (l : List ℕ) → Nowhere (Passes (is_byte b) l) 0 (length l) → Avoids b l
avoids_all b l none k lt is = none k (omega arith) lt (eq-eqb (get_or l k 0) b is)

-- the rest of such a list
pub avoids_tail : (b c : ℕ) (cs : List ℕ) → Avoids b (c ∷ cs) → Avoids b cs
avoids_tail b c cs avoids k lt = avoids (suc k) (omega arith)

-- the first of such a list
pub avoids_head : (b c : ℕ) (cs : List ℕ) → Avoids b (c ∷ cs) → (c == b) ≡ false
avoids_head b c cs avoids = ne_eqb c b (avoids 0 (omega arith))

-- a list is cut at the first such octet
pub cut_at : (b : ℕ) (l : List ℕ) (k : ℕ) → NoneBefore (Passes (is_byte b) l) 0 (length l) k
    → Passes (is_byte b) l k → Cut b l (take k l) (drop (k + 1) l)
cut_at b l k none there = record {
  text =
      let lt : k < length l = none.high in
      let here : get_or l k 0 ≡ b = eqb-true (get_or l k 0) b there in
      sym (take-append-drop k l)
      ∙ ap (λ (r : List ℕ). take k l ++ r)
      (drop-cons l k 0 lt ∙ ap (λ (c : ℕ). c ∷ drop (suc k) l) here
      ∙ ap (λ (n : ℕ). b ∷ drop n l) {x = suc k} {y = k + 1} (omega arith));
  avoids = λ i lt is. before i lt (omega (arith, length-take k l)) is;
}
  where
    before : (i : ℕ) → i < length (take k l) → i < k → get_or (take k l) i 0 ≢ b
    before i lt low is =
        none.before i (omega arith) low
        (eq-eqb (get_or l i 0) b (sym (get_or-take k l i 0 low) ∙ is))

-- the text up to the octet, with it
pub taken_with : (b : ℕ) (l : List ℕ) (k : ℕ) → NoneBefore (Passes (is_byte b) l) 0 (length l) k
    → Passes (is_byte b) l k → take (k + 1) l ≡ take k l ++ b ∷ []
taken_with b l k none there =
    take_more l k 0 none.high ∙ ap (λ (c : ℕ). take k l ++ c ∷ []) (eqb-true (get_or l k 0) b there)

-- a line of one word
pub first_word_alone : (w : List ℕ) → Avoids 32 w → first_word w ≡ w
first_word_alone [] avoids = refl
first_word_alone (c ∷ cs) avoids =
    rw (avoids_head 32 c cs avoids)
    (ap (λ l. c ∷ l) (first_word_alone cs (avoids_tail 32 c cs avoids)))

-- nothing follows one word
pub after_word_alone : (w : List ℕ) → Avoids 32 w → after_word w ≡ []
after_word_alone [] avoids = refl
after_word_alone (c ∷ cs) avoids =
    rw (avoids_head 32 c cs avoids) (after_word_alone cs (avoids_tail 32 c cs avoids))

-- a word with others after it
pub first_word_cut : (w rest : List ℕ) → Avoids 32 w → first_word (w ++ 32 ∷ rest) ≡ w
first_word_cut [] rest avoids = refl
first_word_cut (c ∷ cs) rest avoids =
    rw (avoids_head 32 c cs avoids)
    (ap (λ l. c ∷ l) (first_word_cut cs rest (avoids_tail 32 c cs avoids)))

-- the others follow it
pub after_word_cut : (w rest : List ℕ) → Avoids 32 w → after_word (w ++ 32 ∷ rest) ≡ rest
after_word_cut [] rest avoids = refl
after_word_cut (c ∷ cs) rest avoids =
    rw (avoids_head 32 c cs avoids) (after_word_cut cs rest (avoids_tail 32 c cs avoids))

-- the fields of a line that is cut at its first space
pub first_word_of : (l front tail : List ℕ) → Cut 32 l front tail → first_word l ≡ front
first_word_of l front tail cut = ap first_word cut.text ∙ first_word_cut front tail cut.avoids

-- what follows the first word of such a line
pub after_word_of : (l front tail : List ℕ) → Cut 32 l front tail → after_word l ≡ tail
after_word_of l front tail cut = ap after_word cut.text ∙ after_word_cut front tail cut.avoids
