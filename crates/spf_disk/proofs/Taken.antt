-- What is read is what is written for it.
use Rattle.std.proofs.Common.{◌≡◌, ℕ, zero, suc, ◌≤◌, ◌==◌, cond, List, [], ◌∷◌, ◌++◌, length}
use Rattle.std.proofs.Common.{take, drop, Option, Some, None, nat_lt, refl, sym, ap, ◌∙◌, subst}
use Rattle.std.proofs.Common.{arith, append_assoc, ⊎_elim, unwrap_or}
use Rattle.std.proofs.lemmas.Bool.{ltb-false, eqb-true}
use Rattle.std.proofs.lemmas.Nat.{be_bytes_8}
use Rattle.std.proofs.lemmas.List.{take-append-drop, length-take-le, append-nil}
use Rattle.std.proofs.lemmas.List.Concat.{flat_map-cons}
use Rattle.std.specs.List.{flat_map}
use Rattle.std.specs.Int.{w64, from_be_bytes}
use Rattle.std.specs.Str.{is_utf8}
use Rattle.spf_api.specs.Reading.{◌>>=◌, counted}
use Rattle.spf_api.proofs.Spelled.{IsBytes, rest_bytes, chosen, bind_some, pair_parts}
use Rattle.spf_api.proofs.Lists.{Front, both, bind_then}
use Rattle.spf_disk.specs.declared.generation.Generation.{Generation}
use Rattle.spf_disk.specs.declared.generation.Entry.{Entry}
use Rattle.spf_disk.specs.declared.generation.Entry.TheVariants.{Withdrawn, Accepted}
use Rattle.spf_disk.specs.Format.{number_text, field_text, list_text, authorities_text, entry_text}
use Rattle.spf_disk.specs.Format.{number_at, field_at, text_at, list_at, authorities_at, entry_at}
use Rattle.spf_disk.specs.Format.{generation_at, entry_of_kind, ended}

-- the bytes begin with the text of what a reader finds in them
abbrev Takes : {A : Type 0} → (List ℕ → Option (A × List ℕ)) → (A → List ℕ) → Type 0
Takes {A} one text = (bytes : List ℕ) (x : A) (rest : List ℕ) → IsBytes bytes
    → one bytes ≡ Some (x, rest) → Front bytes (text x) rest

eight : (a b c d e f g h : ℕ) (bytes : List ℕ)
    → IsBytes (a ∷ b ∷ c ∷ d ∷ e ∷ f ∷ g ∷ h ∷ bytes)
    → IsBytes (a ∷ b ∷ c ∷ d ∷ e ∷ f ∷ g ∷ h ∷ [])
eight a b c d e f g h bytes are zero = are 0
eight a b c d e f g h bytes are (suc zero) = are 1
eight a b c d e f g h bytes are (suc (suc zero)) = are 2
eight a b c d e f g h bytes are (suc (suc (suc zero))) = are 3
eight a b c d e f g h bytes are (suc (suc (suc (suc zero)))) = are 4
eight a b c d e f g h bytes are (suc (suc (suc (suc (suc zero))))) = are 5
eight a b c d e f g h bytes are (suc (suc (suc (suc (suc (suc zero)))))) = are 6
eight a b c d e f g h bytes are (suc (suc (suc (suc (suc (suc (suc zero))))))) = are 7
eight a b c d e f g h bytes are (suc (suc (suc (suc (suc (suc (suc (suc i)))))))) = omega arith

number_taken : Takes number_at number_text
unfolding number_at number_text
number_taken [] n rest are is = absurd cc
number_taken (a ∷ []) n rest are is = absurd cc
number_taken (a ∷ b ∷ []) n rest are is = absurd cc
number_taken (a ∷ b ∷ c ∷ []) n rest are is = absurd cc
number_taken (a ∷ b ∷ c ∷ d ∷ []) n rest are is = absurd cc
number_taken (a ∷ b ∷ c ∷ d ∷ e ∷ []) n rest are is = absurd cc
number_taken (a ∷ b ∷ c ∷ d ∷ e ∷ f ∷ []) n rest are is = absurd cc
number_taken (a ∷ b ∷ c ∷ d ∷ e ∷ f ∷ g ∷ []) n rest are is = absurd cc
number_taken (a ∷ b ∷ c ∷ d ∷ e ∷ f ∷ g ∷ h ∷ bytes) n rest are is =
    let same = pair_parts (from_be_bytes w64 (a ∷ b ∷ c ∷ d ∷ e ∷ f ∷ g ∷ h ∷ []), bytes) (n, rest)
    is in
    let spelled : number_text n ≡ a ∷ b ∷ c ∷ d ∷ e ∷ f ∷ g ∷ h ∷ [] =
    be_bytes_8 (a ∷ b ∷ c ∷ d ∷ e ∷ f ∷ g ∷ h ∷ []) n refl (eight a b c d e f g h bytes are)
    (sym same.0) in
    let cut : a ∷ b ∷ c ∷ d ∷ e ∷ f ∷ g ∷ h ∷ bytes ≡ number_text n ++ rest =
    (λ i. (a ∷ b ∷ c ∷ d ∷ e ∷ f ∷ g ∷ h ∷ []) ++ same.1 i) ∙ (λ i. sym spelled i ++ rest) in
    (cut, rest_bytes (number_text n) rest (subst IsBytes cut are))

field_taken : Takes field_at field_text
unfolding field_at field_text
field_taken bytes octets rest are is =
    let found =
    bind_some (number_at bytes)
    (λ (n : ℕ × List ℕ). cond (nat_lt (length n.1) n.0) None (Some (take n.0 n.1, drop n.0 n.1)))
    (octets, rest) is in
    let n : ℕ = found.0.0 in
    let after : List ℕ = found.0.1 in
    let number = number_taken bytes n after are found.1 in
    ⊎_elim (λ p. absurd cc) (λ p.
    let same = pair_parts (take n after, drop n after) (octets, rest) p.1 in
    let le : n ≤ length after = ltb-false (length after) n p.0 in
    let size : length octets ≡ n = ap (length {A = ℕ}) (sym same.0) ∙ length-take-le n after le in
    let cut : after ≡ octets ++ rest =
    sym (take-append-drop n after) ∙ (λ i. same.0 i ++ same.1 i) in
    let whole : bytes ≡ number_text (length octets) ++ (octets ++ rest) =
    number.0 ∙ (λ i. number_text (sym size i) ++ cut i) in (
      whole ∙ sym (append_assoc (number_text (length octets)) octets rest),
      rest_bytes octets rest (subst IsBytes cut number.1),
    ))
    (chosen (nat_lt (length after) n) None (Some (take n after, drop n after)) (Some (octets, rest))
    found.2)

text_taken : Takes text_at field_text
unfolding text_at
text_taken bytes text rest are is =
    let found =
    bind_some (field_at bytes)
    (λ (t : List ℕ × List ℕ). cond (is_utf8 t.0) (Some (t.0, t.1)) None) (text, rest) is in
    ⊎_elim (λ p. field_taken bytes text rest are (found.1 ∙ p.1)) (λ p. absurd cc)
    (chosen (is_utf8 found.0.0) (Some (found.0.0, found.0.1)) None (Some (text, rest)) found.2)

counted_taken : {A : Type 0} (one : List ℕ → Option (A × List ℕ)) (text : A → List ℕ)
    → Takes one text → (n : ℕ) (bytes : List ℕ) (xs : List A) (rest : List ℕ) → IsBytes bytes
    → counted one n bytes ≡ Some (xs, rest) → (length xs ≡ n) × Front bytes (flat_map text xs) rest
counted_taken {A} one text takes zero bytes xs rest are is =
    let same = pair_parts ([], bytes) (xs, rest) is in
    subst (λ (l : List A). (length l ≡ 0) × Front bytes (flat_map text l) rest) same.0
    (refl, (same.1, subst IsBytes same.1 are))
counted_taken {A} one text takes (suc n) bytes xs rest are is =
    let a = bind_some (one bytes)
    (λ (x : A × List ℕ). counted one n x.1 >>= λ others. Some (x.0 ∷ others.0, others.1)) (xs, rest)
    is in
    let b = bind_some (counted one n a.0.1)
    (λ (others : List A × List ℕ). Some (a.0.0 ∷ others.0, others.1)) (xs, rest) a.2 in
    let same = pair_parts (a.0.0 ∷ b.0.0, b.0.1) (xs, rest) b.2 in
    let first = takes bytes a.0.0 a.0.1 are a.1 in
    let others = counted_taken one text takes n a.0.1 b.0.0 b.0.1 first.1 b.1 in
    let laid = both bytes (text a.0.0) a.0.1 (flat_map text b.0.0) b.0.1 first others.1 in
    let cut : bytes ≡ flat_map text (a.0.0 ∷ b.0.0) ++ rest =
    laid.0 ∙ ap (λ (l : List ℕ). l ++ b.0.1) (sym (flat_map-cons text a.0.0 b.0.0))
    ∙ ap (λ (l : List ℕ). flat_map text (a.0.0 ∷ b.0.0) ++ l) same.1 in
    subst (λ (l : List A). (length l ≡ suc n) × Front bytes (flat_map text l) rest) same.0
    (ap suc others.0, (cut, subst IsBytes same.1 laid.1))

list_taken : {A : Type 0} (one : List ℕ → Option (A × List ℕ)) (text : A → List ℕ)
    → Takes one text → Takes (list_at one) (list_text text)
unfolding list_text
list_taken {A} one text takes bytes xs rest are is =
    let a = bind_some (number_at bytes) (λ (n : ℕ × List ℕ). counted one n.0 n.1) (xs, rest) is in
    let number = number_taken bytes a.0.0 a.0.1 are a.1 in
    let members = counted_taken one text takes a.0.0 a.0.1 xs rest number.1 a.2 in
    both bytes (number_text (length xs)) a.0.1 (flat_map text xs) rest
    (number.0 ∙ (λ i. number_text (sym members.0 i) ++ a.0.1), number.1) members.1

authorities_taken : Takes authorities_at authorities_text
unfolding authorities_at authorities_text
authorities_taken bytes a rest are is =
    bind_then (text_at bytes) _ (a, rest) is (λ n n_is then_n.
    bind_then (list_at field_at n.1) _ (a, rest) then_n (λ c c_is made.
    let name = text_taken bytes n.0 n.1 are n_is in
    let certificates = list_taken field_at field_text field_taken n.1 c.0 c.1 name.1 c_is in
    let same = pair_parts (record { name = n.0; certificates = c.0 }, c.1) (a, rest) made in
    let laid = both bytes (field_text n.0) n.1 (list_text field_text c.0) c.1 name certificates in (
      laid.0 ∙ (λ i. authorities_text (same.0 i) ++ same.1 i),
      subst IsBytes same.1 laid.1,
    )))

-- nothing follows
ended_taken : {A : Type 0} (x y : A) (rest : List ℕ) → ended x rest ≡ Some y
    → (rest ≡ []) × (x ≡ y)
ended_taken {A} x y [] is = (refl, ap (λ (o : Option A). unwrap_or o x) is)
ended_taken x y (b ∷ rest) is = absurd cc

-- the text of a generation after its number and kind
generation_text : Generation → List ℕ
generation_text g =
    field_text g.chain ++ (field_text g.key ++ list_text authorities_text g.authorities)

generation_taken : (number : ℕ) (bytes : List ℕ) (g : Generation) → IsBytes bytes
    → generation_at number bytes ≡ Some g → (number ≡ g.number) × (bytes ≡ generation_text g)
unfolding generation_at generation_text
generation_taken number bytes g are is =
    bind_then (field_at bytes) _ g is (λ c c_is then_c.
    bind_then (field_at c.1) _ g then_c (λ k k_is then_k.
    bind_then (list_at authorities_at k.1) _ g then_k (λ a a_is made.
    let chain = field_taken bytes c.0 c.1 are c_is in
    let key = field_taken c.1 k.0 k.1 chain.1 k_is in
    let list = list_taken authorities_at authorities_text authorities_taken k.1 a.0 a.1 key.1
    a_is in
    let made_of : Generation =
    record { number = number; chain = c.0; key = k.0; authorities = a.0 } in
    let same = ended_taken made_of g a.1 made in
    let laid = both bytes (field_text c.0) c.1
    (field_text k.0 ++ list_text authorities_text a.0) a.1 chain
    (both c.1 (field_text k.0) k.1 (list_text authorities_text a.0) a.1 key list) in (
      (λ i. (same.1 i).number),
      laid.0 ∙ ap (λ (l : List ℕ). generation_text made_of ++ l) same.0
          ∙ append-nil (generation_text made_of) ∙ ap generation_text same.1,
    ))))

kind_taken : (number : ℕ) (bytes : List ℕ) (e : Entry) → IsBytes bytes
    → entry_of_kind number bytes ≡ Some e → number_text number ++ bytes ≡ entry_text e
unfolding entry_text generation_text
kind_taken number [] e are is = absurd cc
kind_taken number (kind ∷ rest) e are is =
    ⊎_elim (λ p.
    let same = ended_taken (Withdrawn number) e rest p.1 in
    (λ i. number_text number ++ eqb-true kind 0 p.0 i ∷ same.0 i) ∙ ap entry_text same.1)
    (λ p. ⊎_elim (λ q.
    bind_then (generation_at number rest) (λ g. Some (Accepted g)) e q.1 (λ g g_is made.
    let taken = generation_taken number rest g (λ i. are (suc i)) g_is in
    let same : Accepted g ≡ e = ap (λ (o : Option Entry). unwrap_or o e) made in
    (λ i. number_text (taken.0 i) ++ eqb-true kind 1 q.0 i ∷ taken.1 i)
    ∙ sym (append_assoc (number_text g.number) (1 ∷ field_text g.chain)
    (field_text g.key ++ list_text authorities_text g.authorities))
    ∙ ap entry_text same)) (λ q. absurd cc)
    (chosen (kind == 1) (generation_at number rest >>= (λ g. Some (Accepted g))) None (Some e) p.1))
    (chosen (kind == 0) (ended (Withdrawn number) rest)
    (cond (kind == 1) (generation_at number rest >>= (λ g. Some (Accepted g))) None) (Some e) is)

pub entry_taken : (bytes : List ℕ) (e : Entry) → IsBytes bytes → entry_at bytes ≡ Some e
    → bytes ≡ entry_text e
unfolding entry_at
entry_taken bytes e are is =
    bind_then (number_at bytes) _ e is (λ n n_is then_n.
    let number = number_taken bytes n.0 n.1 are n_is in
    number.0 ∙ kind_taken n.0 n.1 e number.1 then_n)
