-- Bytes that begin with a text, where the start of both is compared first.
use Rattle.std.proofs.Common.{◌≡◌, ◌≢◌, ℕ, ◌≤◌, ◌+◌, true, false, nat_eq, List, ◌++◌, length, take}
use Rattle.std.proofs.Common.{drop, Option, Some, None, refl, sym, ap, ◌∙◌, append_assoc}
use Rattle.std.specs.Prelude.{MatchOption}
use Rattle.std.specs.Cmp.Lexicographic.{pointwise}
use Rattle.std.proofs.lemmas.List.{append_cancel_left, take_at, take-append-drop, take-take}
use Rattle.spf_io.proofs.Exact.{bytes_exact}

-- what `strip_prefix` says of what follows a common head, said of the whole
pub same_head : {R : Type 0} (now : R → List ℕ) (r : Option R)
    (head others end bytes text : List ℕ) → bytes ≡ head ++ others → text ≡ head ++ end
    → MatchOption r (pointwise nat_eq (take (length end) others) end ≡ false)
    (λ x. (pointwise nat_eq (take (length end) others) end ≡ true)
    × (now x ≡ drop (length end) others) × (length (now x) + length end ≡ length others))
    → MatchOption r (take (length text) bytes ≢ text) (λ x. bytes ≡ text ++ now x)
same_head now None head others end bytes text b t unequal =
    λ same.
    let left = drop (length text) bytes in
    let whole : bytes ≡ text ++ left =
    sym (take-append-drop (length text) bytes) ∙ ap (λ (z : List ℕ). z ++ left) same in
    let both : head ++ others ≡ head ++ (end ++ left) =
    sym b ∙ whole ∙ ap (λ (z : List ℕ). z ++ left) t ∙ append_assoc head end left in
    let cut : others ≡ end ++ left = append_cancel_left head others (end ++ left) both in
    let start : take (length end) others ≡ end =
    ap (take (length end)) cut ∙ take_at end left (length end) refl in
    absurd (cc ((bytes_exact _ _).1 start, unequal))
same_head now (Some x) head others end bytes text b t (equal, is, _) =
    let start : take (length end) others ≡ end = (bytes_exact _ _).0 equal in
    let cut : others ≡ end ++ now x =
    sym (take-append-drop (length end) others) ∙ (λ i. start i ++ sym is i) in
    b ∙ ap (λ (z : List ℕ). head ++ z) cut ∙ sym (append_assoc head end (now x))
    ∙ ap (λ (z : List ℕ). z ++ now x) (sym t)

-- bytes that begin otherwise do not begin with the text
pub other_head : (n : ℕ) (head start bytes text : List ℕ) → n ≤ length text
    → head ≡ take n bytes → start ≡ take n text → head ≢ start
    → take (length text) bytes ≢ text
other_head n head start bytes text long h s other same =
    other (h ∙ sym (take-take n (length text) bytes long) ∙ ap (take n) same ∙ sym s)
