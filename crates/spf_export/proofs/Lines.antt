-- A text in lines, line by line.
use Rattle.std.proofs.Common.{◌≡◌, ℕ, ◌<◌, zero, suc, List, [], ◌∷◌, ◌++◌, length, min, take, drop}
use Rattle.std.proofs.Common.{ap, arith, refl, sym, ◌∙◌}
use Rattle.std.proofs.Common.{◌+◌, get_or}
use Rattle.spf_disk.specs.declared.generation.AuthorityList.{AuthorityList}
use Rattle.std.specs.Prelude.{codes}
use Rattle.std.proofs.lemmas.List.{append_assoc, append-nil, drop_min, drop_more, take_min}
use Rattle.spf_export.specs.Pem.{authorities_in, authorities_of, block, certificates_text, lines_of}
use Rattle.spf_export.specs.Pem.{rest_of_line}

rest_is : (left : ℕ) (text : List ℕ)
    → rest_of_line left text ≡ take left text ++ 10 ∷ lines_of (drop left text)
rest_is zero [] = refl
rest_is zero (c ∷ text) = refl
rest_is (suc left) [] = refl
rest_is (suc left) (c ∷ text) = ap (λ (l : List ℕ). c ∷ l) (rest_is left text)

lines_begin : (text : List ℕ) → 0 < length text
    → lines_of text ≡ take 64 text ++ 10 ∷ lines_of (drop 64 text)
lines_begin [] some = absurd (omega (arith, some))
lines_begin (c ∷ text) some = ap (λ (l : List ℕ). c ∷ l) (rest_is 63 text)

-- one more line was put
pub line_put : (out more rest line after : List ℕ) → 0 < length rest
    → line ≡ take (min 64 (length rest)) rest → after ≡ drop (min 64 (length rest)) rest
    → more ≡ out ++ line ++ 10 ∷ [] → more ++ lines_of after ≡ out ++ lines_of rest
line_put out more rest line after some line_is after_is more_is =
    (λ i. more_is i ++ lines_of ((after_is ∙ drop_min 64 rest) i))
    ∙ append_assoc (out ++ line) (10 ∷ []) (lines_of (drop 64 rest))
    ∙ append_assoc out line (10 ∷ lines_of (drop 64 rest))
    ∙ ap (λ (l : List ℕ). out ++ (l ++ 10 ∷ lines_of (drop 64 rest)))
    (line_is ∙ take_min 64 rest)
    ∙ ap (λ (l : List ℕ). out ++ l) (sym (lines_begin rest some))

-- nothing is left to be put
pub lines_done : (out all rest : List ℕ) → length rest ≡ 0 → out ++ lines_of rest ≡ all → out ≡ all
lines_done out all [] none is = sym (append-nil out) ∙ is
lines_done out all (c ∷ rest) none is = absurd cc

-- three parts were put, one after another
pub parts_put : (out a b c one two three : List ℕ) → one ≡ out ++ a → two ≡ one ++ b
    → three ≡ two ++ c → three ≡ out ++ (a ++ b ++ c)
parts_put out a b c one two three first second third =
    third ∙ ap (λ (l : List ℕ). l ++ c) (second ∙ ap (λ (l : List ℕ). l ++ b) first)
    ∙ ap (λ (l : List ℕ). l ++ c) (append_assoc out a b) ∙ append_assoc out (a ++ b) c

-- one more certificate was put
pub one_more : (ders : List (List ℕ)) (i : ℕ) (der out more all : List ℕ) → i < length ders
    → der ≡ get_or ders i der → more ≡ out ++ block (codes "CERTIFICATE") der
    → out ++ certificates_text (drop i ders) ≡ all
    → more ++ certificates_text (drop (i + 1) ders) ≡ all
one_more ders i der out more all lt is put so_far =
    let cut : drop i ders ≡ der ∷ drop (i + 1) ders =
    drop_more ders i der lt ∙ ap (λ (d : List ℕ). d ∷ drop (i + 1) ders) (sym is) in
    ap (λ (l : List ℕ). l ++ certificates_text (drop (i + 1) ders)) put
    ∙ append_assoc out (block (codes "CERTIFICATE") der) (certificates_text (drop (i + 1) ders))
    ∙ sym (ap (λ (ds : List (List ℕ)). out ++ certificates_text ds) cut) ∙ so_far

certificates_append : (xs ys : List (List ℕ))
    → certificates_text (xs ++ ys) ≡ certificates_text xs ++ certificates_text ys
certificates_append [] ys = refl
certificates_append (x ∷ xs) ys =
    ap (λ (l : List ℕ). block (codes "CERTIFICATE") x ++ l) (certificates_append xs ys)
    ∙ sym (append_assoc (block (codes "CERTIFICATE") x) (certificates_text xs)
    (certificates_text ys))

-- one more list was put
pub one_more_list : (name : List ℕ) (lists : List AuthorityList) (i : ℕ) (list : AuthorityList)
    (out more all : List ℕ) → i < length lists → list ≡ get_or lists i list
    → more ≡ out ++ certificates_text (authorities_in name list)
    → out ++ certificates_text (authorities_of name (drop i lists)) ≡ all
    → more ++ certificates_text (authorities_of name (drop (i + 1) lists)) ≡ all
one_more_list name lists i list out more all lt is put so_far =
    let later = certificates_text (authorities_of name (drop (i + 1) lists)) in
    let cut : drop i lists ≡ list ∷ drop (i + 1) lists =
    drop_more lists i list lt ∙ ap (λ (l : AuthorityList). l ∷ drop (i + 1) lists) (sym is) in
    ap (λ (l : List ℕ). l ++ later) put
    ∙ append_assoc out (certificates_text (authorities_in name list)) later
    ∙ ap (λ (l : List ℕ). out ++ l)
    (sym
    (certificates_append (authorities_in name list) (authorities_of name (drop (i + 1) lists))))
    ∙ sym (ap (λ (ls : List AuthorityList). out ++ certificates_text (authorities_of name ls)) cut)
    ∙ so_far
