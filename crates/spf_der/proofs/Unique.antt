-- The one extension with an identifier, as a loop over the extensions finds it.
use Rattle.std.proofs.Common.{◌≡◌, ℕ, suc, ◌+◌, ◌<◌, Bool, true, false, cond, List, [], ◌∷◌, ◌++◌}
use Rattle.std.proofs.Common.{length, map, take, drop, get_or, Option, Some, None, Ok, Err, refl}
use Rattle.std.proofs.Common.{sym, ap, ◌∙◌, arith, drop-cons}
use Rattle.std.specs.Prelude.{is_some}
use Rattle.std.specs.Str.{bytes_eq}
use Rattle.std.specs.Borrow.{Bor}
use Rattle.std.proofs.lemmas.List.{take_more, take-append-drop, length-take-le, append-nil}
use Rattle.std.proofs.lemmas.List.{map-append, map_push}
use Rattle.spf_der.specs.Part.{plain}
use Rattle.spf_der.specs.Value.{seen}
use Rattle.spf_der.specs.Read.{only_one, contents_with, indices_with, unique_rule, index_rule}
use Rattle.spf_der.specs.declared.certificate.ExtensionView.{ExtensionView}
use Rattle.spf_der.specs.declared.certificate.ExtensionPart.{ExtensionPart}
use Rattle.spf_der.specs.declared.error.X509ParseKind.TheVariants.{DuplicateExtensions}

-- none was found
only_none : {A : Type 0} (xs : List A) (found : Option A) → only_one xs ≡ Ok found
    → is_some found ≡ false → xs ≡ []
only_none [] found is none = refl
only_none (x ∷ []) None is none = cc
only_none (x ∷ []) (Some y) is none = cc
only_none (x ∷ y ∷ xs) found is none = cc

-- one more after one is one too many
only_twice : {A : Type 0} (xs : List A) (found : Option A) (x : A) (ys : List A)
    → only_one xs ≡ Ok found → is_some found ≡ true
    → only_one (xs ++ x ∷ ys) ≡ Err DuplicateExtensions
only_twice [] None x ys is some = cc
only_twice [] (Some y) x ys is some = cc
only_twice (y ∷ []) found x ys is some = refl
only_twice (y ∷ z ∷ xs) found x ys is some = cc

picked : {A : Type 0} (b : Bool) (x : A) (xs ys : List A)
    → cond b (x ∷ (xs ++ ys)) (xs ++ ys) ≡ cond b (x ∷ xs) xs ++ ys
picked true x xs ys = refl
picked false x xs ys = refl

contents_with-append : (oid : List ℕ) (xs ys : List ExtensionPart)
    → contents_with oid (xs ++ ys) ≡ contents_with oid xs ++ contents_with oid ys
contents_with-append oid [] ys = refl
contents_with-append oid (x ∷ xs) ys =
    ap (λ (rest : List (List ℕ)). cond (bytes_eq x.oid oid) (x.contents ∷ rest) rest)
    (contents_with-append oid xs ys)
    ∙ picked (bytes_eq x.oid oid) x.contents (contents_with oid xs) (contents_with oid ys)

indices_with-append : (oid : List ℕ) (n : ℕ) (xs ys : List ExtensionPart)
    → indices_with oid n (xs ++ ys) ≡ indices_with oid n xs ++ indices_with oid (n + length xs) ys
indices_with-append oid n [] ys = ap (λ (m : ℕ). indices_with oid m ys) (omega arith)
indices_with-append oid n (x ∷ xs) ys =
    let at : n + 1 + length xs ≡ n + length (x ∷ xs) = omega arith in
    ap (λ (rest : List ℕ). cond (bytes_eq x.oid oid) (n ∷ rest) rest)
    (indices_with-append oid (n + 1) xs ys)
    ∙ picked (bytes_eq x.oid oid) n (indices_with oid (n + 1) xs)
    (indices_with oid (n + 1 + length xs) ys)
    ∙ ap (λ (m : ℕ).
    cond (bytes_eq x.oid oid) (n ∷ indices_with oid (n + 1) xs) (indices_with oid (n + 1) xs)
    ++ indices_with oid m ys) at

pub contents_hit : (oid : List ℕ) (xs : List ExtensionPart) (e : ExtensionPart)
    (ys : List ExtensionPart) → bytes_eq e.oid oid ≡ true
    → contents_with oid (xs ++ e ∷ ys) ≡ contents_with oid xs ++ e.contents ∷ contents_with oid ys
contents_hit oid xs e ys hit =
    contents_with-append oid xs (e ∷ ys)
    ∙ ap (λ (b : Bool). contents_with oid xs
    ++ cond b (e.contents ∷ contents_with oid ys) (contents_with oid ys)) hit

pub contents_miss : (oid : List ℕ) (xs : List ExtensionPart) (e : ExtensionPart)
    → bytes_eq e.oid oid ≡ false
    → contents_with oid (xs ++ e ∷ []) ≡ contents_with oid xs
contents_miss oid xs e miss =
    contents_with-append oid xs (e ∷ [])
    ∙ ap (λ (b : Bool). contents_with oid xs ++ cond b (e.contents ∷ []) []) miss
    ∙ append-nil (contents_with oid xs)

map_take_more : (xs : List ExtensionView) (i : ℕ) (d : ExtensionView) → i < length xs
    → map plain (take (i + 1) xs) ≡ map plain (take i xs) ++ plain (get_or xs i d) ∷ []
map_take_more xs i d lt =
    ap (map plain) (take_more xs i d lt) ∙ map_push plain (take i xs) (get_or xs i d)

map_cut : (xs : List ExtensionView) (i : ℕ) (d : ExtensionView) → i < length xs
    → map plain xs ≡ map plain (take i xs) ++ plain (get_or xs i d) ∷ map plain (drop (suc i) xs)
map_cut xs i d lt =
    let rest : drop i xs ≡ get_or xs i d ∷ drop (suc i) xs = drop-cons xs i d lt in
    let cut : xs ≡ take i xs ++ get_or xs i d ∷ drop (suc i) xs =
    sym (take-append-drop i xs) ∙ ap (λ (z : List ExtensionView). take i xs ++ z) rest in
    ap (map plain) cut ∙ map-append plain (take i xs) (get_or xs i d ∷ drop (suc i) xs)

is_some_seen : (found : Option (Bor (List ℕ))) → is_some (seen found) ≡ is_some found
is_some_seen None = refl
is_some_seen (Some x) = refl

-- the next extension has the identifier, and none before had it
pub unique_more : (oid : List ℕ) (xs : List ExtensionView) (i : ℕ) (d : ExtensionView)
    (found : Option (Bor (List ℕ))) → i < length xs
    → unique_rule oid (map plain (take i xs)) ≡ Ok (seen found) → is_some found ≡ false
    → bytes_eq (get_or xs i d).oid.now oid ≡ true
    → unique_rule oid (map plain (take (i + 1) xs)) ≡ Ok (Some (get_or xs i d).contents.now)
unique_more oid xs i d found lt so_far none hit =
    let empty : contents_with oid (map plain (take i xs)) ≡ [] =
    only_none (contents_with oid (map plain (take i xs))) (seen found) so_far
    (is_some_seen found ∙ none) in
    ap (unique_rule oid) (map_take_more xs i d lt)
    ∙ ap (only_one {A = List ℕ})
    (contents_hit oid (map plain (take i xs)) (plain (get_or xs i d)) [] hit
    ∙ ap (λ (before : List (List ℕ)). before ++ (get_or xs i d).contents.now ∷ []) empty)

-- the next extension has another identifier
pub unique_skip : (oid : List ℕ) (xs : List ExtensionView) (i : ℕ) (d : ExtensionView)
    (found : Option (List ℕ)) → i < length xs
    → unique_rule oid (map plain (take i xs)) ≡ Ok found
    → bytes_eq (get_or xs i d).oid.now oid ≡ false
    → unique_rule oid (map plain (take (i + 1) xs)) ≡ Ok found
unique_skip oid xs i d found lt so_far miss =
    ap (unique_rule oid) (map_take_more xs i d lt)
    ∙ ap (only_one {A = List ℕ})
    (contents_miss oid (map plain (take i xs)) (plain (get_or xs i d)) miss) ∙ so_far

-- a second extension has the identifier
pub unique_twice : (oid : List ℕ) (xs : List ExtensionView) (i : ℕ) (d : ExtensionView)
    (found : Option (Bor (List ℕ))) → i < length xs
    → unique_rule oid (map plain (take i xs)) ≡ Ok (seen found) → is_some found ≡ true
    → bytes_eq (get_or xs i d).oid.now oid ≡ true
    → unique_rule oid (map plain xs) ≡ Err DuplicateExtensions
unique_twice oid xs i d found lt so_far some hit =
    ap (unique_rule oid) (map_cut xs i d lt)
    ∙ ap (only_one {A = List ℕ})
    (contents_hit oid (map plain (take i xs)) (plain (get_or xs i d)) (map plain (drop (suc i) xs))
    hit)
    ∙ only_twice (contents_with oid (map plain (take i xs))) (seen found)
    (get_or xs i d).contents.now (contents_with oid (map plain (drop (suc i) xs))) so_far
    (is_some_seen found ∙ some)

indices_hit : (oid : List ℕ) (xs : List ExtensionPart) (e : ExtensionPart) (ys : List ExtensionPart)
    → bytes_eq e.oid oid ≡ true
    → indices_with oid 0 (xs ++ e ∷ ys)
    ≡ indices_with oid 0 xs ++ (0 + length xs) ∷ indices_with oid (0 + length xs + 1) ys
indices_hit oid xs e ys hit =
    indices_with-append oid 0 xs (e ∷ ys)
    ∙ ap (λ (b : Bool). indices_with oid 0 xs
    ++ cond b ((0 + length xs) ∷ indices_with oid (0 + length xs + 1) ys)
    (indices_with oid (0 + length xs + 1) ys)) hit

indices_miss : (oid : List ℕ) (xs : List ExtensionPart) (e : ExtensionPart)
    → bytes_eq e.oid oid ≡ false
    → indices_with oid 0 (xs ++ e ∷ []) ≡ indices_with oid 0 xs
indices_miss oid xs e miss =
    indices_with-append oid 0 xs (e ∷ [])
    ∙ ap (λ (b : Bool). indices_with oid 0 xs ++ cond b ((0 + length xs) ∷ []) []) miss
    ∙ append-nil (indices_with oid 0 xs)

part_take_more : (xs : List ExtensionPart) (i : ℕ) (e : ExtensionPart) → i < length xs
    → e ≡ get_or xs i e → take (i + 1) xs ≡ take i xs ++ e ∷ []
part_take_more xs i e lt is =
    take_more xs i e lt ∙ ap (λ (z : ExtensionPart). take i xs ++ z ∷ []) (sym is)

part_cut : (xs : List ExtensionPart) (i : ℕ) (e : ExtensionPart) → i < length xs → e ≡ get_or xs i e
    → xs ≡ take i xs ++ e ∷ drop (suc i) xs
part_cut xs i e lt is =
    let rest : drop i xs ≡ e ∷ drop (suc i) xs =
    drop-cons xs i e lt ∙ ap (λ (z : ExtensionPart). z ∷ drop (suc i) xs) (sym is) in
    sym (take-append-drop i xs) ∙ ap (λ (z : List ExtensionPart). take i xs ++ z) rest

pub index_more : (oid : List ℕ) (xs : List ExtensionPart) (i : ℕ) (e : ExtensionPart)
    (found : Option ℕ) → i < length xs → e ≡ get_or xs i e
    → index_rule oid (take i xs) ≡ Ok found → is_some found ≡ false → bytes_eq e.oid oid ≡ true
    → index_rule oid (take (i + 1) xs) ≡ Ok (Some i)
index_more oid xs i e found lt is so_far none hit =
    let empty : indices_with oid 0 (take i xs) ≡ [] =
    only_none (indices_with oid 0 (take i xs)) found so_far none in
    let index : 0 + length (take i xs) ≡ i =
    ap (λ (n : ℕ). 0 + n) (length-take-le i xs (omega arith)) ∙ omega arith in
    ap (index_rule oid) (part_take_more xs i e lt is)
    ∙ ap (only_one {A = ℕ})
    (indices_hit oid (take i xs) e [] hit
    ∙ ap (λ (before : List ℕ). before ++ (0 + length (take i xs)) ∷ []) empty)
    ∙ ap (λ (n : ℕ). Ok (Some n)) index

pub index_skip : (oid : List ℕ) (xs : List ExtensionPart) (i : ℕ) (e : ExtensionPart)
    (found : Option ℕ) → i < length xs → e ≡ get_or xs i e
    → index_rule oid (take i xs) ≡ Ok found → bytes_eq e.oid oid ≡ false
    → index_rule oid (take (i + 1) xs) ≡ Ok found
index_skip oid xs i e found lt is so_far miss =
    ap (index_rule oid) (part_take_more xs i e lt is)
    ∙ ap (only_one {A = ℕ}) (indices_miss oid (take i xs) e miss) ∙ so_far

pub index_twice : (oid : List ℕ) (xs : List ExtensionPart) (i : ℕ) (e : ExtensionPart)
    (found : Option ℕ) → i < length xs → e ≡ get_or xs i e
    → index_rule oid (take i xs) ≡ Ok found → is_some found ≡ true → bytes_eq e.oid oid ≡ true
    → index_rule oid xs ≡ Err DuplicateExtensions
index_twice oid xs i e found lt is so_far some hit =
    ap (index_rule oid) (part_cut xs i e lt is)
    ∙ ap (only_one {A = ℕ}) (indices_hit oid (take i xs) e (drop (suc i) xs) hit)
    ∙ only_twice (indices_with oid 0 (take i xs)) found (0 + length (take i xs))
    (indices_with oid (0 + length (take i xs) + 1) (drop (suc i) xs)) so_far some
