-- The texts of lines: of sorted indices, at two moments, and of material that is the same.
use Rattle.std.proofs.Common.{◌≡◌, ℕ, suc, ◌+◌, ◌-◌, ◌≤◌, Bool, true, false, not, cond, ◌&&◌, List}
use Rattle.std.proofs.Common.{[], ◌∷◌, ◌++◌, length, map, take, Option, None, Some, refl, sym, ap}
use Rattle.std.proofs.Common.{◌∙◌, subst, append_assoc, length-take-le, arith}
use Rattle.std.specs.Prelude.{ℤ, int_lt, codes, nat_eq, slice_get, is_some, decimal, drop, ◌==◌}
use Rattle.std.proofs.Math.Bool.{beq}
use Rattle.std.proofs.lemmas.List.{drop_at, drop_all, drop-drop, append-nil, take_all}
use Rattle.std.proofs.lemmas.List.{drop-take}
use Rattle.std.specs.List.{flat_map}
use Rattle.std.specs.Ordering.{nat_cmp, int_eq, is_eq}
use Rattle.std.specs.declared.cmp.Ordering.{Ordering}
use Rattle.std.specs.declared.cmp.Ordering.TheVariants.{Less, Equal, Greater}
use Rattle.std.specs.Option.{option_eq, option_map_or, option_and_then}
use Rattle.std.specs.Cmp.Lexicographic.{slice_cmp, pointwise, nat_list_cmp_total}
use Rattle.std.proofs.lemmas.Bool.Decides.{Decides-eqb, Decides-int_eq}
use Rattle.std.proofs.lemmas.Slice.Eq.{slice_eq-Decides}
use Rattle.std.proofs.lemmas.Map.Lookups.{exact_bytes}
use Rattle.hex.specs.Hex.{encode_lower}
use Rattle.spf_view.specs.Views.{View, Waiting, Withdrawn, Permitted}
use Rattle.spf_view.specs.Standing.{Kept, held_in}
use Rattle.spf_x509.specs.Bag.{same_bag, in_order}
use Rattle.spf_x509.specs.Bundle.{Bundle}
use Rattle.spf_x509.specs.Order.{svid_cmp, IsSameSvid}
use Rattle.spf_x509.specs.Indices.{IsSortedIndices}
use Rattle.spf_x509.specs.Svid.{Svid}
use Rattle.spf_x509.specs.contracts.svid.X509SvidOrd.TheImpl.Laws as svid
use Rattle.spf_x509.proofs.ByteBags.{byte_bags_in_order}
use Rattle.spf_x509.proofs.Ties.{svids_tie}
use Rattle.spf_x509.proofs.Walk.{indices_in_order}
use Rattle.spf_feed.specs.declared.step.Denial.{Denial}
use Rattle.spf_feed.specs.Lines.{after_comma, hex_list, shown_at, choice_text}
use Rattle.spf_feed.specs.Material.{Material, chosen_of, same_svid, same_choice, entry_same}
use Rattle.spf_feed.specs.Material.{same_set, same_material}
use Rattle.spf_feed.specs.Numbered.{LineView, ShowsKept}
use Rattle.spf_feed.specs.Pick.{usable}
use Rattle.spf_feed.specs.Shown.{sorted_text, entry_text, revocations_text, context_text}
use Rattle.spf_feed.specs.Shown.{visible_text, view_line, shown_text}
use Rattle.spf_feed.specs.Sorted.{AreIndexed}
use Rattle.spf_feed.proofs.SameSvids.{svids_same_at}

-- ---- values at sorted indices

flat_map_through : {X Y : Type 0} (h : X → Y) (k : Y → List ℕ) (xs : List X)
    → flat_map (λ x. k (h x)) xs ≡ flat_map k (map h xs)
flat_map_through h k [] = refl
flat_map_through h k (x ∷ xs) = ap (λ l. k (h x) ++ l) (flat_map_through h k xs)

hex_list_through : {X Y : Type 0} (h : X → Y) (g : Y → List ℕ) (xs : List X)
    → hex_list (λ x. g (h x)) xs ≡ hex_list g (map h xs)
hex_list_through h g [] = refl
hex_list_through {X} {Y} h g (x ∷ xs) =
    ap (λ l. encode_lower (g (h x)) ++ l) (flat_map_through h (λ (y : Y). after_comma (g y)) xs)

-- what stands at sorted indices is shown as the sorted values are
pub indices_text : (xs : List (List ℕ)) (ps : List ℕ) → IsSortedIndices (slice_cmp nat_cmp) xs ps
    → hex_list (shown_at (λ c. c) xs) ps ≡ sorted_text xs
indices_text xs ps p =
    let shown : Option (List ℕ) → List ℕ = λ o. option_map_or (λ c. c) o [] in
    hex_list_through (λ (k : ℕ). slice_get xs k) shown ps
    ∙ ap (λ (os : List (Option (List ℕ))). hex_list shown os)
    (indices_in_order (slice_cmp nat_cmp) nat_list_cmp_total exact_bytes xs ps p)
    ∙ sym (hex_list_through (λ (c : List ℕ). Some c) shown (in_order (slice_cmp nat_cmp) xs))

-- one more trust domain is shown
pub bundles_more : (all line line' : List ℕ) (d : List ℕ) (b bundle : Bundle)
    (es iter : List (List ℕ × Bundle)) (order : List ℕ) (left rest : List (List ℕ))
    (authorities : List (List ℕ)) → iter ≡ (d, b) ∷ es → bundle ≡ b → authorities ≡ b.authorities
    → IsSortedIndices (slice_cmp nat_cmp) bundle.authorities order → rest ≡ drop 1 left
    → AreIndexed iter left → all ≡ line ++ flat_map entry_text iter
    → line' ≡ line ++ 32 ∷ d ++ 61 ∷ hex_list (shown_at (λ c. c) authorities) order
    → (all ≡ line' ++ flat_map entry_text es) × AreIndexed es rest
bundles_more all line line' d b bundle es iter order left rest authorities iter-is bundle-is
    authorities-are ordered rest-is indexed text made =
    let p = subst (λ (is : List (List ℕ × Bundle)). AreIndexed is left) iter-is indexed in
    let sorted = subst
    (λ (x : Bundle). IsSortedIndices (slice_cmp nat_cmp) x.authorities order) bundle-is ordered in
    let shown : line' ≡ line ++ entry_text (d, b) =
    made ∙ (λ i. line ++ 32 ∷ d ++ 61 ∷ hex_list (shown_at (λ c. c) (authorities-are i)) order)
    ∙ ap (λ (t : List ℕ). line ++ 32 ∷ d ++ 61 ∷ t) (indices_text b.authorities order sorted)
    ∙ append_assoc line (32 ∷ d) (61 ∷ sorted_text b.authorities) in (
      text ∙ ap (λ (is : List (List ℕ × Bundle)). line ++ flat_map entry_text is) iter-is
          ∙ sym (append_assoc line (entry_text (d, b)) (flat_map entry_text es))
          ∙ ap (λ (l : List ℕ). l ++ flat_map entry_text es) (sym shown),
      subst (AreIndexed es) (sym rest-is) p.1,
    )

-- the CRLs are shown, where there is one
pub crls_made : (crls : List (List ℕ)) (order before mark all : List ℕ) (empty : Bool)
    → empty ≡ (length crls == 0) → empty ≡ false → IsSortedIndices (slice_cmp nat_cmp) crls order
    → mark ≡ before ++ codes " #" → all ≡ mark ++ hex_list (shown_at (λ c. c) crls) order
    → all ≡ before ++ revocations_text crls
crls_made [] order before mark all empty is not_empty p named made = let e : true ≡ false =
    sym is ∙ not_empty in cc
crls_made (c ∷ crls) order before mark all empty is not_empty p named made =
    made ∙ ap (λ (l : List ℕ). l ++ hex_list (shown_at (λ x. x) (c ∷ crls)) order) named
    ∙ append_assoc before (codes " #") (hex_list (shown_at (λ x. x) (c ∷ crls)) order)
    ∙ ap (λ (t : List ℕ). before ++ (codes " #" ++ t)) (indices_text (c ∷ crls) order p)

-- ---- the line of a session, after the room for its number

pub line_written : (octets cut spaced all : List ℕ) (v w : View Material Denial) (r s : ℕ)
    (now : Option ℤ) → 20 ≤ length octets → cut ≡ take 20 octets → spaced ≡ cut ++ 32 ∷ [] → v ≡ w
    → r ≡ s
    → all ≡ spaced ++ view_line v r now → drop 20 all ≡ shown_text w s now
unfolding shown_text
line_written octets cut spaced all v w r s now room cut-is spaced-is view-is revision-is made =
    ap (drop 20)
    (made ∙ ap (λ (l : List ℕ). l ++ view_line v r now)
    (spaced-is ∙ ap (λ (l : List ℕ). l ++ 32 ∷ []) cut-is)
    ∙ append_assoc (take 20 octets) (32 ∷ []) (view_line v r now))
    ∙ drop_at (take 20 octets) (32 ∷ view_line v r now) 20 (length-take-le 20 octets room)
    ∙ (λ i. 32 ∷ view_line (view-is i) (revision-is i) now)

-- what is written back into a buffer of its size is the buffer
pub written_back : (buf items : List ℕ) (n : ℕ) → length buf ≡ length items → n ≡ length items
    → take n (buf ++ drop (length buf) items) ≡ buf
written_back buf items n same size =
    ap (λ (l : List ℕ). take n (buf ++ l)) (drop_all (length buf) items (omega (arith, same)))
    ∙ ap (take n) (append-nil buf) ∙ take_all n buf (omega (arith, same, size))

-- what follows a written number stays
pub number_before : (old new digits : List ℕ) (start end : ℕ) → start + length digits ≡ end
    → drop start new ≡ digits ++ drop end old → drop end new ≡ drop end old
number_before old new digits start end size written =
    ap (λ n. drop n new) (sym size) ∙ sym (drop-drop (length digits) start new)
    ∙ ap (drop (length digits)) written ∙ drop_at digits (drop end old) (length digits) refl

-- so it does in a front of the buffer
pub cut_after : (old new : List ℕ) (room end : ℕ) → room ≤ end → drop room new ≡ drop room old
    → drop room (take end new) ≡ drop room (take end old)
cut_after old new room end le same =
    let on : room + (end - room) ≡ end = omega arith in
    ap (λ n. drop room (take n new)) (sym on) ∙ drop-take room (end - room) new
    ∙ ap (take (end - room)) same ∙ sym (drop-take room (end - room) old)
    ∙ ap (λ n. drop room (take n old)) on

take_past : (xs ys : List ℕ) (n : ℕ) → take (length xs + n) (xs ++ ys) ≡ xs ++ take n ys
take_past [] ys n = ap (λ m. take m ys) (omega arith)
take_past (x ∷ xs) ys n =
    let more : length (x ∷ xs) + n ≡ suc (length xs + n) = omega arith in
    ap (λ m. take m (x ∷ (xs ++ ys))) more ∙ ap (λ l. x ∷ l) (take_past xs ys n)

-- a number, and what follows it up to the end
pub numbered : (old new digits : List ℕ) (start room end : ℕ) → start + length digits ≡ room
    → room ≤ end → drop start new ≡ digits ++ drop room old
    → take (end - start) (drop start new) ≡ digits ++ drop room (take end old)
numbered old new digits start room end size le written =
    let on : room + (end - room) ≡ end = omega arith in
    let long : end - start ≡ length digits + (end - room) = omega (arith, size, le) in
    ap (take (end - start)) written ∙ ap (λ n. take n (digits ++ drop room old)) long
    ∙ take_past digits (drop room old) (end - room)
    ∙ ap (λ l. digits ++ l)
    (sym (drop-take room (end - room) old) ∙ ap (λ n. drop room (take n old)) on)

-- ---- one view at two moments

usable_is : (o : Option Svid) (now : Option ℤ) → usable o now ≡ cond (is_some (usable o now)) o None
usable_is None now = refl
usable_is (Some s) None = refl
usable_is (Some s) (Some t) = by_test (int_lt t s.expiry)
  where
    by_test : (b : Bool)
        → cond b (Some s) None ≡ cond (is_some (cond b (Some s) None)) (Some s) None
    by_test true = refl
    by_test false = refl

usable_same : (o : Option Svid) (a b : Option ℤ) → is_some (usable o a) ≡ is_some (usable o b)
    → usable o a ≡ usable o b
usable_same o a b h = usable_is o a ∙ ap (λ t. cond t o None) h ∙ sym (usable_is o b)

visible_same : (v : View Material Denial) (a b : Option ℤ)
    → is_some (usable (option_and_then chosen_of (held_in v)) a)
    ≡ is_some (usable (option_and_then chosen_of (held_in v)) b)
    → visible_text v a ≡ visible_text v b
visible_same Waiting a b h = refl
visible_same (Withdrawn d) a b h = refl
visible_same (Permitted m) a b h = ap (context_text m.context) (usable_same (chosen_of m) a b h)

-- the line changes only where the choice appears or expires
pub shown_same : (v : View Material Denial) (r : ℕ) (a b : Option ℤ)
    → is_some (usable (option_and_then chosen_of (held_in v)) a)
    ≡ is_some (usable (option_and_then chosen_of (held_in v)) b)
    → shown_text v r a ≡ shown_text v r b
unfolding shown_text view_line
shown_same Waiting r a b h = refl
shown_same (Withdrawn d) r a b h = refl
shown_same (Permitted m) r a b h =
    ap (λ l. 32 ∷ (decimal r ++ l ++ 10 ∷ [])) (visible_same (Permitted m) a b h)

tests_agree : (a b : Bool) → not (beq a b) ≡ false → a ≡ b
tests_agree true true e = refl
tests_agree true false e = cc
tests_agree false true e = cc
tests_agree false false e = refl

-- a line that is not written anew shows the same at a later moment
pub shown_again : (kept : Kept Material Denial) (before now : Option ℤ) (line : LineView)
    (b c : Bool) → b ≡ is_some (usable (option_and_then chosen_of (held_in kept.view)) now)
    → not (beq b c) ≡ false → c ≡ line.shows_choice
    → ShowsKept kept before line → ShowsKept kept now line
shown_again kept before now line b c is agree same s =
    let choice : line.shows_choice
    ≡ is_some (usable (option_and_then chosen_of (held_in kept.view)) now) =
    sym same ∙ sym (tests_agree b c agree) ∙ is in
    record {
      text = s.text ∙ shown_same kept.view kept.revision before now (sym s.choice ∙ choice);
      choice = choice;
    }

-- ---- material that is the same

both : (b c : Bool) → (b && c) ≡ true → (b ≡ true) × (c ≡ true)
both true c e = (refl, e)
both false c e = cc

bytes_same : (xs ys : List ℕ) → pointwise nat_eq xs ys ≡ true → xs ≡ ys
bytes_same xs ys e = (slice_eq-Decides Decides-eqb xs ys (pointwise nat_eq xs ys) refl).0 e

equal_from : (o : Ordering) → is_eq o ≡ true → o ≡ Equal
equal_from Less e = cc
equal_from Equal e = refl
equal_from Greater e = cc

svids_same : (a b : Svid) → same_svid a b ≡ true → IsSameSvid a b
svids_same a b e =
    svids_tie a b
    (equal_from (svid_cmp a b) (sym (svid.matches_eq-law a b) ∙ svids_same_at a b ∙ e))

chosen_same : (x y : Option Svid) (now : Option ℤ) → option_eq same_choice x y ≡ true
    → choice_text (usable x now) ≡ choice_text (usable y now)
chosen_same None None now e = refl
chosen_same None (Some y) now e = cc
chosen_same (Some x) None now e = cc
chosen_same (Some x) (Some y) None e = refl
chosen_same (Some x) (Some y) (Some t) e =
    let p = both (same_svid x y) (int_eq x.expiry y.expiry) e in
    let s = svids_same x y p.0 in
    let expiry : x.expiry ≡ y.expiry = (Decides-int_eq x.expiry y.expiry).0 p.1 in
    (λ i. choice_text
    (usable (Some
    (record { id = s.id i; hint = s.hint i; chain = s.chain i; key = s.key i; expiry = expiry i }))
    (Some t)))

sets_same : (xs ys : List (List ℕ × Bundle)) → same_set xs ys ≡ true
    → flat_map entry_text xs ≡ flat_map entry_text ys
sets_same [] [] e = refl
sets_same [] (y ∷ ys) e = cc
sets_same (x ∷ xs) [] e = cc
sets_same (x ∷ xs) (y ∷ ys) e =
    let p = both (entry_same x y) (same_set xs ys) e in
    let q = both (pointwise nat_eq x.0 y.0)
    (same_bag (pointwise nat_eq) x.1.authorities y.1.authorities) p.0 in
    let d = bytes_same x.0 y.0 q.0 in
    let l = ap (λ (zs : List (List ℕ)). hex_list (λ c. c) zs)
    (byte_bags_in_order x.1.authorities y.1.authorities q.1) in
    let r = sets_same xs ys p.1 in
    (λ i. (32 ∷ d i ++ 61 ∷ l i) ++ r i)

crls_same : (xs ys : List (List ℕ)) → same_bag (pointwise nat_eq) xs ys ≡ true
    → revocations_text xs ≡ revocations_text ys
crls_same [] [] e = refl
crls_same [] (y ∷ ys) e = cc
crls_same (x ∷ xs) [] e = cc
crls_same (x ∷ xs) (y ∷ ys) e =
    ap (λ (zs : List (List ℕ)). codes " #" ++ hex_list (λ c. c) zs)
    (byte_bags_in_order (x ∷ xs) (y ∷ ys) e)

pub material_shown : (m n : Material) (now : Option ℤ) → same_material m n ≡ true
    → visible_text (Permitted m) now ≡ visible_text (Permitted n) now
unfolding same_material
material_shown m n now e =
    let p = both (option_eq same_choice (chosen_of m) (chosen_of n)) _ e in
    let q = both (same_bag same_svid m.context.svids n.context.svids) _ p.1 in
    let r = both (same_set m.context.bundles n.context.bundles) _ q.1 in
    let a = chosen_same (chosen_of m) (chosen_of n) now p.0 in
    let b = sets_same m.context.bundles n.context.bundles r.0 in
    let c = crls_same m.context.crls n.context.crls r.1 in
    (λ i. codes " permitted" ++ a i ++ b i ++ c i)
