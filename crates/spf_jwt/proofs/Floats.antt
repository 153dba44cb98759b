-- Numbers that are not whole, anywhere in a value.
use Rattle.std.proofs.Common.{◌≡◌, ℕ, zero, suc, ◌+◌, ◌<◌, Bool, true, false, List, [], ◌∷◌}
use Rattle.std.proofs.Common.{length, get_or, map, Option, Some, None, refl, sym, ap, ◌∙◌, arith}
use Rattle.std.proofs.Common.{Ordering, Less, Equal, Greater}
use Rattle.std.specs.Prelude.{◌||◌, option_and_then}
use Rattle.std.specs.Ordering.{match_ordering, nat_cmp}
use Rattle.std.specs.Cmp.Lexicographic.{slice_cmp}
use Rattle.serde_json.specs.Data.{Data, Items, Members, no_members, member, object, array, null}
use Rattle.serde_json.specs.Data.{boolean, number, string}
use Rattle.serde_json.specs.Find.{get, get_member, as_array}
use Rattle.std.proofs.Common.{drop}
use Rattle.std.proofs.lemmas.List.{drop_more}
use Rattle.serde_json.proofs.Views.{Entry}
use Rattle.serde_json.specs.View.{view, items_view, members_view}
use Rattle.serde_json.specs.Written.{has_float, items_have_float, members_have_float}
use Rattle.serde_json.specs.declared.value.Value.{Value}

first_false : (a b : Bool) → (a || b) ≡ false → a ≡ false
first_false true b h = h
first_false false b h = refl

second_false : (a b : Bool) → (a || b) ≡ false → b ≡ false
second_false true b h = absurd (cc)
second_false false b h = h

-- an item of whole numbers
pub whole_item : (vs : List Value) (i : ℕ) (v : Value) → items_have_float (items_view vs) ≡ false
    → i < length vs → v ≡ get_or vs i v → has_float (view v) ≡ false
whole_item [] i v whole lt is = absurd (omega arith)
whole_item (w ∷ vs) zero v whole lt is =
    ap (λ (x : Value). has_float (view x)) is
    ∙ first_false (has_float (view w)) (items_have_float (items_view vs)) whole
whole_item (w ∷ vs) (suc i) v whole lt is =
    whole_item vs i v (second_false (has_float (view w)) (items_have_float (items_view vs)) whole)
    (omega arith) is

found : (o : Ordering) (e d : Data) (rest : Option Data) → has_float e ≡ false
    → (rest ≡ Some d → has_float d ≡ false)
    → match_ordering o rest (Some e) rest ≡ Some d → has_float d ≡ false
found Less e d rest here later is = later is
found Equal e d rest here later is = let same : e ≡ d = cc in ap has_float (sym same) ∙ here
found Greater e d rest here later is = later is

whole_member : (k : List ℕ) (ms : Members) (d : Data) → members_have_float ms ≡ false
    → get_member k ms ≡ Some d → has_float d ≡ false
whole_member k no_members d whole is = absurd (cc)
whole_member k (member l e ms) d whole is =
    found (slice_cmp nat_cmp k l) e d (get_member k ms)
    (first_false (has_float e) (members_have_float ms) whole)
    (whole_member k ms d (second_false (has_float e) (members_have_float ms) whole)) is

-- a member of an object of whole numbers
pub whole_at : (k : List ℕ) (d e : Data) → has_float d ≡ false → get k d ≡ Some e
    → has_float e ≡ false
whole_at k null e whole is = absurd (cc)
whole_at k (boolean b) e whole is = absurd (cc)
whole_at k (number n) e whole is = absurd (cc)
whole_at k (string s) e whole is = absurd (cc)
whole_at k (array ds) e whole is = absurd (cc)
whole_at k (object ms) e whole is = whole_member k ms e whole is

array_items : (o : Option Data) (items : Items) → option_and_then as_array o ≡ Some items
    → o ≡ Some (array items)
array_items None items is = absurd (cc)
array_items (Some null) items is = absurd (cc)
array_items (Some (boolean b)) items is = absurd (cc)
array_items (Some (number n)) items is = absurd (cc)
array_items (Some (string s)) items is = absurd (cc)
array_items (Some (object ms)) items is = absurd (cc)
array_items (Some (array ds)) items is =
    let same : ds ≡ items = cc in
    ap (λ xs. Some (array xs)) same

-- an array in an object of whole numbers
pub whole_items : (k : List ℕ) (d : Data) (items : Items) → has_float d ≡ false
    → option_and_then as_array (get k d) ≡ Some items → items_have_float items ≡ false
whole_items k d items whole is = whole_at k d (array items) whole (array_items (get k d) items is)

-- the values of an object
pub of_values : (es : List Entry)
    → items_have_float (items_view (map (λ (e : Entry). e.1) es))
    ≡ members_have_float (members_view es)
of_values [] = refl
of_values (e ∷ es) = ap (λ b. has_float (view e.1) || b) (of_values es)

pub skips : (v : Value) (vs : List Value) → has_float (view v) ≡ false
    → items_have_float (items_view (v ∷ vs)) ≡ items_have_float (items_view vs)
skips v vs whole = rw whole refl

pub finds : (v : Value) (vs : List Value) → has_float (view v) ≡ true
    → items_have_float (items_view (v ∷ vs)) ≡ true
finds v vs float = rw float refl

pub next_item : (vs : List Value) (i : ℕ) (v : Value) → i < length vs → v ≡ get_or vs i v
    → drop i vs ≡ v ∷ drop (i + 1) vs
next_item vs i v lt is =
    drop_more vs i v lt ∙ ap (λ (w : Value). w ∷ drop (i + 1) vs) (sym is)
