-- The keys of a key set.
use Rattle.std.proofs.Common.{◌≡◌, List, [], ◌∷◌, map, Some, refl, sym, ap}
use Rattle.std.specs.Prelude.{Result, Ok, codes, option_and_then}
use Rattle.serde_json.specs.Data.{Data}
use Rattle.serde_json.specs.Find.{get, as_str, as_array}
use Rattle.serde_json.specs.View.{view, items_of, items_view}
use Rattle.serde_json.specs.declared.value.Value.{Value}
use Rattle.spf_io.specs.Rule.{◌>>=◌, each}
use Rattle.std.proofs.Common.{false, length}
use Rattle.std.specs.Prelude.{◌==◌}
use Rattle.spf_jwt.specs.Json.{list_of}
use Rattle.spf_jwt.specs.Token.{text_rule, texts_rule}
use Rattle.spf_jwt.specs.Authority.{key_rule, keys_rule}

list_of-items_of : (ds : List Data) → list_of (items_of ds) ≡ ds
list_of-items_of [] = refl
list_of-items_of (d ∷ ds) = ap (λ (es : List Data). d ∷ es) (list_of-items_of ds)

-- a rule for what values are
each_viewed : {B E : Type 0} (f : Data → Result B E) (vs : List Value)
    → each (λ v. f (view v)) vs ≡ each f (map view vs)
each_viewed f [] = refl
each_viewed {B} {E} f (v ∷ vs) =
    ap (λ (r : Result (List B) E). f (view v) >>= λ y. r >>= λ ys. Ok (y ∷ ys)) (each_viewed f vs)

-- the keys of an object with that array
pub keys_are : (d : Data) (vs : List Value)
    → Some (items_view vs) ≡ option_and_then as_array (get (codes "keys") d)
    → keys_rule d ≡ each (λ v. key_rule (view v)) vs
unfolding keys_rule
keys_are d vs is =
    rw (← is, list_of-items_of (map view vs)) (sym (each_viewed key_rule vs))

-- the texts of a list that is not empty
pub texts_are : (vs : List Value) → (length vs == 0) ≡ false
    → texts_rule (list_of (items_view vs)) ≡ each (λ v. text_rule (as_str (view v))) vs
texts_are [] some = absurd (cc)
texts_are (v ∷ vs) some =
    rw (list_of-items_of (map view vs))
    (sym (each_viewed (λ (d : Data). text_rule (as_str d)) (v ∷ vs)))
