-- How a `List<T>` may stand inside the type T itself, as in a tree
-- whose nodes keep a list of nodes: a list of values is laid out as
-- its vector is, and renaming what stands in T renames it in the list.
use mathlib.Core.Path.{◌≡◌, refl, sym}
use mathlib.Core.List.{List, []}
use mathlib.Core.Former.{Former, this, list, via, children}
use base.Stored.{code_map}
use denote.RattleType.{RattleType}
use denote.HoleLaws.{Alike}
use denote.HolePlaces.{Recodes, struct_places, laid}
use denote.Hole.Carrier.{listed, list-listed}
use denote.Hole.Fix.{over}
use denote.Param.Weighed.{Weighed, w_list}
use denote.Model.Placed.{view_places}
use Rattle.std.specs.formers.vec.Vec as vector
use Rattle.std.specs.declared.alloc.Global.{Global}
use Rattle.std.specs.contracts.alloc.Global as global
use Rattle.std.specs.contracts.impls.GlobalAllocator.TheImpl.{ghosts}
use Rattle.spf_io.specs.declared.list.List.TheInside.{Inside}
use Rattle.spf_io.specs.declared.list.List.TheView.{view, invariant}
use Rattle.spf_io.specs.contracts.list.List as whole
use Rattle.spf_io.specs.contracts.list.List.TheInside as inner

-- the shape: a list of what stands at the hole
abbrev pub the_former : Former {0} → Former {0}
the_former member = list member

abbrev pub the_weighed : {member : Former {0}} → Weighed member → Weighed (the_former member)
the_weighed weights = w_list weights

-- the members of a list, as a list
pub the_empty : List ⊥
the_empty = []

abbrev pub the_items : (X : Type 0) → List X → List X
the_items X members = members

pub the_items_listed : (X : Type 0) (members : List X)
    → listed _ (children (the_former this) X members) ≡ the_items X members
the_items_listed X members = list-listed X members

-- the struct around the vector
abbrev around : Former {0}
around = via (vector.the_former this Global) Inside (λ X l. l.items) (λ X v. record { items = v })
    (λ X l. refl) (λ X v. refl)

-- the laws of the layout, at a map from one type of members to another
module _ (A B : RattleType) (f : A.Denot → B.Denot) where
  pub the_places : Alike A B f
      → Alike (whole.the_row A) (whole.the_row B) ((the_former this).map A.Denot B.Denot f)
  the_places alike =
      view_places around (list this) view (λ X Y k u. refl) (λ X u. refl) A.Denot B.Denot f
      (whole.the_row A).coded (whole.the_row B).coded
      (invariant A.Denot) (invariant B.Denot) (λ u p q. refl) (λ u p q. refl) (λ u e. tt)
      (λ u e. tt)
      (over (inner.the_row A)) (over (inner.the_row B))
      (struct_places (inner.the_type A) (inner.the_type B) (vector.mapped f, tt) _ (λ d. refl) refl
      (laid _ _ _ (vector.the_places global.the_row ghosts A B f alike), tt))

  pub the_codes_placed : Recodes A B f
      → Recodes (whole.the_row A) (whole.the_row B) ((the_former this).map A.Denot B.Denot f)
  the_codes_placed recodes d = sym (code_map A.coded.code B.coded.code f (λ x. sym (recodes x)) d)
