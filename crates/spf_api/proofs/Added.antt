-- What the entries of a response bring, as a loop adds it.
use Rattle.std.proofs.Common.{◌≡◌, ℕ, ◌+◌, ◌<◌, ◌≤◌, List, [], ◌∷◌, ◌++◌, length, false, eqb}
use Rattle.std.proofs.Common.{get_or, take, map, Result, Ok, Err, refl, sym, ap, ◌∙◌}
use Rattle.std.proofs.lemmas.List.{map-append, map_push, take_all}
use Rattle.spf_io.specs.Rule.{each}
use Rattle.spf_io.proofs.Each.{each_more, each_fails}
use Rattle.spf_x509.specs.Svid.{Svid}
use Rattle.spf_x509.specs.Bundle.{Bundle, with_entry, with_entries, with_bundles}
use Rattle.spf_api.specs.declared.error.WorkloadApiError.{WorkloadApiError}
use Rattle.spf_api.specs.declared.response.BundleEntry.{BundleEntry}
use Rattle.spf_api.specs.declared.response.BundlesResponse.{BundlesResponse}
use Rattle.spf_api.specs.declared.response.ContextResponse.{ContextResponse}
use Rattle.spf_api.specs.Parsed.{entries_rule, pair_of, pairs_of}
use Rattle.spf_api.specs.Parsed.{named_bundle_of, read_as, svids_in, bundles_in, brought_to}
use Rattle.spf_api.specs.Parsed.{parsed_of, bundle_set_of}

abbrev pub Set : Type 0
Set = List (List ℕ × Bundle)

entries-append : {V : Type 0} (es fs gs : List (List ℕ × V))
    → with_entries es (fs ++ gs) ≡ with_entries (with_entries es fs) gs
entries-append es [] gs = refl
entries-append es (f ∷ fs) gs = entries-append (with_entry es f.0 f.1) fs gs

-- bundles and then others are added
pub bundles-append : (set : Set) (bs cs : List Bundle)
    → with_bundles set (bs ++ cs) ≡ with_bundles (with_bundles set bs) cs
bundles-append set bs cs =
    ap (with_entries set) (map-append (λ (b : Bundle). (b.domain, b)) bs cs)
    ∙ entries-append set (map (λ (b : Bundle). (b.domain, b)) bs)
    (map (λ (b : Bundle). (b.domain, b)) cs)

-- one more bundle is put in its place
pub bundle_more : (old now next : Set) (bs : List Bundle) (b : Bundle)
    → now ≡ with_bundles old bs → next ≡ with_entry now b.domain b
    → next ≡ with_bundles old (bs ++ b ∷ [])
bundle_more old now next bs b is put =
    put ∙ ap (λ (s : Set). with_entry s b.domain b) is ∙ sym (bundles-append old bs (b ∷ []))

-- the members name bundles, which stand in the set
pub record Named {A : Type 0} (rule : A → Result Bundle WorkloadApiError) (members : List A)
    (old now : Set) : Type 0 where
  pub bundles : List Bundle
  pub read : each rule members ≡ Ok bundles
  pub stand : now ≡ with_bundles old bundles

pub named_more : {A : Type 0} (rule : A → Result Bundle WorkloadApiError) (xs : List A) (i : ℕ)
    (x : A) (old now next : Set) (b : Bundle)
    → Named rule (take i xs) old now → i < length xs → x ≡ get_or xs i x → rule x ≡ Ok b
    → next ≡ with_entry now b.domain b
    → Named rule (take (i + 1) xs) old next
named_more rule xs i x old now next b named lt is reads put = record {
  bundles = named.bundles ++ b ∷ [];
  read = each_more rule xs i x named.bundles b named.read lt is reads;
  stand = bundle_more old now next named.bundles b named.stand put;
}

pub named_fails : {A : Type 0} (rule : A → Result Bundle WorkloadApiError) (xs : List A) (i : ℕ)
    (x : A) (old now : Set) (e : WorkloadApiError)
    → Named rule (take i xs) old now → i < length xs → x ≡ get_or xs i x → rule x ≡ Err e
    → read_as (with_bundles old) (each rule xs) ≡ Err e
named_fails rule xs i x old now e named lt is broken =
    ap (read_as (with_bundles old)) (each_fails rule xs i x named.bundles e named.read lt is broken)

pub named_all : {A : Type 0} (rule : A → Result Bundle WorkloadApiError) (xs : List A) (i : ℕ)
    (old now : Set)
    → Named rule (take i xs) old now → length xs ≤ i
    → read_as (with_bundles old) (each rule xs) ≡ Ok now
named_all {A} rule xs i old now named le =
    ap (λ (l : List A). read_as (with_bundles old) (each rule l)) (sym (take_all i xs le))
    ∙ ap (read_as (with_bundles old)) named.read ∙ ap Ok (sym named.stand)

-- the members bring SVIDs
pub record Brought {A : Type 0} (rule : A → Result (Svid × Bundle) WorkloadApiError)
    (members : List A) (svids : List Svid) : Type 0 where
  pub materials : List (Svid × Bundle)
  pub read : each rule members ≡ Ok materials
  pub are : svids ≡ svids_in materials

pub brought_more : {A : Type 0} (rule : A → Result (Svid × Bundle) WorkloadApiError) (xs : List A)
    (i : ℕ) (x : A) (svids : List Svid) (m : Svid × Bundle)
    → Brought rule (take i xs) svids → i < length xs → x ≡ get_or xs i x → rule x ≡ Ok m
    → Brought rule (take (i + 1) xs) (svids ++ m.0 ∷ [])
brought_more rule xs i x svids m brought lt is reads = record {
  materials = brought.materials ++ m ∷ [];
  read = each_more rule xs i x brought.materials m brought.read lt is reads;
  are = ap (λ (l : List Svid). l ++ m.0 ∷ []) brought.are
      ∙ sym (map_push (λ (n : Svid × Bundle). n.0) brought.materials m);
}

-- what each member brings
pub brought_are : {A : Type 0} (rule : A → Result (Svid × Bundle) WorkloadApiError) (xs : List A)
    (i : ℕ) (svids : List Svid)
    → (brought : Brought rule (take i xs) svids) → length xs ≤ i
    → each rule xs ≡ Ok brought.materials
brought_are {A} rule xs i svids brought le =
    ap (λ (l : List A). each rule l) (sym (take_all i xs le)) ∙ brought.read

-- the members bring SVIDs, and their bundles stand in the set
pub record Placed {A : Type 0} (rule : A → Result (Svid × Bundle) WorkloadApiError)
    (members : List A) (svids : List Svid) (old now : Set) : Type 0 where
  pub brought : Brought rule members svids
  pub stand : now ≡ with_bundles old (bundles_in brought.materials)

pub placed_more : {A : Type 0} (rule : A → Result (Svid × Bundle) WorkloadApiError) (xs : List A)
    (i : ℕ) (x : A) (svids : List Svid) (old now next : Set) (m : Svid × Bundle)
    → Placed rule (take i xs) svids old now → i < length xs → x ≡ get_or xs i x → rule x ≡ Ok m
    → next ≡ with_entry now m.1.domain m.1
    → Placed rule (take (i + 1) xs) (svids ++ m.0 ∷ []) old next
unfolding brought_more
placed_more rule xs i x svids old now next m placed lt is reads put = record {
  brought = brought_more rule xs i x svids m placed.brought lt is reads;
  stand = bundle_more old now next (bundles_in placed.brought.materials) m.1 placed.stand put
      ∙ ap (with_bundles old)
      (sym (map_push (λ (n : Svid × Bundle). n.1) placed.brought.materials m));
}

-- a member breaks a rule
pub brought_fails : {A B : Type 0} (rule : A → Result (Svid × Bundle) WorkloadApiError)
    (xs : List A) (i : ℕ) (x : A) (svids : List Svid) (e : WorkloadApiError)
    → (f : List (Svid × Bundle) → B) → Brought rule (take i xs) svids → i < length xs
    → x ≡ get_or xs i x → rule x ≡ Err e
    → read_as f (each rule xs) ≡ Err e
brought_fails rule xs i x svids e f brought lt is broken =
    ap (read_as f) (each_fails rule xs i x brought.materials e brought.read lt is broken)

-- all members keep their rule
pub brought_all : {A : Type 0} (rule : A → Result (Svid × Bundle) WorkloadApiError) (xs : List A)
    (i : ℕ) (svids : List Svid)
    → Brought rule (take i xs) svids → length xs ≤ i → read_as svids_in (each rule xs) ≡ Ok svids
brought_all rule xs i svids brought le =
    ap (read_as svids_in) (brought_are rule xs i svids brought le) ∙ ap Ok (sym brought.are)

pub placed_all : {A : Type 0} (rule : A → Result (Svid × Bundle) WorkloadApiError) (xs : List A)
    (i : ℕ) (svids : List Svid) (old now : Set)
    → Placed rule (take i xs) svids old now → length xs ≤ i
    → read_as (brought_to old) (each rule xs) ≡ Ok (svids, now)
placed_all rule xs i svids old now placed le =
    ap (read_as (brought_to old)) (brought_are rule xs i svids placed.brought le)
    ∙ (λ k. Ok (sym placed.brought.are k, sym placed.stand k))

-- what was read, where it was
pub read_ok : {A B E : Type 0} (f : A → B) (r : Result A E) (y : B) → read_as f r ≡ Ok y
    → (x : A) × (r ≡ Ok x) × (f x ≡ y)
read_ok f (Ok x) y is = (x, refl, cc)
read_ok f (Err e) y is = absurd cc

-- why nothing was read
pub read_err : {A B E : Type 0} (f : A → B) (r : Result A E) (e : E) → read_as f r ≡ Err e
    → r ≡ Err e
read_err f (Ok x) e is = absurd cc
read_err f (Err d) e is = let same : d ≡ e = cc in ap Err same

-- the context of a response
pub parsed_is : (r : ContextResponse) (svids : List Svid) (own all : Set)
    → entries_rule r.svids ≡ Ok tt
    → read_as (brought_to []) (each pair_of r.svids) ≡ Ok (svids, own)
    → read_as (with_bundles own) (each named_bundle_of r.federated) ≡ Ok all
    → parsed_of r ≡ Ok (record { svids = svids; bundles = all; crls = r.crls })
unfolding parsed_of pairs_of
parsed_is r svids own all kept brought named =
    let m = read_ok (brought_to []) (each pair_of r.svids) (svids, own) brought in
    let f = read_ok (with_bundles own) (each named_bundle_of r.federated) all named in
    let are : svids_in m.0 ≡ svids = ap (λ (p : List Svid × Set). p.0) m.2 in
    let owned : with_bundles [] (bundles_in m.0) ≡ own = ap (λ (p : List Svid × Set). p.1) m.2 in
    let stand : with_bundles [] (bundles_in m.0 ++ f.0) ≡ all =
    bundles-append [] (bundles_in m.0) f.0 ∙ ap (λ (s : Set). with_bundles s f.0) owned ∙ f.2 in
    rw (kept, m.1, f.1) (λ k. Ok (record { svids = are k; bundles = stand k; crls = r.crls }))

-- the set of a bundles response
pub bundle_set_is : (r : BundlesResponse) (xs : List BundleEntry)
    (answer : Result Set WorkloadApiError) → xs ≡ r.bundles → eqb (length xs) 0 ≡ false
    → read_as (with_bundles []) (each named_bundle_of xs) ≡ answer → bundle_set_of r ≡ answer
unfolding bundle_set_of
bundle_set_is r xs answer same some is = rw (← same, some) is
