-- Of entries with the same name the last is kept.
use Rattle.std.proofs.Common.{◌≡◌, ◌∙◌, ℕ, List, [], ◌∷◌, ◌++◌, Bool, true, false, cond, refl, sym}
use Rattle.std.proofs.Common.{◌<◌, ap, append_assoc, arith, Bor, length, map, reverse}
use Rattle.std.proofs.lemmas.List.{reverse-append}
use Rattle.std.specs.Prelude.{nat_eq, ◌||◌}
use Rattle.std.specs.Cmp.Lexicographic.{pointwise, texts_ties}
use Rattle.std.specs.List.{list_any}
use Rattle.std.specs.BTreeSet.{BTreeSet, contains, Updates}
use Rattle.spf_api.specs.declared.response.BundleEntryView.{BundleEntryView}
use Rattle.spf_api.specs.declared.response.BundleEntry.{BundleEntry}
use Rattle.spf_api.specs.Views.{bundle_entry_of}
use Rattle.spf_proto.specs.Message.{has_name, last_of_each}
use Rattle.spf_proto.specs.Members.{text_cmp, KeptWith}

-- which entries are looked at, from the last on, and which of them are kept
pub record Kept (entries left kept : List BundleEntryView)
    (later : BTreeSet (Bor (List ℕ))) : Type 0 where
  pub done : List BundleEntryView
  pub all : left ++ done ≡ entries
  pub last : last_of_each (map bundle_entry_of done) ≡ map bundle_entry_of (reverse kept)
  pub names : (q : Bor (List ℕ))
      → contains text_cmp later q ≡ list_any (has_name q.now) (map bundle_entry_of done)

one_more : (entries left before done : List BundleEntryView) (e : BundleEntryView)
    → left ≡ before ++ e ∷ []
    → left ++ done ≡ entries → before ++ e ∷ done ≡ entries
one_more entries left before done e is all =
    sym (append_assoc before (e ∷ []) done) ∙ ap (λ (l : List BundleEntryView). l ++ done) (sym is)
    ∙ all

or_else : (test has : Bool) → cond test true has ≡ (test || has)
or_else true has = refl
or_else false has = refl

named : (later next : BTreeSet (Bor (List ℕ))) (done : List BundleEntryView) (e : BundleEntryView)
    → Updates text_cmp later next e.name true
    → ((q : Bor (List ℕ))
    → contains text_cmp later q ≡ list_any (has_name q.now) (map bundle_entry_of done))
    → (q : Bor (List ℕ))
    → contains text_cmp next q ≡ list_any (has_name q.now) (map bundle_entry_of (e ∷ done))
named later next done e updates names q =
    updates.0 q ∙ (λ i. cond (sym (texts_ties e.name.now q.now) i) true (names q i))
    ∙ or_else (pointwise nat_eq e.name.now q.now)
    (list_any (has_name q.now) (map bundle_entry_of done))

last_with : (met : Bool) (e : BundleEntryView) (done kept next : List BundleEntryView)
    → next ≡ cond met kept (kept ++ e ∷ [])
    → met ≡ list_any (has_name e.name.now) (map bundle_entry_of done)
    → last_of_each (map bundle_entry_of done) ≡ map bundle_entry_of (reverse kept)
    → last_of_each (map bundle_entry_of (e ∷ done)) ≡ map bundle_entry_of (reverse next)
last_with true e done kept next is has last =
    rw (sym has)
    (last ∙ ap (λ (l : List BundleEntryView). map bundle_entry_of (reverse l)) (sym is))
last_with false e done kept next is has last =
    rw (sym has) (ap (λ (l : List BundleEntry). bundle_entry_of e ∷ l) last
    ∙ ap (map bundle_entry_of) (sym (reverse-append kept (e ∷ [])))
    ∙ ap (λ (l : List BundleEntryView). map bundle_entry_of (reverse l)) (sym is))

-- one more entry was looked at
pub kept_with : (entries left before kept next : List BundleEntryView)
    (names met : BTreeSet (Bor (List ℕ))) (e : BundleEntryView)
    → left ≡ before ++ e ∷ [] → KeptWith e kept next names met → Kept entries left kept names
    → Kept entries before next met
kept_with entries left before kept next names met e is step k = record {
  done = e ∷ k.done;
  all = one_more entries left before k.done e is k.all;
  last = last_with (contains text_cmp names e.name) e k.done kept next step.kept (k.names e.name)
      k.last;
  names = named names met k.done e step.met_too k.names;
}

-- all were looked at
pub kept_last : (entries left kept result : List BundleEntryView) (names : BTreeSet (Bor (List ℕ)))
    → left ≡ [] → result ≡ reverse kept → Kept entries left kept names
    → map bundle_entry_of result ≡ last_of_each (map bundle_entry_of entries)
kept_last entries left kept result names none is k =
    let done : k.done ≡ entries =
    ap (λ (l : List BundleEntryView). l ++ k.done) (sym none) ∙ k.all in
    ap (map bundle_entry_of) is ∙ sym k.last
    ∙ ap (λ (l : List BundleEntryView). last_of_each (map bundle_entry_of l)) done

-- a list that is too short to have a name twice
pub last_of_few : (entries : List BundleEntryView) → length entries < 2
    → last_of_each (map bundle_entry_of entries) ≡ map bundle_entry_of entries
last_of_few [] few = refl
last_of_few (e ∷ []) few = refl
last_of_few (e ∷ f ∷ es) few = absurd (omega (arith, few))
