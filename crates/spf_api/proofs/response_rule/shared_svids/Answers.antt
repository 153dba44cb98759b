use Rattle.std.proofs.Common.{◌≡◌, List, [], ◌∷◌, ◌++◌, get_or, map, refl, ap, sym}
use Rattle.std.proofs.Common.{◌∙◌, subst, arith}
use Rattle.std.proofs.lemmas.List.{map_push}
use Rattle.std.proofs.lemmas.Result.{err_from_is_err_and}
use Rattle.std.specs.Arc.{arc_value}
use Rattle.std.specs.declared.sync.Arc.{Arc}
use Rattle.std.specs.declared.alloc.Global.{Global}
use Rattle.spf_io.proofs.Each.{unless}
use Rattle.spf_x509.specs.Svid.{Svid}
use Rattle.spf_api.specs.Errors.{is_memory_api}
use Rattle.spf_api.specs.Views.{svid_entry_of}
use Rattle.spf_api.specs.Parsed.{pair_of, read_as, brought_to, with_bundle}
use Rattle.spf_api.specs.Parsed.{with_material}
use Rattle.spf_api.proofs.Added.{Set, placed_more, brought_fails, placed_all, read_ok, read_err}
use Rattle.spf_api.proofs.Rules.{each-map, get_or_same, no_entry}
use Rattle.spf_api.specs.Sharing.{IsAdded}
use Rattle.spf_api.proofs.Stays.{entry_is_added, last_is}
use Rattle.spf_api.proofs.response_rule.shared_svids.Goals as goal

pub loop-entry-init : goal.loop-entry-init
loop-entry-init c = (
  record {
    brought = record {
      materials = [];
      read = refl;
      are = ap (map arc_value) c.in_ok-svids.ensures.items;
    };
    stand = refl;
  },
  λ svid found.
      absurd (cc (rw c.in_ok-svids.ensures.items at found)),
)

pub loop-entry-preserved : goal.loop-entry-preserved
loop-entry-preserved c =
    let xs = c.args.entries.now in
    let i = c.loop-entry.entry-index in
    let x = get_or xs i no_entry in
    let svids : List (Arc Svid Global) = c.loop-entry.svids.items in
    let pushed : map arc_value c.push.new.self.items
    ≡ map arc_value svids ++ arc_value c.in_ok-svid.svid ∷ [] =
    ap (map arc_value) c.in_ok-push.ensures.items ∙ map_push arc_value svids c.in_ok-svid.svid in
    let rule = pair_of (svid_entry_of x) in
    let m = read_ok (with_material c.loop-entry.bundles) rule _ c.in_ok-svid.ensures in
    let svid : m.0.0 ≡ arc_value c.in_ok-svid.svid = ap (λ (p : Svid × Set). p.0) m.2 in
    let next : c.shared_material.new.bundles ≡ with_bundle c.loop-entry.bundles m.0.1 =
    ap (λ (p : Svid × Set). p.1) (sym m.2) in
    let added = entry_is_added (svid_entry_of x) c.loop-entry.bundles c.shared_material.new.bundles
    m.0 m.1 next in (
      rw (pushed, ← svid)
          (placed_more (λ v. pair_of (svid_entry_of v)) xs i x (map arc_value svids)
          c.args.bundles.now c.loop-entry.bundles c.shared_material.new.bundles m.0
          c.loop-entry.invariant.0 c.loop-entry-test.true
          (get_or_same xs i no_entry x c.loop-entry-test.true) m.1 next),
      λ last found.
          let is : c.in_ok-svid.svid ≡ last =
          last_is svids c.in_ok-svid.svid last (rw c.in_ok-push.ensures.items at found) in
          subst (λ (z : Svid). IsAdded c.shared_material.new.bundles z.id.domain x.bundle.now)
          (svid ∙ ap arc_value is) added,
    )

pub returns-in_err-svid : goal.returns-in_err-svid
returns-in_err-svid c =
    let residual = c.from_residual-in_err-svid in
    let p = err_from_is_err_and residual.result residual.ensures.1 in
    let e = c.in_err-svid.field-0.0 in
    let xs = c.args.entries.now in
    let i = c.loop-entry.entry-index in
    let x = get_or xs i no_entry in
    rw (p.1, p.2)
    (unless (is_memory_api e)
    (λ broken. ap (read_as (brought_to c.args.bundles.now))
    (each-map pair_of svid_entry_of xs)
    ∙ brought_fails (λ v. pair_of (svid_entry_of v)) xs i x
    (map arc_value c.loop-entry.svids.items) e (brought_to c.args.bundles.now)
    c.loop-entry.invariant.0.brought c.loop-entry-test.true
    (get_or_same xs i no_entry x c.loop-entry-test.true)
    (read_err (with_material c.loop-entry.bundles) (pair_of (svid_entry_of x)) e broken))
    c.in_err-svid.ensures)

pub returns : goal.returns
returns c =
    let xs = c.args.entries.now in
    ap (read_as (brought_to c.args.bundles.now)) (each-map pair_of svid_entry_of xs)
    ∙ placed_all (λ v. pair_of (svid_entry_of v)) xs c.loop-entry.entry-index
    (map arc_value c.loop-entry.svids.items) c.args.bundles.now c.loop-entry.bundles
    c.loop-entry.invariant.0 (omega arith)
