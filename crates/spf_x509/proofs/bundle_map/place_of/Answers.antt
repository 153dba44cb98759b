use Rattle.std.proofs.Common.{◌≡◌, ◌+◌, ◌-◌, ◌∷◌, ℕ, drop, sym, subst, arith}
use Rattle.std.specs.declared.sync.Arc.{Arc}
use Rattle.std.specs.declared.alloc.Global.{Global}
use Rattle.spf_x509.specs.Bundle.{Bundle, with_entry}
use Rattle.spf_x509.specs.BundleMap.{GoesAt}
use Rattle.spf_x509.proofs.Placed.{goes_at, stands_at}
use Rattle.spf_x509.proofs.bundle_map.place_of.Goals as goal

pub returns-in-Greater : goal.returns-in-Greater
returns-in-Greater c =
    let l = c.loop-index in
    let es = c.args.entries.now in
    let k = c.args.trust_domain.now in
    let next : l.index ≡ l.index - 1 + 1 = omega arith in
    let Before : ℕ → Type 0 =
    λ i. (v : Arc Bundle Global) → with_entry (drop i es) k v ≡ (k, v) ∷ drop i es in
    subst (λ (i : ℕ). GoesAt es k i) (sym next)
    (goes_at es k (l.index - 1) c.index-entries-index.result (omega arith)
    c.requires (sym c.in-Greater.ensures)
    (subst Before next l.invariant.before))

pub returns-in-Equal : goal.returns-in-Equal
returns-in-Equal c =
    let l = c.loop-index in
    stands_at c.args.entries.now c.args.trust_domain.now (l.index - 1)
    c.index-entries-index.result (omega arith) c.requires
    (sym c.in-Equal.ensures)
