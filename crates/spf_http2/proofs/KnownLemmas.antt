-- Known octets, of which some are pending.
use Rattle.std.proofs.Common.{◌≡◌, ◌∙◌, ℕ, List, ◌++◌, Option, Some, None, ap, sym, append_assoc}
use Rattle.std.specs.Io.KnownBytes.{Keeps, Consumes, prepend_known}

pub prepend_kept : (a b : Option (List ℕ)) (p q : List ℕ) → Keeps a b → q ≡ p
    → Keeps (prepend_known p a) (prepend_known q b)
prepend_kept None b p q kept is = tt
prepend_kept (Some x) None p q kept is = absurd kept
prepend_kept (Some x) (Some y) p q kept is =
    ap (λ (l : List ℕ). l ++ y) is ∙ ap (λ (l : List ℕ). p ++ l) kept

-- what a read took is pending
pub prepend_moved : (a b : Option (List ℕ)) (p q come : List ℕ) → Consumes a b come
    → q ≡ p ++ come → Keeps (prepend_known p a) (prepend_known q b)
prepend_moved None b p q come took is = tt
prepend_moved (Some x) None p q come took is = absurd took
prepend_moved (Some x) (Some y) p q come took is =
    ap (λ (l : List ℕ). l ++ y) is ∙ append_assoc p come y
    ∙ ap (λ (l : List ℕ). p ++ l) (sym took)
