-- What is read as four decimal numbers is the address that they write.
use Rattle.std.proofs.Common.{◌≡◌, ℕ, ◌==◌, false, cond, length, arith, List, [], ◌∷◌, Option, None}
use Rattle.std.proofs.Common.{Some, refl, sym, ap, ◌∙◌, subst, lit≤}
use Rattle.std.proofs.lemmas.Bool.Decides.{nat_tests}
use Rattle.std.proofs.lemmas.List.{append-nil}
use Rattle.std.specs.Net.Grammar.{IsDotted}
use Rattle.std.specs.Net.Reader.{whole_value, read_ipv4}
use Rattle.std.proofs.NetLemmas.Ipv4.{read_ipv4_complete, read_ipv4_sound}

pub whole_ipv4 : (text octets : List ℕ) → IsDotted text octets
    → whole_value (read_ipv4 text) ≡ Some octets
whole_ipv4 text octets spelled =
    ap whole_value
    (ap read_ipv4 (sym (append-nil text)) ∙ read_ipv4_complete text octets [] spelled (lit≤ tt))

pub no_ipv4 : (text : List ℕ) → ((octets : List ℕ) → IsDotted text octets → ⊥)
    → whole_value (read_ipv4 text) ≡ None
no_ipv4 text never = at (read_ipv4 text) refl
  where
    at : (r : Option (List ℕ × List ℕ)) → read_ipv4 text ≡ r → whole_value (read_ipv4 text) ≡ None
    at None e = ap whole_value e
    at (Some (octets, [])) e =
        let sound = read_ipv4_sound text octets [] e in
        absurd (never octets
        (subst (λ (t : List ℕ). IsDotted t octets) (sym (sound.1 ∙ append-nil sound.0)) sound.2))
    at (Some (octets, c ∷ rest)) e =
        ap whole_value e
        ∙ ap (λ b. cond b (Some octets) None)
        (let more : (length (c ∷ rest) == 0) ≡ false = grind (arith, nat_tests) in more)
