use Rattle.std.proofs.Common.{ℕ, ◌<◌, ◌∙◌, List, refl, sym, subst, ap, arith}
use Rattle.std.specs.Option.{option_map}
use Rattle.std.specs.Borrow.{Bor}
use Rattle.std.proofs.lemmas.List.Elements.{All-from_get_or}
use Rattle.spf_io.proofs.Exact.{bytes_exact}
use Rattle.spf_der.specs.Grammar.{CertsOf}
use Rattle.spf_x509.specs.Chain.{IsSvid}
use Rattle.spf_x509.specs.Svid.{Svid}
use Rattle.spf_x509.proofs.Cuts.{svid_exact}
use Rattle.spf_x509.proofs.svid.X509Svid.is_parsed_from.Goals as goal

pub returns-then-not-is_concatenation : goal.returns-then-not-is_concatenation
returns-then-not-is_concatenation c =
    let octets =
    All-from_get_or (λ (b : ℕ). b < 256) c.args.chain.now 0
    (λ i lt. omega (arith, c.type_inv.chain i)) in
    let hint = option_map (λ (t : Bor (List ℕ)). t.now) c.args.hint in
    let exact =
    svid_exact c.args.chain.now c.args.key.now hint c.args.self.now octets
    (subst IsSvid c.self.view_is c.self.invariant.1) in
    let chain = c.as_slice.ensures ∙ ap (λ (s : Svid). s.chain) c.self.view_is in (
      λ yes. absurd (cc (yes)),
      λ is. c.if-not-is_concatenation.ensures.1
          (subst (CertsOf c.args.chain.now) (sym chain) (exact.1 is).2),
    )

pub returns-then-not-is_same_hint : goal.returns-then-not-is_same_hint
returns-then-not-is_same_hint c =
    let octets =
    All-from_get_or (λ (b : ℕ). b < 256) c.args.chain.now 0
    (λ i lt. omega (arith, c.type_inv.chain i)) in
    let hint = option_map (λ (t : Bor (List ℕ)). t.now) c.args.hint in
    let exact =
    svid_exact c.args.chain.now c.args.key.now hint c.args.self.now octets
    (subst IsSvid c.self.view_is c.self.invariant.1) in (
      λ yes. absurd (cc (yes)),
      λ is. c.if-not-is_same_hint.ensures.1 ((exact.1 is).1 ∙ sym c.hint.ensures),
    )

pub returns : goal.returns
returns c =
    let octets =
    All-from_get_or (λ (b : ℕ). b < 256) c.args.chain.now 0
    (λ i lt. omega (arith, c.type_inv.chain i)) in
    let hint = option_map (λ (t : Bor (List ℕ)). t.now) c.args.hint in
    let exact =
    svid_exact c.args.chain.now c.args.key.now hint c.args.self.now octets
    (subst IsSvid c.self.view_is c.self.invariant.1) in
    let key = c.as_bytes.ensures.value ∙ c.get.ensures ∙ ap (λ (s : Svid). s.key) c.self.view_is in
    let chain = c.as_slice.ensures ∙ ap (λ (s : Svid). s.chain) c.self.view_is in (
      λ yes. exact.0 (
        (bytes_exact _ _).0 (sym c.eq.ensures ∙ yes) ∙ key,
        c.if-not-is_same_hint.ensures.0 refl ∙ c.hint.ensures,
        subst (CertsOf c.args.chain.now) chain (c.if-not-is_concatenation.ensures.0 refl),
      ),
      λ is. c.eq.ensures ∙ (bytes_exact _ _).1 ((exact.1 is).0 ∙ sym key),
    )
