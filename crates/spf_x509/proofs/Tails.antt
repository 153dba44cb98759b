-- The certificates after the leaf of one SVID, in the chain of another.
use Rattle.std.proofs.Common.{◌≡◌, ℕ, List, [], ◌∷◌, ◌++◌, take, drop}
use Rattle.std.proofs.Common.{Option, Ok, ℤ, refl, sym, ap, ◌∙◌, subst}
use Rattle.std.proofs.lemmas.List.{append_cancel_left, take-append-drop}
use Rattle.spf_io.specs.Rule.{◌>>=◌, broken_as, many}
use Rattle.spf_id.specs.Id.{Id}
use Rattle.spf_der.specs.Grammar.{CertText, joined}
use Rattle.spf_der.specs.Part.{Parts}
use Rattle.spf_der.specs.Read.{certificate_rule}
use Rattle.spf_x509.specs.declared.error.CertificateError.{CertificateError}
use Rattle.spf_x509.specs.declared.error.CertificateError.TheVariants.{TooManyCertificates}
use Rattle.spf_x509.specs.Chain.{IsSvid, MayFollowLeaf, certificate_text_at, chain_rule}
use Rattle.spf_x509.specs.Chain.{intermediates_rule, svid_of, svid_of_parts, svid_with_leaf, texts}
use Rattle.spf_x509.specs.Errors.{of_read, svid_of_certificate, svid_of_key}
use Rattle.spf_x509.specs.Key.{key_rule}
use Rattle.spf_x509.specs.Rule.{leaf_rule}
use Rattle.spf_x509.specs.Svid.{Svid}
use Rattle.spf_x509.proofs.Cuts.{Kept, kept_of, longer, ok_as, ok_bind, ok_is, step, text_reads}

abbrev pub too_many : CertificateError
too_many = TooManyCertificates 16

-- a chain of a leaf and certificates that may follow it
chain_reads : (leaf : List ℕ) (parts : Parts) (others : List (List ℕ)) → CertText leaf parts
    → (f : MayFollowLeaf others) → chain_rule (leaf ++ joined others) ≡ Ok ((parts, leaf) ∷ f.parts)
unfolding chain_rule
chain_reads leaf parts others text f =
    step certificate_text_at too_many 15 (leaf ++ joined others) (parts, leaf) (joined others)
    f.parts (longer leaf (joined others) (leaf ++ joined others) parts refl text)
    (text_reads leaf (joined others) parts text) f.read

-- the SVID of such a chain
pub leaf_decides : (leaf : List ℕ) (parts : Parts) (others : List (List ℕ)) (key : List ℕ)
    (hint : Option (List ℕ)) → CertText leaf parts → MayFollowLeaf others
    → svid_of (leaf ++ joined others) key hint ≡ svid_with_leaf parts leaf others key hint
unfolding svid_of svid_with_leaf
leaf_decides leaf parts others key hint text f =
    rw (chain_reads leaf parts others text f, f.keep, f.are) refl

kept_in : (leaf : List ℕ) (parts : Parts) (others : List (List ℕ)) (key : List ℕ)
    (hint : Option (List ℕ)) (svid : Svid) → CertText leaf parts → (f : MayFollowLeaf others)
    → svid_of (leaf ++ joined others) key hint ≡ Ok svid
    → Kept key hint ((parts, leaf) ∷ f.parts) svid
unfolding svid_of
kept_in leaf parts others key hint svid text f whole =
    kept_of key hint ((parts, leaf) ∷ f.parts) svid
    (rw (chain_reads leaf parts others text f) at whole)

-- it is an SVID
pub leaf_gives : (leaf : List ℕ) (parts : Parts) (others : List (List ℕ)) (key : List ℕ)
    (hint : Option (List ℕ)) (svid : Svid) → CertText leaf parts → MayFollowLeaf others
    → svid_with_leaf parts leaf others key hint ≡ Ok svid → IsSvid svid
leaf_gives leaf parts others key hint svid text f is =
    let whole = leaf_decides leaf parts others key hint text f ∙ is in
    let kept = kept_in leaf parts others key hint svid text f whole in
    let chain : joined svid.chain ≡ leaf ++ joined others =
    ap joined (sym kept.chain_is ∙ ap (λ (z : List (List ℕ)). leaf ∷ z) f.are) in
    (λ i. svid_of (chain i) (sym kept.key_is i) (sym kept.hint_is i)) ∙ whole

-- the certificate at the start, and what is left
cut_at : (b : List ℕ) (p : Parts × List ℕ) (after : List ℕ)
    → certificate_text_at b ≡ Ok (p, after) → b ≡ p.1 ++ after
unfolding certificate_text_at
cut_at b p after is =
    let made : Parts × ℕ → (Parts × List ℕ) × List ℕ =
    λ read. ((read.0, take read.1 b), drop read.1 b) in
    let a = ok_bind {E = CertificateError} (broken_as of_read (certificate_rule b))
    (λ read. Ok (made read)) (p, after) is in
    subst (λ (y : (Parts × List ℕ) × List ℕ). b ≡ y.0.1 ++ y.1)
    (ok_is {E = CertificateError} (made a.0) (p, after) (Ok (made a.0)) refl a.2)
    (sym (take-append-drop a.0.1 b))

-- what is read after the first certificate of a chain
pub record ReadAfter (b : List ℕ) (p : Parts × List ℕ) (ps : List (Parts × List ℕ)) : Type 0 where
  pub after : List ℕ
  pub cut : b ≡ p.1 ++ after
  pub read : many certificate_text_at too_many 15 after ≡ Ok ps

read_after : (b : List ℕ) (p : Parts × List ℕ) (ps : List (Parts × List ℕ))
    → many certificate_text_at too_many 16 b ≡ Ok (p ∷ ps) → ReadAfter b p ps
read_after [] p ps is = absurd (cc)
read_after (c ∷ b) p ps is =
    let a = ok_bind (certificate_text_at (c ∷ b))
    (λ found. many certificate_text_at too_many 15 found.1 >>= λ others. Ok (found.0 ∷ others))
    (p ∷ ps) is in
    let m = ok_bind (many certificate_text_at too_many 15 a.0.1) (λ others. Ok (a.0.0 ∷ others))
    (p ∷ ps) a.2 in
    let same : a.0.0 ∷ m.0 ≡ p ∷ ps =
    ok_is {E = CertificateError} (a.0.0 ∷ m.0) (p ∷ ps) (Ok (a.0.0 ∷ m.0)) refl m.2 in
    let head : a.0.0 ≡ p = cc in
    let tail : m.0 ≡ ps = cc in
    record {
      after = a.0.1;
      cut = cut_at (c ∷ b) a.0.0 a.0.1 a.1 ∙ ap (λ (q : Parts × List ℕ). q.1 ++ a.0.1) head;
      read = m.1 ∙ ap Ok tail;
    }

-- the intermediates of an SVID keep their rule
rule_kept : (key : List ℕ) (hint : Option (List ℕ)) (p : Parts × List ℕ)
    (ps : List (Parts × List ℕ)) (svid : Svid) → svid_of_parts key hint (p ∷ ps) ≡ Ok svid
    → intermediates_rule ps ≡ Ok tt
rule_kept key hint p ps svid is =
    let made : Id × ℤ → List ℕ → Svid =
    λ found kept. record {
      id = found.0;
      hint = hint;
      chain = texts (p ∷ ps);
      key = kept;
      expiry = found.1;
    } in
    let a = ok_bind {B = Svid} (leaf_rule p.0)
    (λ found. intermediates_rule ps >>= λ _. broken_as svid_of_key (key_rule key)
    >>= λ kept. Ok (made found kept)) svid is in
    let b = ok_bind {B = Svid} (intermediates_rule ps)
    (λ _. broken_as svid_of_key (key_rule key) >>= λ kept. Ok (made a.0 kept)) svid a.2 in
    b.1

-- those of an SVID may follow another leaf
pub others_follow : (svid : Svid) (first : List ℕ) (others : List (List ℕ)) → IsSvid svid
    → svid.chain ≡ first ∷ others → MayFollowLeaf others
unfolding svid_of chain_rule
others_follow svid first others parsed cut =
    let a = ok_bind (broken_as svid_of_certificate (chain_rule (joined svid.chain)))
    (λ parts. svid_of_parts svid.key svid.hint parts) svid parsed in
    followed a.0 (ok_as svid_of_certificate (chain_rule (joined svid.chain)) a.0 a.1) a.2
  where
    followed : (ps : List (Parts × List ℕ))
        → many certificate_text_at too_many 16 (joined svid.chain) ≡ Ok ps
        → svid_of_parts svid.key svid.hint ps ≡ Ok svid → MayFollowLeaf others
    followed [] read is = absurd (cc)
    followed (p ∷ ps) read is =
        let r = read_after (joined svid.chain) p ps read in
        let kept = kept_of svid.key svid.hint (p ∷ ps) svid is in
        let both : p.1 ∷ texts ps ≡ first ∷ others = kept.chain_is ∙ cut in
        let head : p.1 ≡ first = cc in
        let tail : texts ps ≡ others = cc in
        let left : p.1 ++ r.after ≡ p.1 ++ joined others =
        sym r.cut ∙ ap joined cut ∙ ap (λ (z : List ℕ). z ++ joined others) (sym head) in
        let rest : r.after ≡ joined others =
        append_cancel_left p.1 r.after (joined others) left in
        record {
          parts = ps;
          are = tail;
          read = ap (many certificate_text_at too_many 15) (sym rest) ∙ r.read;
          keep = rule_kept svid.key svid.hint p ps svid is;
        }
