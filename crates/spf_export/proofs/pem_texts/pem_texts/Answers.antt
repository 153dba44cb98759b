use Rattle.std.proofs.Common.{◌∙◌, ap, codes, List, ℕ, rules}
use Rattle.spf_export.specs.Pem.{block}
use Rattle.spf_export.proofs.pem_texts.pem_texts.Goals as goal

pub returns : goal.returns
returns c = record {
  svid = c.in_ok-svid.svid;
  is = c.in_ok-svid.ensures;
  bundle = search rules;
  key = c.in_ok-key.ensures
      ∙ ap (λ (d : List ℕ). block (codes "PRIVATE KEY") d) c.as_slice-2.ensures;
  chain = search rules;
}
