use Rattle.std.proofs.Common.{ℕ, List, Result, sym, ap, ◌∙◌, subst}
use Rattle.std.specs.Arc.{arc_value}
use Rattle.std.specs.Option.{option_map}
use Rattle.spf_io.specs.Rule.{Gives}
use Rattle.spf_x509.specs.declared.svid_error.X509SvidError.{X509SvidError}
use Rattle.spf_x509.specs.Chain.{svid_of}
use Rattle.spf_x509.specs.Errors.{is_memory_svid}
use Rattle.spf_x509.specs.Svid.{Svid}
use Rattle.spf_x509.proofs.Tails.{leaf_decides}
use Rattle.spf_x509.proofs.svid.X509Svid.parse_beside.Goals as goal

pub returns : goal.returns
returns c =
    let key = c.args.key.now in
    let hint = option_map (λ t. t.now) c.args.hint in
    let decides =
    leaf_decides c.in-Some.leaf.now c.in-Ok.scan c.intermediates-others.result.now key hint
    c.in-Ok.ensures.text c.intermediates-others.ensures in
    subst
    (λ (rule : Result Svid X509SvidError).
    Gives is_memory_svid arc_value c.with_leaf.result rule)
    (sym (ap (λ (z : List ℕ). svid_of z key hint) c.in-Some.ensures ∙ decides))
    c.with_leaf.ensures
