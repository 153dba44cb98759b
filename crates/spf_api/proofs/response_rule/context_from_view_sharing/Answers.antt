use Rattle.std.proofs.Common.{◌≡◌, map, ap, sym, ◌∙◌, Ok}
use Rattle.std.specs.Arc.{arc_value}
use Rattle.spf_api.specs.Views.{octets_of, context_of}
use Rattle.spf_api.proofs.Added.{parsed_is}
use Rattle.spf_api.proofs.response_rule.context_from_view_sharing.Goals as goal

pub returns : goal.returns
returns c =
    let view = c.args.view.now in
    let crls : c.into_vec.result.items ≡ map octets_of view.crls =
    c.into_vec.ensures ∙ c.in_ok-crls.ensures ∙ ap (map octets_of) c.as_slice-2.ensures in
    parsed_is (context_of view) (map arc_value c.in_ok-svids.svids.items) c.shared_svids.new.bundles
    c.add_named.new.bundles
    (rw c.as_slice-entries.ensures at c.in_ok-check_entries.ensures)
    (rw (c.as_slice-entries.ensures, c.new-bundles.ensures) at c.in_ok-svids.ensures)
    (rw c.as_slice.ensures at c.in_ok-add_named.ensures)
    ∙ (λ k. Ok (record {
      svids = map arc_value c.in_ok-svids.svids.items;
      bundles = sym c.in_ok-new.ensures.ok k;
      crls = sym crls k;
    }))
    ∙ ap Ok (sym c.new-2.ensures)
