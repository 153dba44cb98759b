use Rattle.std.proofs.Common.{sym, ap, ◌∙◌}
use Rattle.std.specs.Option.{option_map}
use Rattle.spf_api.specs.Views.{context_of}
use Rattle.spf_feed.proofs.Received.{received_is, item_is}
use Rattle.spf_feed.proofs.payload.item_in.Goals as goal

pub returns : goal.returns
returns c =
    item_is _ (context_of c.in-Some.view) _
    (sym c.in_ok-view.ensures.exact ∙ ap (option_map context_of) c.in-Some.is)
    (received_is (context_of c.in-Some.view) c.context_from_view_sharing-context.result _
    c.valid_context.result c.in_ok-valid_context.was c.context_from_view_sharing-context.ensures
    c.valid_context.ensures)
