use Rattle.spf_api.specs.Views.{context_of}
use Rattle.spf_proto.proofs.ReceivedLemmas.{received_all}
use Rattle.spf_proto.proofs.translating.read_context.Goals as goal

pub returns : goal.returns
returns c =
    received_all (context_of c.args.view.now) c.context_from_view_sharing.result
    c.valid_context.result c.context_from_view_sharing.ensures c.valid_context.ensures
