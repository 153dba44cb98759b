use Rattle.std.proofs.Common.{◌∙◌, codes}
use Rattle.spf_api.proofs.Holds.{is_some-find}
use Rattle.spf_api.proofs.error.says_no_identity.Goals as goal

pub returns : goal.returns
returns c =
    c.is_some.ensures
    ∙ is_some-find (codes "no identity issued") c.args.message.now c.find.result
    (rw c.as_bytes.ensures.value at c.find.ensures)
