use Rattle.std.proofs.Common.{inl, inr}
use Rattle.spf_http2.proofs.CutLemmas.{one_way}
use Rattle.spf_http2.proofs.laws.octets_cut_one_way.Goals as goal

pub returns : goal.returns
returns c fs gs xs ys are are' e =
    elim (one_way fs gs xs ys are are' e) [
      | inl l ↦ inl (l.more, l.is, l.text)
      | inr l ↦ inr (l.more, l.is, l.text)
    ]
