use Rattle.std.proofs.Common.{◌*◌, ◌∙◌, take_all, sym, ap, rules, refl}
use Rattle.hex.specs.Hex.{encode_lower, encode_with}
use Rattle.spf_feed.proofs.HexLemmas.{two_more}
use Rattle.spf_feed.proofs.hexadecimal.write_hex.Goals as goal

pub loop-i-preserved : goal.loop-i-preserved
loop-i-preserved c =
    two_more c.args.octets.now c.loop-i.out c.loop-i.i c.digits-first.result.0
    c.digits-first.result.1 c.loop-i-test.true (search rules) c.loop-i.invariant
    c.digits-first.ensures.first c.digits-first.ensures.second

pub returns : goal.returns
returns c =
    sym (take_all (2 * c.loop-i.i) c.loop-i.out (search rules)) ∙ c.loop-i.invariant
    ∙ ap encode_lower (take_all c.loop-i.i c.args.octets.now c.loop-i-test.false)

pub loop-i-init : goal.loop-i-init
unfolding encode_with
loop-i-init c = refl
