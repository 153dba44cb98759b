use Rattle.std.proofs.Common.{◌≢◌, ◌<◌, length, arith, refl}
use Rattle.spf_x509.specs.declared.error.CertificateError.TheVariants.{TooManyCertificates}
use Rattle.spf_x509.specs.Chain.{certificate_text_at, chain_after}
use Rattle.spf_x509.proofs.Within.{within_more}
use Rattle.spf_x509.proofs.chain.cut_others.Goals as goal

pub loop-rest-init : goal.loop-rest-init
loop-rest-init c =
    rw c.in_ok-parts.ensures.items (record { left = 14; within = refl; is = refl })

pub loop-rest-preserved : goal.loop-rest-preserved
loop-rest-preserved c =
    let some : 0 < length c.loop-rest.rest.now = grind arith in
    let room : length c.loop-rest.parts.items ≢ 16 = grind arith in
    rw c.in_ok-push.ensures.items
    (within_more certificate_text_at (TooManyCertificates 16) 16 c.loop-rest.parts.items
    c.loop-rest.rest.now (chain_after c.args.leaf c.args.second c.args.others.now)
    c.in_ok-part.part c.in_ok-part.after.now
    some c.in_ok-part.ensures.gives room c.loop-rest.invariant)
