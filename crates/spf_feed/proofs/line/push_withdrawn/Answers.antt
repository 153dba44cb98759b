use Rattle.spf_feed.proofs.LineLemmas.{withdrawn_made}
use Rattle.spf_feed.proofs.line.push_withdrawn.Goals as goal

pub returns-in_ok-push_hex-in-PermissionDenied-clause-text
    : goal.returns-in_ok-push_hex-in-PermissionDenied-clause-text
returns-in_ok-push_hex-in-PermissionDenied-clause-text c =
    withdrawn_made c.args.reason.now c.in-PermissionDenied.message _ _ _ c.in-PermissionDenied.is
    c.in_ok-extend-in-PermissionDenied.ensures.text
    (cc (c.in_ok-push_hex-in-PermissionDenied.ensures.text))
