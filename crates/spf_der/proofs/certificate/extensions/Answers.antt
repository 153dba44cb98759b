use Rattle.std.proofs.Common.{◌≡◌, ◌<◌, ◌++◌, ◌∷◌, [], length, map, arith, ap, sym}
use Rattle.std.proofs.lemmas.List.{map_push}
use Rattle.std.proofs.lemmas.Bool.Decides.{nat_tests}
use Rattle.spf_io.proofs.Many.{many_more}
use Rattle.spf_der.specs.Error.{here}
use Rattle.spf_der.specs.Part.{plain}
use Rattle.spf_der.specs.Read.{part_at, extensions_rule}
use Rattle.spf_der.specs.declared.error.CertReadError.TheVariants.{Parse}
use Rattle.spf_der.specs.declared.error.X509ParseKind.TheVariants.{InvalidCertificate}
use Rattle.spf_der.proofs.certificate.extensions.Goals as goal

pub loop-rest-preserved : goal.loop-rest-preserved
loop-rest-preserved c =
    let front = map plain c.loop-rest.found.items in
    let some : 0 < length c.loop-rest.rest.now = grind (arith, nat_tests) in
    let pushed : map plain c.push.new.self.items ≡ front ++ plain c.in-Some.extension ∷ [] =
    rw c.in_ok-push.ensures.items (map_push plain c.loop-rest.found.items c.in-Some.extension) in
    rw pushed (many_more part_at (Parse InvalidCertificate) front c.loop-rest.rest.now
    (extensions_rule c.args.text.now) (plain c.in-Some.extension) c.in-Some.after.now some
    (ap here (sym c.in-Some.ensures.exact)) c.in-Some.ensures.shorter c.loop-rest.invariant)
