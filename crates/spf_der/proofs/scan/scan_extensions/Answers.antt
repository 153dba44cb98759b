use Rattle.std.proofs.Common.{◌<◌, ◌++◌, ◌∷◌, [], length, refl, sym, ap, arith}
use Rattle.std.proofs.lemmas.Bool.Decides.{nat_tests}
use Rattle.spf_io.proofs.Many.{many_more, many_starts}
use Rattle.spf_der.specs.Error.{here}
use Rattle.spf_der.specs.Part.{plain}
use Rattle.spf_der.specs.Read.{extensions_rule, part_at}
use Rattle.spf_der.specs.declared.error.CertReadError.TheVariants.{Parse}
use Rattle.spf_der.specs.declared.error.X509ParseKind.TheVariants.{InvalidCertificate}
use Rattle.spf_der.proofs.Scans.{has_found_more}
use Rattle.spf_der.proofs.scan.scan_extensions.Goals as goal

pub loop-rest-init : goal.loop-rest-init
loop-rest-init c = (
  [],
  many_starts part_at (Parse InvalidCertificate) c.args.text.now,
  record { key_usage = refl; subject_alt_name = refl; basic_constraints = refl },
)

pub loop-rest-preserved : goal.loop-rest-preserved
loop-rest-preserved c =
    let i = c.loop-rest.invariant in
    let part = plain c.in-Some.extension in
    let some : 0 < length c.loop-rest.rest.now = grind (arith, nat_tests) in (
      i.0 ++ part ∷ [],
      many_more part_at (Parse InvalidCertificate) i.0 c.loop-rest.rest.now
          (extensions_rule c.args.text.now) part c.in-Some.after.now some
          (ap here (sym c.in-Some.ensures.exact)) c.in-Some.ensures.shorter i.1,
      has_found_more c.with_extension-found.result c.loop-rest.found i.0 part i.2
          c.with_extension-found.ensures,
    )
