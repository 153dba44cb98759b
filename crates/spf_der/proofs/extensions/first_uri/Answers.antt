use Rattle.std.proofs.Common.{◌<◌, ◌∙◌, List, ℕ, Option, length, arith, sym, ap}
use Rattle.std.proofs.lemmas.Bool.Decides.{nat_tests}
use Rattle.std.specs.Borrow.{Bor}
use Rattle.spf_der.specs.Names.{with_name, uris_left}
use Rattle.spf_der.specs.Value.{seen}
use Rattle.spf_der.proofs.NameWalk.{uris_left-name}
use Rattle.spf_der.proofs.extensions.first_uri.Goals as goal

pub returns-in-Some : goal.returns-in-Some
returns-in-Some c =
    let some : 0 < length c.loop-rest.rest.now = grind (arith, nat_tests) in
    let step = uris_left-name c.loop-rest.rest.now (seen c.in_ok-uri.uri) c.in_ok-uri.after.now some
    (sym c.in_ok-uri.ensures.exact) in
    sym c.loop-rest.invariant ∙ step
    ∙ ap (λ (uri : Option (Bor (List ℕ))). with_name (seen uri) (uris_left c.in_ok-uri.after.now))
    c.in-Some.is

pub loop-rest-preserved : goal.loop-rest-preserved
loop-rest-preserved c =
    let some : 0 < length c.loop-rest.rest.now = grind (arith, nat_tests) in
    let step = uris_left-name c.loop-rest.rest.now (seen c.in_ok-uri.uri) c.in_ok-uri.after.now some
    (sym c.in_ok-uri.ensures.exact) in
    sym (step ∙ ap
    (λ (uri : Option (Bor (List ℕ))). with_name (seen uri) (uris_left c.in_ok-uri.after.now))
    c.in-None.is) ∙ c.loop-rest.invariant
