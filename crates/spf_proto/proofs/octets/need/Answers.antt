use Rattle.std.proofs.Common.{◌≡◌, ◌≤◌, ◌<◌, ◌^◌, ◌∙◌, ◌∷◌, ap, sym, length, arith, rules}
use Rattle.std.proofs.lemmas.Bool.Decides.{nat_tests}
use Rattle.spf_proto.proofs.OctetsLemmas.{flag_bad, is_too_long, needs_first, needs_head}
use Rattle.spf_proto.proofs.OctetsLemmas.{needs_nothing}
use Rattle.spf_proto.proofs.OctetsLemmas.{needs_rest}
use Rattle.spf_proto.proofs.octets.need.Goals as goal

pub returns-in_default : goal.returns-in_default
returns-in_default c = needs_first c.args.got.now (search rules)

pub returns-then-flag-ne0 : goal.returns-then-flag-ne0
returns-then-flag-ne0 c =
    let is : c.args.got.now ≡ c.in-Some.flag.now ∷ c.in-Some.rest.now = search rules in
    rw is (
      flag_bad c.in-Some.flag.now c.in-Some.rest.now (grind (arith, nat_tests)),
      λ none. absurd cc,
    )

pub returns-in_default-read_length : goal.returns-in_default-read_length
returns-in_default-read_length c =
    let is : c.args.got.now ≡ c.in-Some.flag.now ∷ c.in-Some.rest.now = search rules in
    let zero : c.in-Some.flag.now ≡ 0 = grind (arith, nat_tests) in
    needs_head c.args.got.now c.in-Some.rest.now _ (is ∙ ap (λ f. f ∷ c.in-Some.rest.now) zero)
    c.in_default-read_length.ensures (search rules)

pub returns-then-length-gt-MAX_MESSAGE : goal.returns-then-length-gt-MAX_MESSAGE
returns-then-length-gt-MAX_MESSAGE c =
    let is : c.args.got.now ≡ c.in-Some.flag.now ∷ c.in-Some.rest.now = search rules in
    let zero : c.in-Some.flag.now ≡ 0 = grind (arith, nat_tests) in
    let gt : 2 ^ 24 < c.in-Some-read_length.length = grind (arith, nat_tests) in (
      is_too_long c.args.got.now c.in-Some.rest.now c.in-Some-read_length.octets.now
          c.in-Some-read_length.length (is ∙ ap (λ f. f ∷ c.in-Some.rest.now) zero)
          c.in-Some-read_length.ensures gt,
      λ none. let no = sym is ∙ none in absurd cc,
    )

pub returns-then-octets-length : goal.returns-then-octets-length
returns-then-octets-length c =
    let is : c.args.got.now ≡ c.in-Some.flag.now ∷ c.in-Some.rest.now = search rules in
    let zero : c.in-Some.flag.now ≡ 0 = grind (arith, nat_tests) in
    let le : c.in-Some-read_length.length ≤ 2 ^ 24 = grind (arith, nat_tests) in
    let lt : length c.in-Some-read_length.octets.now < c.in-Some-read_length.length =
    search rules in
    needs_rest c.args.got.now c.in-Some.rest.now c.in-Some-read_length.octets.now
    c.in-Some-read_length.length _ (is ∙ ap (λ f. f ∷ c.in-Some.rest.now) zero)
    c.in-Some-read_length.ensures le lt (search rules)

pub returns : goal.returns
returns c =
    let is : c.args.got.now ≡ c.in-Some.flag.now ∷ c.in-Some.rest.now = search rules in
    let zero : c.in-Some.flag.now ≡ 0 = grind (arith, nat_tests) in
    let le : c.in-Some-read_length.length ≤ length c.in-Some-read_length.octets.now =
    search rules in
    needs_nothing c.args.got.now c.in-Some.rest.now c.in-Some-read_length.octets.now
    c.in-Some-read_length.length (is ∙ ap (λ f. f ∷ c.in-Some.rest.now) zero)
    c.in-Some-read_length.ensures le c.requires
