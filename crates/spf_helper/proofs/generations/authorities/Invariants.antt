use Rattle.std.proofs.Common.{◌≡◌, ◌++◌, map}
use Rattle.spf_helper.specs.Generations.{authority_list}
use Rattle.spf_helper.proofs.generations.authorities.Given as goal

abbrev pub invariant-loop-trust_domain : goal.invariant-loop-trust_domain
invariant-loop-trust_domain l =
    l.lists.items ++ map authority_list l.trust_domain-iterator
    ≡ map authority_list l.fn.bundles
