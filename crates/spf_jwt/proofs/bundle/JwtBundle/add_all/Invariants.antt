use Rattle.std.proofs.Common.{◌≡◌, ◌++◌}
use Rattle.spf_jwt.specs.Bundle.{with_authorities}
use Rattle.spf_jwt.proofs.bundle.JwtBundle.add_all.Given as goal

abbrev pub invariant-loop-authority : goal.invariant-loop-authority
invariant-loop-authority l = record {
  added : l.self ≡ record {
    domain = l.fn.self.domain;
    authorities = with_authorities l.fn.self.authorities l.yielded;
  };
  left : l.yielded ++ l.authority-iterator.rest.items ≡ l.fn.authorities.items;
}
