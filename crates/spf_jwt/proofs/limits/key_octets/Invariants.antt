use Rattle.std.proofs.Common.{◌≡◌, ◌≤◌, ◌+◌, ◌-◌, ◌^◌}
use Rattle.std.specs.Prelude.{min}
use Rattle.spf_jwt.specs.Limits.{octets_in}
use Rattle.spf_jwt.proofs.Octets.{octets_left}
use Rattle.spf_jwt.proofs.limits.key_octets.Given as goal

abbrev pub invariant-loop-authority : goal.invariant-loop-authority
invariant-loop-authority l = record {
  small : l.total ≤ 2 ^ 64 - 1;
  is : min (l.total + octets_left l.authority-iterator) (2 ^ 64 - 1)
      ≡ octets_in l.bundle.authorities;
}
