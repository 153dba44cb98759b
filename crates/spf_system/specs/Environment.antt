-- What an environment gives for a name.
use Rattle.std.specs.Prelude.{◌≡◌, Option, None, Some, Result, IfOk}
use Rattle.spf_system.specs.declared.environment.EnvValue.{EnvValue}

-- where the value is known it is given, unless memory runs out
abbrev pub EnvReads : {E : Type 0} → Option EnvValue → Result EnvValue E → Type 0
EnvReads None result = Unit {0}
EnvReads (Some value) result = IfOk result (λ v. v ≡ value)
