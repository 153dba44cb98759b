-- The endpoint that a variable of the environment names.
use Rattle.std.specs.Prelude.{Option, None, Some, Result, Err}
use Rattle.spf_io.specs.Rule.{Gives, broken_as}
use Rattle.spf_system.specs.declared.environment.EnvValue.{EnvValue}
use Rattle.spf_system.specs.declared.environment.EnvValue.TheVariants as values
use Rattle.spf_api.specs.Errors.{is_memory_api}
use Rattle.spf_api.specs.declared.error.WorkloadApiError.{WorkloadApiError}
use Rattle.spf_api.specs.declared.error.WorkloadApiError.TheVariants as api
use Rattle.spf_link.specs.declared.endpoint.Endpoint.{Endpoint}
use Rattle.spf_link.specs.Endpoint.{endpoint_rule}

-- the endpoint that a value names, or the first broken rule
abbrev pub value_rule : EnvValue → Result Endpoint WorkloadApiError
value_rule values.Missing = Err api.MissingEndpointSocket
value_rule values.NotUnicode = Err api.NotUnicodeEndpointSocket
value_rule (values.Found text) = broken_as api.Endpoint (endpoint_rule text)

-- where the value of the variable is known, it decides
abbrev pub ReadsEndpoint : Option EnvValue → Result Endpoint WorkloadApiError → Type 0
ReadsEndpoint None result = Unit {0}
ReadsEndpoint (Some value) result = Gives is_memory_api (λ e. e) result (value_rule value)
