-- What interceptors of the tests do.
use Rattle.std.specs.Prelude.{List, None, codes}
use Rattle.spf_link.specs.Headers.{Header, with_header}
use Rattle.spf_link.specs.Interceptor.{Intercepted}

-- the header of the Workload API is set to `false`
abbrev pub set_to_false_in : List Header → Intercepted
set_to_false_in headers =
    record {
      refusal = None;
      headers = with_header (codes "workload.spiffe.io") (codes "false") headers;
    }
