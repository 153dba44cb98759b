-- How an error of the Workload API reads for a source: out of memory stays out of memory.
use Rattle.spf_api.specs.declared.error.WorkloadApiError.{WorkloadApiError}
use Rattle.spf_api.specs.declared.error.WorkloadApiError.TheVariants as api
use Rattle.spf_feed.specs.declared.state.X509SourceError.{X509SourceError}
use Rattle.spf_feed.specs.declared.state.X509SourceError.TheVariants as source

abbrev pub source_of_api : WorkloadApiError → X509SourceError
source_of_api api.OutOfMemory = source.OutOfMemory
source_of_api e = source.Source e
