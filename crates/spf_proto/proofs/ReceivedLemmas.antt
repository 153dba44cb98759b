-- The context of a response, as it was read.
use Rattle.std.proofs.Common.{◌≡◌, Option, Result, Ok, Err, IfOk, refl}
use Rattle.spf_io.specs.Rule.{Gives}
use Rattle.spf_io.specs.declared.memory.OutOfMemory.{OutOfMemory}
use Rattle.spf_x509.specs.Context.{Context}
use Rattle.spf_api.specs.declared.response.ContextResponse.{ContextResponse}
use Rattle.spf_api.specs.declared.error.WorkloadApiError.{WorkloadApiError}
use Rattle.spf_api.specs.Errors.{is_memory_api}
use Rattle.spf_api.specs.Parsed.{parsed_of}
use Rattle.spf_feed.specs.Items.{context_in, IsReceived}
use Rattle.spf_feed.proofs.Received.{received_is}

pub received_all : (r : ContextResponse) (parsed : Result Context WorkloadApiError)
    (q : Result (Option Context) OutOfMemory)
    → Gives is_memory_api (λ c. c) parsed (parsed_of r) → IsReceived parsed q
    → IfOk q (λ c. c ≡ context_in r)
received_all r parsed (Ok c) given received = received_is r parsed c (Ok c) refl given received
received_all r parsed (Err e) given received = tt
