-- The context that was read is the one that the response brings.
use Rattle.std.proofs.Common.{◌≡◌, Option, Some, None, Result, Ok, Err, sym, ap, ◌∙◌}
use Rattle.std.specs.Prelude.{ℕ, List, IsErr}
use Rattle.spf_io.specs.declared.memory.OutOfMemory.{OutOfMemory}
use Rattle.std.specs.Option.{option_map}
use Rattle.spf_io.specs.Rule.{Gives}
use Rattle.spf_x509.specs.Context.{Context}
use Rattle.spf_api.specs.declared.response.ContextResponse.{ContextResponse}
use Rattle.spf_api.specs.declared.error.WorkloadApiError.{WorkloadApiError}
use Rattle.spf_api.specs.declared.error.WorkloadApiError.TheVariants as api
use Rattle.spf_api.specs.Errors.{is_memory_api}
use Rattle.spf_api.specs.Parsed.{parsed_of}
use Rattle.spf_api.specs.Reading.{context_at}
use Rattle.spf_feed.specs.Items.{value_of, context_in, item_at, IsReceived}

some_in : (r : ContextResponse) (context : Context) (x : Option Context)
    (q : Result (Option Context) OutOfMemory) → q ≡ Ok x → parsed_of r ≡ Ok context
    → q ≡ Ok (Some context) → x ≡ context_in r
unfolding context_in
some_in r context x q p rule is = let same : x ≡ Some context = cc in same ∙ sym (ap value_of rule)

none_in : (r : ContextResponse) (e : WorkloadApiError) (x : Option Context)
    (q : Result (Option Context) OutOfMemory) → q ≡ Ok x → parsed_of r ≡ Err e → q ≡ Ok None
    → x ≡ context_in r
unfolding context_in
none_in r e x q p rule is = let same : x ≡ None = cc in same ∙ sym (ap value_of rule)

bad_in : (r : ContextResponse) (x : Option Context) (q : Result (Option Context) OutOfMemory)
    → q ≡ Ok x → IsErr q → x ≡ context_in r
bad_in r x (Ok y) p bad = absurd cc
bad_in r x (Err e) p bad = absurd cc

pub received_is : (r : ContextResponse) (parsed : Result Context WorkloadApiError)
    (x : Option Context) (q : Result (Option Context) OutOfMemory) → q ≡ Ok x
    → Gives is_memory_api (λ c. c) parsed (parsed_of r) → IsReceived parsed q → x ≡ context_in r
received_is r (Ok context) x q p rule is = some_in r context x q p rule is
received_is r (Err api.OutOfMemory) x q p rule is = bad_in r x q p is
received_is r (Err api.MissingEndpointSocket) x q p rule is =
    none_in r api.MissingEndpointSocket x q p rule is
received_is r (Err api.NotUnicodeEndpointSocket) x q p rule is =
    none_in r api.NotUnicodeEndpointSocket x q p rule is
received_is r (Err api.EmptyResponse) x q p rule is = none_in r api.EmptyResponse x q p rule is
received_is r (Err (api.MissingRequiredField f)) x q p rule is =
    none_in r (api.MissingRequiredField f) x q p rule is
received_is r (Err (api.InvalidResponseField f)) x q p rule is =
    none_in r (api.InvalidResponseField f) x q p rule is
received_is r (Err (api.Endpoint f)) x q p rule is = none_in r (api.Endpoint f) x q p rule is
received_is r (Err api.NoIdentityIssued) x q p rule is =
    none_in r api.NoIdentityIssued x q p rule is
received_is r (Err (api.PermissionDenied f)) x q p rule is =
    none_in r (api.PermissionDenied f) x q p rule is
received_is r (Err (api.HintNotFound f)) x q p rule is =
    none_in r (api.HintNotFound f) x q p rule is
received_is r (Err (api.Transport f)) x q p rule is = none_in r (api.Transport f) x q p rule is
received_is r (Err (api.X509Svid f)) x q p rule is = none_in r (api.X509Svid f) x q p rule is
received_is r (Err (api.JwtSvid f)) x q p rule is = none_in r (api.JwtSvid f) x q p rule is
received_is r (Err (api.X509Bundle f)) x q p rule is = none_in r (api.X509Bundle f) x q p rule is
received_is r (Err (api.JwtBundle f)) x q p rule is = none_in r (api.JwtBundle f) x q p rule is
received_is r (Err (api.SpiffeId f)) x q p rule is = none_in r (api.SpiffeId f) x q p rule is

pub item_is : (payload : List ℕ) (found : ContextResponse) (x : Option Context)
    → context_at payload ≡ Some found → x ≡ context_in found → Some x ≡ item_at payload
item_is payload found x laid is = ap Some is ∙ sym (ap (option_map context_in) laid)
