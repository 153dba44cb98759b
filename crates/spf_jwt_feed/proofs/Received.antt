-- The item that was read is the one that the response brings.
use Rattle.std.proofs.Common.{◌≡◌, true, false, cond, Result, Ok, Err, Option, Some, None}
use Rattle.std.proofs.Common.{◌∙◌, refl, sym, ap, subst, ◌<◌, zero, suc, [], ◌∷◌, get_or, arith}
use Rattle.std.specs.Prelude.{ℕ, List, IsErr, length, ◌==◌, IfOk}
use Rattle.spf_io.specs.declared.memory.OutOfMemory.{OutOfMemory}
use Rattle.std.specs.Option.{option_map}
use Rattle.spf_io.specs.Rule.{Gives, broken_as}
use Rattle.spf_api.specs.declared.response.BundlesResponse.{BundlesResponse}
use Rattle.spf_api.specs.declared.response.BundleEntry.{BundleEntry}
use Rattle.spf_api.specs.declared.response.Response.{Response}
use Rattle.spf_api.specs.declared.response.Response.TheVariants as response
use Rattle.spf_api.specs.declared.response.ResponseKind.TheVariants as kinds
use Rattle.spf_api.specs.Payload.{IsRead}
use Rattle.spf_api.specs.Reading.{bundles_at}
use Rattle.spf_api.proofs.Payloads.{finds, laid_is_read}
use Rattle.spf_api.specs.declared.error.WorkloadApiError.{WorkloadApiError}
use Rattle.spf_api.specs.declared.error.WorkloadApiError.TheVariants as api
use Rattle.spf_api.specs.Errors.{is_memory_api}
use Rattle.spf_feed.specs.Texts.{AreOctets}
use Rattle.spf_jwt.specs.Errors.{api_of_any_kind}
use Rattle.spf_jwt.specs.Responses.{jwt_bundle_set_of}
use Rattle.spf_jwt_feed.specs.declared.event.JwtItem.{JwtItem}
use Rattle.spf_jwt_feed.specs.declared.event.JwtItem.TheVariants as item
use Rattle.spf_jwt_feed.specs.Items.{item_by, item_in, IsReceived, response_at, item_at, ItemText}
use Rattle.spf_jwt_feed.specs.Items.{HasKeySets}
use Rattle.spf_jwt_feed.specs.Steps.{BundleSet}

found : (rule : Result BundleSet WorkloadApiError) (set : BundleSet) (i : JwtItem)
    (q : Result JwtItem OutOfMemory) → q ≡ Ok i → rule ≡ Ok set → q ≡ Ok (item.Bundles set)
    → i ≡ item_by rule
found rule set i q p is said = let same : i ≡ item.Bundles set = cc in same ∙ sym (ap item_by is)

broken : (rule : Result BundleSet WorkloadApiError) (e : WorkloadApiError) (i : JwtItem)
    (q : Result JwtItem OutOfMemory) → q ≡ Ok i → rule ≡ Err e → q ≡ Ok item.Broken
    → i ≡ item_by rule
broken rule e i q p is said = let same : i ≡ item.Broken = cc in same ∙ sym (ap item_by is)

out_of_memory : (rule : Result BundleSet WorkloadApiError) (i : JwtItem)
    (q : Result JwtItem OutOfMemory) → q ≡ Ok i → IsErr q → i ≡ item_by rule
out_of_memory rule i (Ok y) p bad = absurd cc
out_of_memory rule i (Err e) p bad = absurd cc

-- what was read, where it is what the rule says
pub read_by : (rule parsed : Result BundleSet WorkloadApiError) (i : JwtItem)
    (q : Result JwtItem OutOfMemory) → q ≡ Ok i
    → Gives is_memory_api (λ s. s) (broken_as api_of_any_kind parsed) rule → IsReceived parsed q
    → i ≡ item_by rule
read_by rule (Ok set) i q p given is = found rule set i q p given is
read_by rule (Err api.OutOfMemory) i q p given is = out_of_memory rule i q p is
read_by rule (Err api.MissingEndpointSocket) i q p given is = broken rule _ i q p given is
read_by rule (Err api.NotUnicodeEndpointSocket) i q p given is = broken rule _ i q p given is
read_by rule (Err api.EmptyResponse) i q p given is = broken rule _ i q p given is
read_by rule (Err (api.MissingRequiredField f)) i q p given is = broken rule _ i q p given is
read_by rule (Err (api.InvalidResponseField f)) i q p given is = broken rule _ i q p given is
read_by rule (Err (api.Endpoint f)) i q p given is = broken rule _ i q p given is
read_by rule (Err api.NoIdentityIssued) i q p given is = broken rule _ i q p given is
read_by rule (Err (api.PermissionDenied f)) i q p given is = broken rule _ i q p given is
read_by rule (Err (api.HintNotFound f)) i q p given is = broken rule _ i q p given is
read_by rule (Err (api.Transport f)) i q p given is = broken rule _ i q p given is
read_by rule (Err (api.X509Svid f)) i q p given is = broken rule _ i q p given is
read_by rule (Err (api.JwtSvid f)) i q p given is = broken rule _ i q p given is
read_by rule (Err (api.X509Bundle f)) i q p given is = broken rule _ i q p given is
read_by rule (Err (api.JwtBundle f)) i q p given is = broken rule _ i q p given is
read_by rule (Err (api.SpiffeId f)) i q p given is = broken rule _ i q p given is

pub item_empty : (r : BundlesResponse) → (length r.bundles == 0) ≡ true → item.Empty ≡ item_in r
unfolding item_in
item_empty r is = ap (λ b. cond b item.Empty (item_by (jwt_bundle_set_of r))) (sym is)

pub item_read : (r : BundlesResponse) (parsed : Result BundleSet WorkloadApiError) (i : JwtItem)
    (q : Result JwtItem OutOfMemory) → q ≡ Ok i → (length r.bundles == 0) ≡ false
    → Gives is_memory_api (λ s. s) (broken_as api_of_any_kind parsed) (jwt_bundle_set_of r)
    → IsReceived parsed q → i ≡ item_in r
unfolding item_in
item_read r parsed i q p some given is =
    read_by (jwt_bundle_set_of r) parsed i q p given is
    ∙ ap (λ b. cond b item.Empty (item_by (jwt_bundle_set_of r))) (sym some)

-- the same of the whole result
pub item_given : (r : BundlesResponse) (parsed : Result BundleSet WorkloadApiError)
    (q : Result JwtItem OutOfMemory) → (length r.bundles == 0) ≡ false
    → Gives is_memory_api (λ s. s) (broken_as api_of_any_kind parsed) (jwt_bundle_set_of r)
    → IsReceived parsed q → IfOk q (λ i. i ≡ item_in r)
item_given r parsed (Ok i) some given is = item_read r parsed i (Ok i) refl some given is
item_given r parsed (Err e) some given is = tt

-- ---- payloads

twice : (o : Option (List BundleEntry))
    → option_map (λ l. response.JwtBundles (record { bundles = l })) o
    ≡ option_map response.JwtBundles (option_map (λ l. record { bundles = l }) o)
twice None = refl
twice (Some l) = refl

-- what is read of a payload is the response that it lays out
pub payload_is : (bytes : List ℕ) (found : Option Response) → IsRead kinds.JwtBundles bytes found
    → found ≡ option_map response.JwtBundles (response_at bytes)
unfolding IsRead
payload_is bytes found is = is ∙ twice (bundles_at bytes)

octets_at : (bytes : List ℕ) → AreOctets bytes → (i : ℕ) → get_or bytes i 0 < 256
octets_at [] are i = omega arith
octets_at (x ∷ bytes) are zero = are.0
octets_at (x ∷ bytes) are (suc i) = octets_at bytes are.1 i

pub item_takes : (bytes : List ℕ) (r : BundlesResponse) → AreOctets bytes
    → response_at bytes ≡ Some r → ItemText bytes r
unfolding IsRead
item_takes bytes r are h =
    finds kinds.JwtBundles bytes (Some (response.JwtBundles r)) (octets_at bytes are)
    (sym (twice (bundles_at bytes) ∙ ap (option_map response.JwtBundles) h))

inside : (o : Option BundlesResponse) (r : BundlesResponse)
    → Some (response.JwtBundles r) ≡ option_map response.JwtBundles o → o ≡ Some r
inside None r h = absurd cc
inside (Some x) r h = cc

unread : (o : Option BundlesResponse) → None ≡ option_map response.JwtBundles o → o ≡ None
unread None h = refl
unread (Some x) h = absurd cc

-- a payload that lays out no response lays out no item
pub none_is : (bytes : List ℕ) → IsRead kinds.JwtBundles bytes None → None ≡ item_at bytes
none_is bytes h =
    sym (ap (option_map item_in) (unread (response_at bytes) (payload_is bytes None h)))

-- what is read as a response of key sets is one
pub key_sets_read : (bytes : List ℕ) (found : Response) → IsRead kinds.JwtBundles bytes (Some found)
    → HasKeySets found
key_sets_read bytes found h = by (response_at bytes) (payload_is bytes (Some found) h)
  where
    by : (o : Option BundlesResponse) → Some found ≡ option_map response.JwtBundles o
        → HasKeySets found
    by None h = absurd cc
    by (Some r) h = let same : response.JwtBundles r ≡ found = cc in subst HasKeySets same tt

-- the item of the response that a payload lays out
pub item_is : (bytes : List ℕ) (found : Response) (r : BundlesResponse) (i : JwtItem)
    → IsRead kinds.JwtBundles bytes (Some found) → found ≡ response.JwtBundles r → i ≡ item_in r
    → Some i ≡ item_at bytes
item_is bytes found r i h is same =
    ap Some same
    ∙ sym (ap (option_map item_in) (inside (response_at bytes) r
    (ap Some (sym is) ∙ payload_is bytes (Some found) h)))

pub item_again : (bytes : List ℕ) (r : BundlesResponse) → ItemText bytes r
    → response_at bytes ≡ Some r
item_again bytes r h =
    inside (response_at bytes) r
    (payload_is bytes (Some (response.JwtBundles r))
    (laid_is_read kinds.JwtBundles bytes (response.JwtBundles r) h))
