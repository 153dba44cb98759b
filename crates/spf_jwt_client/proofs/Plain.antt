-- An error by which a link or an interceptor refuses holds no error of a key set.
use Rattle.std.proofs.Common.{◌≡◌, Bool, true, false, cond, codes, Option, Some, None, Result}
use Rattle.std.proofs.Common.{Ok, Err}
use Rattle.std.proofs.Common.{refl, sym, ap, subst, inl, inr}
use Rattle.spf_io.specs.Rule.{broken_as}
use Rattle.spf_api.specs.Errors.{is_denied, status_reading}
use Rattle.spf_api.specs.Status.{holds}
use Rattle.spf_api.specs.Refused.{Refused}
use Rattle.spf_api.specs.declared.error.WorkloadApiError.{WorkloadApiError}
use Rattle.spf_api.specs.declared.error.WorkloadApiError.TheVariants as api
use Rattle.spf_api.specs.declared.status.TransportError.TheVariants as transport
use Rattle.spf_api.specs.declared.link.LinkFault.{LinkFault}
use Rattle.spf_api.specs.declared.link.LinkFault.TheVariants as fault
use Rattle.spf_api.specs.declared.response.Response.{Response}
use Rattle.spf_link.specs.Interceptor.{Intercepted}
use Rattle.spf_link.specs.declared.link.Link as links
use Rattle.spf_link.specs.declared.request.Request.{Request}
use Rattle.spf_client.specs.Asking.{Asks, Begins, Fetches, IsUnsentBy, TakesFirst}
use Rattle.spf_client.specs.Reading.{fault_reading, first_response_of}
use Rattle.spf_jwt.specs.Errors.{api_of_any_kind}

abbrev pub IsPlain : WorkloadApiError → Type 0
IsPlain e = api_of_any_kind e ≡ e

err_same : {T : Type 0} (d e : WorkloadApiError) (r s : Result T WorkloadApiError) → r ≡ Err d
    → s ≡ Err e → r ≡ s → d ≡ e
err_same d e r s is are same = cc

plain_if : (b : Bool) (x y : WorkloadApiError) → IsPlain x → IsPlain y → IsPlain (cond b x y)
plain_if true x y first second = first
plain_if false x y first second = second

plain_status : (s : Refused) → IsPlain (status_reading s)
plain_status s =
    plain_if (is_denied s.code) _ (api.Transport (transport.Status s))
    (plain_if (holds (codes "no identity issued") s.message) api.NoIdentityIssued
    (api.PermissionDenied s.message) refl refl)
    refl

plain_fault : (f : LinkFault) → IsPlain (fault_reading f)
plain_fault (fault.Status s) = plain_status s
plain_fault (fault.Connect e) = refl
plain_fault fault.OutOfMemory = refl

plain_unsent : (refusal : Option Refused) (e : WorkloadApiError)
    → IsUnsentBy {T = Unit {0}} refusal (Err e) → IsPlain e
plain_unsent None api.OutOfMemory why = refl
plain_unsent (Some s) api.OutOfMemory why = refl
plain_unsent (Some s) _ why = subst IsPlain (sym why) (plain_status s)
plain_unsent None _ why = absurd why

module _ {S : Type 0} (link : links.Ghosts S) (made : Intercepted) (request : Request) where
  plain_sent : (answer : Result (Unit {0}) LinkFault) (e : WorkloadApiError)
      → Err e ≡ broken_as fault_reading answer → IsPlain e
  plain_sent (Ok x) e read = absurd cc
  plain_sent (Err f) e read =
      subst IsPlain (sym (err_same e (fault_reading f) _ _ refl refl read)) (plain_fault f)

  plain_begun : (old new : S) (e : WorkloadApiError) → Begins link made request old (Err e) new
      → IsPlain e
  plain_begun old new e (inl u) = plain_unsent made.refusal e u.why
  plain_begun old new e (inr s) = plain_sent s.answer e s.read

  plain_next : (answer : Result (Option Response) LinkFault) (e : WorkloadApiError)
      → Err e ≡ first_response_of answer → IsPlain e
  plain_next (Ok None) e read =
      subst IsPlain (sym (err_same e api.EmptyResponse _ _ refl refl read)) refl
  plain_next (Ok (Some r)) e read = absurd cc
  plain_next (Err f) e read =
      subst IsPlain (sym (err_same e (fault_reading f) _ _ refl refl read)) (plain_fault f)

  plain_taken : (old mid new : S) (e : WorkloadApiError) (b : Result (Unit {0}) WorkloadApiError)
      → Begins link made request old b mid → TakesFirst link mid b (Err e) new → IsPlain e
  plain_taken old mid new e (Err d) begins takes =
      subst IsPlain (sym (err_same e d _ _ refl refl takes.0)) (plain_begun old mid d begins)
  plain_taken old mid new e (Ok x) begins takes = plain_next takes.0 e takes.2

  plain_asked : (old new : S) (e : WorkloadApiError)
      → Asks link made request old (Err e) new → IsPlain e
  plain_asked old new e asks = plain_taken old asks.mid new e asks.begun asks.begins asks.takes

  -- a fetch of key sets that was refused
  pub refused_fetch : {R X Y : Type 0} (of_kind : R → Response)
      (rule : R → Result Y WorkloadApiError) (view : X → Y) (old new : S) (e : WorkloadApiError)
      → Asks link made request old (Err e) new
      → Fetches link made request of_kind rule view old
      (broken_as {A = X} api_of_any_kind (Err e)) new
  refused_fetch of_kind rule view old new e asks =
      record { first = Err e; asks = asks; reads = ap Err (plain_asked old new e asks) }
