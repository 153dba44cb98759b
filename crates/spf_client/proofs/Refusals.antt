-- Refusals of a fetch have causes.
use Rattle.std.proofs.Common.{◌≡◌, ◌⊎◌, ◌≤◌, ℕ, true, false, Option}
use Rattle.std.proofs.Common.{Some, None, Result, Ok, Err, refl, sym, ap, ◌∙◌, arith, subst, inl}
use Rattle.std.proofs.Common.{inr}
use Rattle.spf_io.specs.Outside.{Rose}
use Rattle.spf_io.specs.Rule.{Gives, broken_as}
use Rattle.spf_api.specs.Errors.{is_memory_api}
use Rattle.spf_api.specs.Refused.{Refused}
use Rattle.spf_api.specs.declared.error.WorkloadApiError.{WorkloadApiError}
use Rattle.spf_api.specs.declared.error.WorkloadApiError.TheVariants as api
use Rattle.spf_api.specs.declared.link.LinkFault.{LinkFault}
use Rattle.spf_api.specs.declared.link.LinkFault.TheVariants as fault
use Rattle.spf_api.specs.declared.response.Response.{Response}
use Rattle.spf_link.specs.Asked.{Starts, Nexts}
use Rattle.spf_link.specs.Interceptor.{Intercepted}
use Rattle.spf_link.specs.Links.{HasLinkCause}
use Rattle.spf_link.specs.declared.link.Link as links
use Rattle.spf_link.specs.declared.request.Request.{Request}
use Rattle.spf_link.specs.declared.request.Start.{Start}
use Rattle.spf_client.specs.Asking.{Begins, TakesFirst, Asks, IsUnsentBy}
use Rattle.spf_client.specs.Causes.{is_refusal, IsOfInterceptor, RefusalsHaveCauses}
use Rattle.spf_client.specs.Reading.{fault_reading, first_response_of, ReadsFirst}
use Rattle.spf_client.proofs.Never.{Never}

later_rose : (a b c : ℕ) → a ≤ b → Rose b c → Rose a c
later_rose a b c le (inl lt) = inl (omega arith)
later_rose a b c le (inr max) = inr max

err_same : {T : Type 0} (d e : WorkloadApiError) (r s : Result T WorkloadApiError) → r ≡ Err d
    → s ≡ Err e → r ≡ s → d ≡ e
err_same d e r s is are same = cc

-- a refusal of the link came only where its count rose
link_refused : {T : Type 0} (f : LinkFault) (before now : ℕ)
    → HasLinkCause {T = T} before now (Err f)
    → is_refusal (fault_reading f) ≡ true → Rose before now
link_refused (fault.Status s) before now cause refusal = cause.refused tt
link_refused (fault.Connect e) before now cause refusal = cause.refused tt
link_refused fault.OutOfMemory before now cause refusal = absurd cc

-- a request that is not sent was refused by the interceptor
unsent : (refusal : Option Refused) (e : WorkloadApiError)
    → IsUnsentBy {T = Unit {0}} refusal (Err e) → is_refusal e ≡ true → IsOfInterceptor refusal e
unsent None api.OutOfMemory why is = absurd cc
unsent (Some s) api.OutOfMemory why is = absurd cc
unsent (Some s) _ why is = record { status = s; refused = refl; read = why }
unsent None _ why is = absurd why

module _ {S : Type 0} (link : links.Ghosts S) (made : Intercepted) (request : Request) where
  abbrev Caused : S → S → WorkloadApiError → Type 0
  Caused old new e = IsOfInterceptor made.refusal e ⊎ Rose (link.refusals old) (link.refusals new)

  sent : (start : Start) (old new : S) (e : WorkloadApiError)
      (answer : Result (Unit {0}) LinkFault) → Starts link old start answer new
      → Err e ≡ broken_as fault_reading answer → is_refusal e ≡ true
      → Rose (link.refusals old) (link.refusals new)
  sent start old new e (Ok x) started read is = absurd cc
  sent start old new e (Err f) started read is = let same =
      err_same e (fault_reading f) _ _ refl refl read in link_refused f _ _ started.cause
      (sym (ap is_refusal same) ∙ is)

  begun : (old new : S) (e : WorkloadApiError) → Begins link made request old (Err e) new
      → is_refusal e ≡ true → Caused old new e
  begun old new e (inl u) is = inl (unsent made.refusal e u.why is)
  begun old new e (inr s) is = inr (sent _ old new e s.answer s.started s.read is)

  -- a request that began left the count no lower
  after_start : (old mid : S) → Begins link made request old (Ok tt) mid
      → link.refusals old ≤ link.refusals mid
  after_start old mid (inl u) = absurd u.why
  after_start old mid (inr s) = s.started.cause.later

  next_refused : (mid new : S) (e : WorkloadApiError) (answer : Result (Option Response) LinkFault)
      → Nexts link mid answer new → Err e ≡ first_response_of answer → is_refusal e ≡ true
      → Rose (link.refusals mid) (link.refusals new)
  next_refused mid new e (Ok None) next read is = let same =
      err_same e api.EmptyResponse _ _ refl refl read in absurd
      (let no : false ≡ true = sym (ap is_refusal same) ∙ is in cc)
  next_refused mid new e (Ok (Some r)) next read is = absurd cc
  next_refused mid new e (Err f) next read is = let same =
      err_same e (fault_reading f) _ _ refl refl read in link_refused f _ _ next.cause
      (sym (ap is_refusal same) ∙ is)

  taken : (old mid new : S) (e : WorkloadApiError) (b : Result (Unit {0}) WorkloadApiError)
      → Begins link made request old b mid → TakesFirst link mid b (Err e) new → is_refusal e ≡ true
      → Caused old new e
  taken old mid new e (Err d) begins takes is =
      let same : d ≡ e = sym (err_same e d _ _ refl refl takes.0) in
      subst (λ n. Caused old n e) (sym takes.1)
      (subst (λ x. Caused old mid x) same (begun old mid d begins (ap is_refusal same ∙ is)))
  taken old mid new e (Ok x) begins takes is =
      inr (later_rose _ _ _ (after_start old mid begins)
      (next_refused mid new e takes.0 takes.1 takes.2 is))

  read : {R X Y : Type 0} (of_kind : R → Response) (rule : R → Result Y WorkloadApiError)
      (view : X → Y) → ((r : R) → Never (rule r))
      → (old new : S) (e : WorkloadApiError) (first : Result Response WorkloadApiError)
      → Asks link made request old first new → ReadsFirst of_kind rule view first (Err e)
      → is_refusal e ≡ true → Caused old new e
  read of_kind rule view never old new e (Err d) asks reads is =
      let same : e ≡ d = err_same e d _ _ refl refl reads in
      subst (λ x. Caused old new x) (sym same)
      (taken old asks.mid new d asks.begun asks.begins asks.takes
      (sym (ap is_refusal same) ∙ is))
  read of_kind rule view never old new e (Ok r) asks reads is = absurd (broken e is reads.read)
    where
      broken : (d : WorkloadApiError) → is_refusal d ≡ true
          → Gives is_memory_api view (Err d) (rule reads.body) → ⊥
      broken api.NoIdentityIssued refusal broke = let no : true ≡ false =
          never reads.body _ broke in cc
      broken (api.PermissionDenied m) refusal broke = let no : true ≡ false =
          never reads.body _ broke in cc
      broken (api.Transport t) refusal broke = let no : true ≡ false =
          never reads.body _ broke in cc
      broken _ refusal broke = cc

pub refusals_caused : {S R X Y : Type 0} (link : links.Ghosts S) (of_kind : R → Response)
    (rule : R → Result Y WorkloadApiError) (view : X → Y) → ((r : R) → Never (rule r))
    → RefusalsHaveCauses link of_kind rule view
refusals_caused link of_kind rule view never made request old new result e fetches is refusal =
    read link made request of_kind rule view never old new e fetches.first fetches.asks
    (subst (λ r. ReadsFirst of_kind rule view fetches.first r) is fetches.reads) refusal
