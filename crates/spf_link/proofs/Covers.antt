-- Only allowed kinds say answers, and a payload of a kind lays out responses of that kind.
use Rattle.std.proofs.Common.{◌≡◌, ℕ, Bool, true, false, List, Option, None, Some, refl, sym, ap}
use Rattle.std.proofs.Common.{subst}
use Rattle.std.specs.Prelude.{IsTrue, Result, Ok, Err, IfOk, IfSome, ◌||◌, ◌&&◌}
use Rattle.spf_api.specs.Payload.{Payload, kind_of}
use Rattle.spf_api.specs.declared.response.Response.{Response}
use Rattle.spf_api.specs.declared.response.Response.TheVariants as response
use Rattle.spf_api.specs.declared.response.ResponseKind.{ResponseKind}
use Rattle.spf_api.specs.declared.response.ResponseKind.TheVariants as kinds
use Rattle.spf_api.specs.Refused.{Refused}
use Rattle.spf_frame.specs.declared.error.FrameError.{FrameError}
use Rattle.spf_link.specs.Answers.{starts, streams, may_start, SaysAtStart, SaysInStream}
use Rattle.spf_link.specs.Answers.{AnswerRead}
use Rattle.spf_link.proofs.AnswerLemmas.{Covers}

passes : (again : Bool) (kind : ℕ) → IsTrue again → IsTrue (streams kind)
    → IsTrue (may_start again kind)
passes again kind is may = by (starts kind) again (streams kind) is may
  where
    by : (a b c : Bool) → IsTrue b → IsTrue c → IsTrue (a || (b && c))
    by true b c p q = refl
    by false true true p q = refl
    by false true false p q = absurd cc
    by false false c p q = absurd cc

pub start_covers : (again : Bool) → Covers (SaysAtStart again) (may_start again)
start_covers again kind payload None says = passes again kind says.0 says.1
start_covers again kind payload (Some (Ok x)) says =
    subst (λ k. IsTrue (may_start again k)) (sym says.0) refl
start_covers again kind payload (Some (Err s)) says =
    subst (λ k. IsTrue (may_start again k)) (sym says.0) refl

pub stream_covers : (asked : ResponseKind) → Covers (SaysInStream asked) streams
stream_covers asked kind payload (Ok None) says = subst (λ k. IsTrue (streams k)) (sym says.0) refl
stream_covers asked kind payload (Ok (Some r)) says =
    subst (λ k. IsTrue (streams k)) (sym says.0) refl
stream_covers asked kind payload (Err s) says = subst (λ k. IsTrue (streams k)) (sym says.0) refl

pub kind_is : (asked : ResponseKind) (payload : List ℕ) (r : Response) → Payload asked payload r
    → asked ≡ kind_of r
unfolding Payload
kind_is kinds.Context payload (response.Context r) laid = refl
kind_is kinds.Context payload (response.Bundles r) laid = absurd laid
kind_is kinds.Context payload (response.JwtSvids r) laid = absurd laid
kind_is kinds.Context payload (response.JwtBundles r) laid = absurd laid
kind_is kinds.Context payload (response.Validation r) laid = absurd laid
kind_is kinds.Bundles payload (response.Context r) laid = absurd laid
kind_is kinds.Bundles payload (response.Bundles r) laid = refl
kind_is kinds.Bundles payload (response.JwtSvids r) laid = absurd laid
kind_is kinds.Bundles payload (response.JwtBundles r) laid = absurd laid
kind_is kinds.Bundles payload (response.Validation r) laid = absurd laid
kind_is kinds.JwtSvids payload (response.Context r) laid = absurd laid
kind_is kinds.JwtSvids payload (response.Bundles r) laid = absurd laid
kind_is kinds.JwtSvids payload (response.JwtSvids r) laid = refl
kind_is kinds.JwtSvids payload (response.JwtBundles r) laid = absurd laid
kind_is kinds.JwtSvids payload (response.Validation r) laid = absurd laid
kind_is kinds.JwtBundles payload (response.Context r) laid = absurd laid
kind_is kinds.JwtBundles payload (response.Bundles r) laid = absurd laid
kind_is kinds.JwtBundles payload (response.JwtSvids r) laid = absurd laid
kind_is kinds.JwtBundles payload (response.JwtBundles r) laid = refl
kind_is kinds.JwtBundles payload (response.Validation r) laid = absurd laid
kind_is kinds.Validation payload (response.Context r) laid = absurd laid
kind_is kinds.Validation payload (response.Bundles r) laid = absurd laid
kind_is kinds.Validation payload (response.JwtSvids r) laid = absurd laid
kind_is kinds.Validation payload (response.JwtBundles r) laid = absurd laid
kind_is kinds.Validation payload (response.Validation r) laid = refl

-- a response that was read is of the kind that was asked for
pub kind_read : (asked : ResponseKind) (old new : Option (List ℕ))
    (r : Result (Result (Option Response) Refused) FrameError)
    → AnswerRead (SaysInStream asked) streams old new r
    → IfOk r (λ a. IfOk a (λ o. IfSome o (λ x. Some asked ≡ Some (kind_of x))))
kind_read asked old new (Ok (Ok (Some x))) read = ap Some (kind_is asked read.payload x read.says.1)
kind_read asked old new (Ok (Ok None)) read = tt
kind_read asked old new (Ok (Err s)) read = tt
kind_read asked old new (Err e) read = tt
