-- The status of a run, and whether it has arguments.
use Rattle.std.proofs.Common.{◌≡◌, refl, sym, ap, ◌∙◌, ℕ, Bool, true, false, Result, Ok, Err}
use Rattle.std.specs.Prelude.{◌↔◌, ◌≢◌, IsErrOf}
use Rattle.spf_feed.specs.declared.state.X509SourceError.{X509SourceError}
use Rattle.spf_feed.specs.declared.state.X509SourceError.TheVariants as source
use Rattle.spf_gate.specs.declared.gate_error.GateError.{GateError}
use Rattle.spf_gate.specs.declared.gate_error.GateError.TheVariants as gate
use Rattle.spf_gate_live.specs.Ends.{end_of, end_status, error_of, error_status, gate_number}
use Rattle.spf_gate_live.specs.declared.live_error.LiveGateError.{LiveGateError}
use Rattle.spf_gate_live.specs.declared.live_error.LiveGateError.TheVariants as errors

gate_is_no_nine : (e : GateError) → gate_number e ≡ 9 → ⊥
gate_is_no_nine gate.ReadFault nine = cc
gate_is_no_nine gate.WriteFault nine = cc
gate_is_no_nine (gate.BadRule line) nine = cc
gate_is_no_nine gate.NoPolicyEnd nine = cc
gate_is_no_nine (gate.LineTooLong line) nine = cc
gate_is_no_nine (gate.NotText line) nine = cc
gate_is_no_nine gate.TooManyLines nine = cc
gate_is_no_nine gate.OutOfMemory nine = cc

error_is_no_nine : (e : X509SourceError) → error_status (error_of e) ≡ 9 → ⊥
error_is_no_nine (source.Source e) nine = cc
error_is_no_nine (source.UnsupportedRpc e) nine = cc
error_is_no_nine source.NoPlace nine = cc
error_is_no_nine source.NoSupervisor nine = cc
error_is_no_nine source.InitialSyncTimeout nine = cc
error_is_no_nine source.OutOfMemory nine = cc
error_is_no_nine source.NoSuitableSvid nine = cc
error_is_no_nine (source.Withdrawn d) nine = cc
error_is_no_nine source.Closed nine = cc
error_is_no_nine source.StreamEnded nine = cc
error_is_no_nine (source.ResourceLimitExceeded k l a) nine = cc
error_is_no_nine (source.ShutdownTimeout s t) nine = cc

end_is_no_nine : (served : Result ℕ GateError) (recorded : Bool)
    → end_status (end_of served recorded) ≡ 9 → ⊥
end_is_no_nine (Ok count) true nine = cc
end_is_no_nine (Ok count) false nine = cc
end_is_no_nine (Err e) recorded nine = gate_is_no_nine e nine

-- without arguments there is another status
pub not_nine : (status count : ℕ) → (status ≡ 9 → ⊥) → count ≡ 0 → (status ≡ 9) ↔ (count ≢ 0)
not_nine status count other none = ((λ nine. absurd (other nine)), (λ some. absurd (some none)))

pub nine_of_error : (status : ℕ) (e : X509SourceError) (error : LiveGateError)
    → error ≡ error_of e → status ≡ error_status error → status ≡ 9 → ⊥
nine_of_error status e error is status_is nine =
    error_is_no_nine e (sym (status_is ∙ ap error_status is) ∙ nine)

pub nine_of_end : (status : ℕ) (served : Result ℕ GateError) (recorded : Bool)
    (end : Result (Unit {0}) LiveGateError) → end ≡ end_of served recorded
    → status ≡ end_status end → status ≡ 9 → ⊥
nine_of_end status served recorded end is status_is nine =
    end_is_no_nine served recorded (sym (status_is ∙ ap end_status is) ∙ nine)

by_nine : (r : Result (Unit {0}) LiveGateError) → end_status r ≡ 9 → r ≡ Err errors.BadArguments
by_nine (Ok done) nine = cc
by_nine (Err errors.BadArguments) nine = refl
by_nine (Err (errors.Gate e)) nine = absurd (gate_is_no_nine e nine)
by_nine (Err errors.Rejected) nine = cc
by_nine (Err errors.Unsupported) nine = cc
by_nine (Err errors.NoSupervisor) nine = cc
by_nine (Err errors.NoPlace) nine = cc

-- an end that does not speak of arguments
pub nine_of_other : (status : ℕ) (end : Result (Unit {0}) LiveGateError)
    → (end ≡ Err errors.BadArguments → ⊥) → status ≡ end_status end → status ≡ 9 → ⊥
nine_of_other status end other status_is nine = other (by_nine end (sym status_is ∙ nine))

pub nine_of_refusal : (status : ℕ) → status ≡ end_status (Err errors.NoSupervisor) → status ≡ 9 → ⊥
nine_of_refusal status status_is nine = cc

-- another status does not refuse the arguments
pub no_refusal : (end : Result (Unit {0}) LiveGateError) → (end_status end ≡ 9 → ⊥)
    → IsErrOf end errors.BadArguments → ⊥
no_refusal end other is = other (ap end_status is)
