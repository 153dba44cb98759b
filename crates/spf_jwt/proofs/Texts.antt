-- The values of bytes.
use Rattle.std.proofs.Common.{◌≡◌, ℕ, Bool, true, false, List, None, refl}
use Rattle.std.proofs.Common.{◌↔◌}
use Rattle.std.specs.Prelude.{IsTrue}
use Rattle.std.specs.Bool.{MatchBool}
use Rattle.std.specs.Str.{IsUtf8, is_utf8}
use Rattle.std.proofs.lemmas.Str.{IsUtf8-from_is_utf8, is_utf8-from_IsUtf8}
use Rattle.serde_json.specs.Read.{read}
use Rattle.serde_json.specs.Errors.{IsMemory}
use Rattle.serde_json.specs.declared.error.Error.{Error}
use Rattle.spf_jwt.specs.declared.json.JsonFault.{JsonFault}
use Rattle.spf_jwt.specs.Errors.{is_memory_json}
use Rattle.spf_jwt.specs.Json.{data_of}

pub of_text : (bytes : List ℕ) → IsUtf8 bytes → data_of bytes ≡ read bytes
unfolding data_of
of_text bytes text = rw (is_utf8-from_IsUtf8 bytes text) refl

not_utf8 : (bytes : List ℕ) (b : Bool) → is_utf8 bytes ≡ b → (IsUtf8 bytes → ⊥)
    → data_of bytes ≡ None
unfolding data_of
not_utf8 bytes true is other = absurd (other (IsUtf8-from_is_utf8 bytes is))
not_utf8 bytes false is other = rw is refl

pub of_no_text : (bytes : List ℕ) → (IsUtf8 bytes → ⊥) → data_of bytes ≡ None
of_no_text bytes other = not_utf8 bytes (is_utf8 bytes) refl other

refused : {P : Type 0} (m : Bool) (e : Error) → (IsTrue m → IsMemory e)
    → ((IsMemory e → ⊥) → P) → (IsMemory e → IsTrue m) → MatchBool m (Unit {0}) P
refused true e says p back = tt
refused false e says p back = p (λ h. absurd (cc (back h)))

pub unless_memory : {P : Type 0} (fault : JsonFault) (e : Error)
    → (IsTrue (is_memory_json fault) ↔ IsMemory e) → ((IsMemory e → ⊥) → P)
    → MatchBool (is_memory_json fault) (Unit {0}) P
unless_memory fault e iff p = refused (is_memory_json fault) e iff.0 p iff.1
