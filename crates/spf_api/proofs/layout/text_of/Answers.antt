use Rattle.std.proofs.Common.{◌≡◌, true, sym, ◌∙◌, refl}
use Rattle.std.proofs.lemmas.Str.{IsUtf8-from_ascii, IsUtf8-from_is_utf8, is_utf8-from_IsUtf8}
use Rattle.std.specs.Str.{is_utf8}
use Rattle.spf_api.proofs.layout.text_of.Goals as goal
use Rattle.spf_api.proofs.layout.text_of.Goals.{then-is_ascii-via-then-is_ascii}
use Rattle.spf_api.proofs.layout.text_of.Goals.{then-is_ascii-via-else-is_ascii+then-is_text}

pub from_utf8_unchecked-requires : goal.from_utf8_unchecked-requires
from_utf8_unchecked-requires c =
    elim c.then-is_ascii.branch [
      | then-is_ascii-via-then-is_ascii w ↦
          IsUtf8-from_ascii c.args.octets.now w.if-is_ascii.ensures.cases
      | then-is_ascii-via-else-is_ascii+then-is_text w ↦
          IsUtf8-from_is_utf8 c.args.octets.now (sym w.is_text.ensures ∙ w.if-is_text.true)
    ]

pub returns-then-is_ascii : goal.returns-then-is_ascii
returns-then-is_ascii c =
    let valid : is_utf8 c.args.octets.now ≡ true =
    elim c.then-is_ascii.branch [
      | then-is_ascii-via-then-is_ascii w ↦
          is_utf8-from_IsUtf8 c.args.octets.now
          (IsUtf8-from_ascii c.args.octets.now w.if-is_ascii.ensures.cases)
      | then-is_ascii-via-else-is_ascii+then-is_text w ↦
          sym w.is_text.ensures ∙ w.if-is_text.true
    ] in
    rw (valid, c.from_utf8_unchecked.ensures) refl
