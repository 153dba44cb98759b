use Rattle.std.proofs.Common.{refl, Some}
use Rattle.std.proofs.lemmas.Str.{is_utf8-from_IsUtf8}
use Rattle.spf_api.proofs.Utf8.{is_utf8-false}
use Rattle.spf_disk.specs.Format.{text_at}
use Rattle.spf_disk.proofs.reader.read_text.Goals as goal

pub returns-in-Ok : goal.returns-in-Ok
unfolding text_at
returns-in-Ok c =
    rw (← c.in_ok-text.ensures, is_utf8-from_IsUtf8 c.in_ok-text.text.now c.in-Ok.ensures.cases.1)
    (λ i. Some (c.in-Ok.ensures.cases.0 i, c.in_ok-text.rest.now))

pub returns-in-Err : goal.returns-in-Err
unfolding text_at
returns-in-Err c =
    rw (← c.in_ok-text.ensures, is_utf8-false c.in_ok-text.text.now c.in-Err.ensures.cases.0) refl
