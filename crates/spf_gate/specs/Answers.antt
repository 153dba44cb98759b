-- The lines that answer asks.
use Rattle.std.specs.Prelude.{ℕ, List, [], ◌∷◌, ◌++◌, codes, decimal, Result, Ok, Err}
use Rattle.spf_id.specs.Id.{Id}
use Rattle.spf_id.specs.Rule.{id_rule}
use Rattle.spf_id.specs.declared.error.SpiffeIdError.{SpiffeIdError}
use Rattle.spf_id.specs.declared.error.SpiffeIdError.TheVariants as id_errors
use Rattle.spf_feed.specs.Steps.{StateView}
use Rattle.spf_gate.specs.declared.rule.Rule.{Rule}
use Rattle.spf_gate.specs.declared.verdict.Verdict.{Verdict}
use Rattle.spf_gate.specs.declared.verdict.Verdict.TheVariants as verdicts
use Rattle.spf_gate.specs.Verdicts.{verdict_of}

-- the number of the rule of IDs that is broken, from 1
abbrev pub error_number : SpiffeIdError → ℕ
error_number id_errors.Empty = 1
error_number id_errors.TooLong = 2
error_number id_errors.WrongScheme = 3
error_number id_errors.MissingTrustDomain = 4
error_number id_errors.TrustDomainTooLong = 5
error_number id_errors.BadTrustDomainChar = 6
error_number id_errors.EmptySegment = 7
error_number id_errors.DotSegment = 8
error_number id_errors.BadPathChar = 9
error_number id_errors.TrailingSlash = 10
error_number id_errors.OutOfMemory = 11

-- a verdict, with a space after it
abbrev pub verdict_text : Verdict → List ℕ
verdict_text (verdicts.Withdrawn revision) = codes "withdrawn " ++ (decimal revision ++ codes " ")
verdict_text (verdicts.NoBundle revision) = codes "no-bundle " ++ (decimal revision ++ codes " ")
verdict_text (verdicts.NoRule revision) = codes "no-rule " ++ (decimal revision ++ codes " ")
verdict_text (verdicts.Denied revision rule) =
    codes "denied " ++ (decimal revision ++ (codes " " ++ (decimal rule ++ codes " ")))
verdict_text (verdicts.Admitted revision rule) =
    codes "admitted " ++ (decimal revision ++ (codes " " ++ (decimal rule ++ codes " ")))

-- the answer to an ask that is an ID, or breaks a rule of IDs
abbrev pub answer_to : List Rule → StateView → List ℕ → Result Id SpiffeIdError → List ℕ
answer_to rules state ask (Ok id) =
    verdict_text (verdict_of rules state.view state.revision id) ++ ask
answer_to rules state ask (Err e) = codes "bad-id " ++ decimal (error_number e)

-- the line that answers an ask by the state that was read
unfoldable pub answer_line : List Rule → StateView → List ℕ → List ℕ
answer_line rules state ask = answer_to rules state ask (id_rule ask) ++ 10 ∷ []
