-- What may be published, and what a publish leaves.
use Rattle.std.proofs.Common.{◌≡◌, ◌++◌, ◌∷◌, [], List, Option, Some, Result, Ok, Err}
use Rattle.std.proofs.Common.{OnOk, OnErr, ap, ◌∙◌}
use Rattle.std.specs.List.{AllByRecursion}
use Rattle.spf_board.specs.declared.entry.Entry.TheVariants as entry
use Rattle.spf_board.specs.Lists.{steps_of}
use Rattle.spf_board.specs.Past.{Past, added}
use Rattle.spf_board.proofs.Prefixes.{steps_more}
use Rattle.spf_view.specs.Steps.{Accept, Deny, BeginsWithAccept, IsFit}
use Rattle.spf_feed.specs.Records.{RecordAppends}
use Rattle.spf_jwt_feed.specs.Steps.{MayFollow, PlainStep, fits}
use Rattle.spf_jwt_source.specs.Steps.{Legal}

fits_next : (known : Option (List PlainStep)) (step : PlainStep) → MayFollow known step
    → IsFit fits step
fits_next known (Accept material limits) may = may
fits_next known (Deny reason) may = tt

each_more : (steps : List PlainStep) (step : PlainStep) → AllByRecursion (IsFit fits) steps
    → IsFit fits step → AllByRecursion (IsFit fits) (steps ++ step ∷ [])
each_more [] step each fit = (fit, each)
each_more (s ∷ steps) step each fit = (each.0, each_more steps step each.1 fit)

begins_more : (steps : List PlainStep) (step : PlainStep) → BeginsWithAccept steps
    → BeginsWithAccept (steps ++ step ∷ [])
begins_more [] step begins = absurd begins
begins_more (Accept material limits ∷ later) step begins = tt
begins_more (Deny reason ∷ later) step begins = absurd begins

pub legal_next : (steps : List PlainStep) (step : PlainStep) → Legal steps
    → MayFollow (Some steps) step → Legal (steps ++ step ∷ [])
legal_next steps step legal may = record {
  begins = begins_more steps step legal.begins;
  each = each_more steps step legal.each (fits_next (Some steps) step may);
}

pub appended : {S E : Type 0} (r : Result (Unit {0}) E) (old new : Past S) (s : S)
    → OnOk r (new ≡ added old (entry.Step s)) → OnErr r (new ≡ old)
    → RecordAppends (Some (steps_of old.list)) (Some (steps_of new.list)) r s
appended (Ok t) old new s ok err = ap (λ p. steps_of p.list) ok ∙ steps_more old.list s
appended (Err e) old new s ok err = ap (λ p. steps_of p.list) err
