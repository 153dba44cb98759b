use Rattle.std.proofs.Common.{◌≡◌, length}
use Rattle.std.specs.List.{list_all}
use Rattle.spf_jwt.specs.Validation.{is_words}
use Rattle.spf_jwt.proofs.validation.all_texts.Given as goal

abbrev pub invariant-loop-value : goal.invariant-loop-value
invariant-loop-value l = list_all is_words l.rest ≡ list_all is_words l.values

abbrev pub decreases-loop-value : goal.decreases-loop-value
decreases-loop-value l = length l.rest
