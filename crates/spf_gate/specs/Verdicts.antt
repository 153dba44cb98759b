-- What a policy says of an ID.
use Rattle.std.specs.Prelude.{ℕ, ◌+◌, Bool, true, false, List, [], ◌∷◌, Option, Some, None}
use Rattle.std.specs.Prelude.{is_some, if◌then◌else◌}
use Rattle.spf_id.specs.Id.{Id}
use Rattle.spf_x509.specs.Bundle.{find_entry}
use Rattle.spf_feed.specs.declared.step.Denial.{Denial}
use Rattle.spf_feed.specs.Steps.{View, Material, held_in}
use Rattle.spf_gate.specs.declared.rule.Rule.{Rule}
use Rattle.spf_gate.specs.declared.verdict.Verdict.{Verdict}
use Rattle.spf_gate.specs.declared.verdict.Verdict.TheVariants as verdicts
use Rattle.spf_gate.specs.Rules.{matches}

-- whether the first rule that matches allows, and its number, where `number` is that of the first
abbrev pub first_match : ℕ → List Rule → Id → Option (Bool × ℕ)
first_match number [] id = None
first_match number (r ∷ rules) id =
    if matches r.pattern id then Some (r.allow, number) else first_match (number + 1) rules id

-- the verdict by the first rule that matches
abbrev pub verdict_by : ℕ → Option (Bool × ℕ) → Verdict
verdict_by revision None = verdicts.NoRule revision
verdict_by revision (Some (true, number)) = verdicts.Admitted revision number
verdict_by revision (Some (false, number)) = verdicts.Denied revision number

-- the verdict by what is held: nothing while withdrawn
abbrev pub verdict_with : List Rule → Option Material → ℕ → Id → Verdict
verdict_with rules None revision id = verdicts.Withdrawn revision
verdict_with rules (Some material) revision id =
    if is_some (find_entry id.domain material.context.bundles)
    then verdict_by revision (first_match 1 rules id) else verdicts.NoBundle revision

-- The verdict of the rules on an ID, by a view and its revision: Withdrawn where the view is;
-- NoBundle where its bundle set has no bundle of the ID's trust domain; otherwise by the first rule
-- that matches.
abbrev pub verdict_of : List Rule → View Material Denial → ℕ → Id → Verdict
verdict_of rules view revision id = verdict_with rules (held_in view) revision id
