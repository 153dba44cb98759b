-- The summary of a session that is followed to its end.
use Rattle.std.proofs.Common.{◌≡◌, ℕ, ◌-◌, ◌^◌, ◌<◌, List, [], length, Option, None, Some, Ok}
use Rattle.std.proofs.Common.{subst, ◌∙◌, arith}
use Rattle.spf_view.specs.Sessions.{Followed, Whole}
use Rattle.spf_view.specs.Views.{revision_after}
use Rattle.spf_feed.specs.declared.limits.ResourceLimits.{ResourceLimits}
use Rattle.spf_feed.specs.declared.ready.Ready.TheVariants as readiness
use Rattle.spf_feed.specs.Items.{rules_with, subject}
use Rattle.spf_feed.specs.Run.{outputs, stream}
use Rattle.spf_feed.proofs.PlainLines.{line_is_line}
use Rattle.spf_watch.specs.declared.arguments.MakeArguments.{MakeArguments}
use Rattle.spf_watch.specs.Headline.{ports, FollowedBy, IsSummary, rules_for}
use Rattle.spf_watch.specs.Headline.{x509_session}
use Rattle.spf_watch.specs.MadeSession.{made_session}
use Rattle.spf_watch.specs.Setting.{default_setting}
use Rattle.spf_watch.specs.Summary.{summary_line, withdrawn_of}
use Rattle.spf_watch.specs.Tallied.{tally_of}
use Rattle.spf_watch.proofs.HeadlineLemmas.{counted}
use Rattle.spf_watch.proofs.Tallied.{tally_said}

-- the line of what a tally says of the lines of a generated session
pub summed : (arguments : MakeArguments) (left' : Option (List ℕ)) (held : List ℕ)
    (count revision withdrawn : ℕ)
    → FollowedBy (x509_session default_setting) (Some (made_session arguments)) left' (Some [])
    (Some held) (Ok count)
    → revision ≡ (tally_of held).revision → withdrawn ≡ (tally_of held).withdrawn
    → IsSummary arguments (summary_line count revision withdrawn)
summed arguments left' held count revision withdrawn f r w =
    let shown =
    counted (x509_session default_setting) (made_session arguments) left' (Some []) (Some held)
    count f in
    let session = shown.0.session in
    let rules = rules_for default_setting in
    let few : length session.es < 2 ^ 64 - 1 = omega (arith, session.reading.reads.bound) in
    let said = tally_said rules session.es held few (λ past e. line_is_line rules past e)
    shown.0.lines in
    let revisions : revision ≡ revision_after (subject rules) session.es = r ∙ said.0 in
    let withdrawals : withdrawn ≡ withdrawn_of rules [] session.es = w ∙ said.1 in
    record {
      session = session;
      is = λ i. summary_line (shown.1 i) (revisions i) (withdrawals i);
    }

-- the same of what a run with the limits of the setting starts with and leaves
pub summed_by : (arguments : MakeArguments) (left left' held : Option (List ℕ)) (held' : List ℕ)
    (limits : ResourceLimits) (count revision withdrawn : ℕ)
    → left ≡ Some (made_session arguments) → held ≡ Some [] → limits ≡ default_setting.limits
    → Followed (stream (rules_with limits None readiness.Usable None))
    (outputs (rules_with limits None readiness.Usable None)) 1000000 (ports left held)
    (ports left' (Some held')) (Whole count)
    → revision ≡ (tally_of held').revision → withdrawn ≡ (tally_of held').withdrawn
    → IsSummary arguments (summary_line count revision withdrawn)
summed_by arguments left left' held held' limits count revision withdrawn made none same f r w =
    let F : Option (List ℕ) → Option (List ℕ) → ResourceLimits → Type 0 =
    λ l h x. Followed (stream (rules_with x None readiness.Usable None))
    (outputs (rules_with x None readiness.Usable None)) 1000000 (ports l h)
    (ports left' (Some held')) (Whole count) in
    let first = subst (λ l. F l held limits) made f in
    let second = subst (λ h. F (Some (made_session arguments)) h limits) none first in
    summed arguments left' held' count revision withdrawn
    (subst (λ x. F (Some (made_session arguments)) (Some []) x) same second) r w
