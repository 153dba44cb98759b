use Rattle.std.proofs.Common.{ap}
use Rattle.spf_feed.specs.Numbered.{LineView}
use Rattle.spf_feed.proofs.ShownLemmas.{shown_again}
use Rattle.spf_feed.proofs.line.NumberedLine.show.Goals as goal

pub returns-else-shows_choice-self : goal.returns-else-shows_choice-self
returns-else-shows_choice-self c = record {
  shows = λ before was.
      shown_again c.args.snapshot.now before c.args.now c.args.self.now
      c.shows_choice-shows_choice.result c.self.inside.shows_choice
      c.shows_choice-shows_choice.ensures c.if-shows_choice-self.false
      (ap (λ (l : LineView). l.shows_choice) c.self.view_is) (was c.if-is_changed.false);
}
