-- What a state says that was read through a pass, and what an error tells.
use Rattle.std.specs.Prelude.{◌≡◌, Bool, List}
use Rattle.spf_board.specs.declared.entry.Entry.{Entry}
use Rattle.spf_board.specs.Lists.{steps_of}
use Rattle.spf_feed.specs.declared.state.X509SourceError.{X509SourceError}
use Rattle.spf_feed.specs.declared.state.X509SourceError.TheVariants as errors
use Rattle.spf_feed.specs.Steps.{PlainStep, StateView}
use Rattle.spf_board.specs.Showing.{Showing, Told, ToldClosed, ToldMemory, ToldNoPlace, ToldOther}
use Rattle.spiffe.specs.Steps.{Legal, Replays}

-- the state is the replay of the steps of a legal board list, and says whether the source is closed
pub record IsStateOf (list : List (Entry PlainStep)) (closed : Bool) (s : StateView) : Type 0 where
  pub replay : Replays (steps_of list) (record { revision = s.revision; view = s.view })
  pub legal : Legal (steps_of list)
  pub closed_is : s.closed ≡ closed

abbrev pub told : X509SourceError → Told
told errors.Closed = ToldClosed
told errors.OutOfMemory = ToldMemory
told errors.NoPlace = ToldNoPlace
told _ = ToldOther

-- what the states and the errors of X.509 sources say
abbrev pub showing : Showing PlainStep StateView X509SourceError
showing = record {
  is_state = IsStateOf;
  closed_of = λ s. s.closed;
  revision_of = λ s. s.revision;
  told = told;
  timed_out = errors.ShutdownTimeout;
}
