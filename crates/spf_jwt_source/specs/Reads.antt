-- What the calls of a source return, and what they do to the pass that they are lent.
use Rattle.std.specs.Prelude.{◌≡◌, ◌≢◌, ◌⊎◌, ℕ, Bool, List, Option, Some, None}
use Rattle.std.specs.Prelude.{Result, Ok, Err}
use Rattle.std.specs.Option.{option_map, option_and_then}
use Rattle.std.specs.Arc.{arc_value}
use Rattle.std.specs.declared.alloc.Global.{Global}
use Rattle.std.specs.declared.sync.Arc.{Arc}
use Rattle.spf_io.specs.declared.memory.OutOfMemory.{OutOfMemory}
use Rattle.spf_view.specs.Views.{View}
use Rattle.spf_view.specs.Standing.{held_in, reason_of}
use Rattle.spf_x509.specs.Bundle.{find_entry}
use Rattle.spf_board.specs.Passes.{Renews}
use Rattle.spf_system.specs.Marks.{mark_by}
use Rattle.spf_system.specs.declared.maker.Maker.TheVariants as makers
use Rattle.spf_feed.specs.declared.step.Denial.{Denial}
use Rattle.spf_jwt.specs.Bundle.{Bundle}
use Rattle.spf_jwt_feed.specs.declared.state.JwtSourceError.{JwtSourceError}
use Rattle.spf_jwt_feed.specs.declared.state.JwtSourceError.TheVariants as errors
use Rattle.spf_jwt_feed.specs.States.{StateView}
use Rattle.spf_jwt_feed.specs.Steps.{BundleSet, PlainStep}
use Rattle.spf_jwt_source.specs.Passes.{PassView, read_of}
use Rattle.spf_jwt_source.specs.Steps.{Legal, Replays, is_usable}
use Rattle.spf_jwt_source.specs.States.{IsStateOf, showing}
use Rattle.spf_jwt.specs.Token.{Svid}
use Rattle.spf_link.specs.declared.connector.Connector as connectors
use Rattle.spf_link.specs.declared.link.Link as links
use Rattle.spf_link.specs.declared.request.Request.{Request}
use Rattle.spf_jwt_client.specs.Fetching.{FetchesJwt, Fetcher}
use Rattle.spf_board.specs.Passing.{FollowsBy, IsHealthyBy}
pub use Rattle.spf_board.specs.Passing.{IsClosedByCaller, LooksAt, SaysClosed, SeesNoLess}
use Rattle.spf_board.specs.Showing.{HasPlaceCauseBy, IsRevisionBy}
use Rattle.spf_board.specs.Sources.{Source, Updates}

-- something is so of a state that the pass has read, and it knows of no mark of the closed cell
pub record Reads (old new : PassView) (holds : View BundleSet Denial → Type 0) : Type 0 where
  pub state : StateView
  pub read : IsStateOf new.seen state.closed state
  pub renews : Renews Legal (read_of old) (read_of new)
  pub is_so : holds state.view
  pub open_source : new.closed ≡ None

-- What a getter returns: what the getter of a state returns that the pass has read. Where a caller
-- closed this cell, the pass knows that by a note, and nothing is read.
abbrev pub Gets : {T : Type 0} → (View BundleSet Denial → Result T JwtSourceError → Type 0)
    → ℕ → PassView → PassView → Result T JwtSourceError → Type 0
Gets answer cell old new (Err errors.Closed) =
    new ≡ record old { closed = Some (mark_by cell makers.Caller) }
Gets answer cell old new (Err errors.OutOfMemory) = Unit {0}
Gets answer cell old new (Err e) = Reads old new (λ view. answer view (Err e))
Gets answer cell old new (Ok x) = Reads old new (λ view. answer view (Ok x))

-- the bundle of a trust domain, or the reason of the withdrawal
abbrev pub BundleAnswer : View BundleSet Denial → List ℕ
    → Result (Option (Arc Bundle Global)) JwtSourceError → Type 0
BundleAnswer view domain (Ok bundle) =
    option_and_then (find_entry domain) (held_in view) ≡ option_map arc_value bundle
BundleAnswer view domain (Err (errors.Withdrawn reason)) = reason_of view ≡ Some (arc_value reason)
BundleAnswer view domain (Err errors.OutOfMemory) = Unit {0}
BundleAnswer view domain (Err _) = ⊥

-- the bundle of a trust domain, and none where there is no bundle, or the getter returns an error
-- other than out of memory
abbrev pub TriesBundle : List ℕ → ℕ → PassView → PassView
    → Result (Option (Arc Bundle Global)) OutOfMemory → Type 0
TriesBundle domain cell old new (Ok (Some bundle)) =
    Gets (λ view. BundleAnswer view domain) cell old new (Ok (Some bundle))
TriesBundle domain cell old new (Ok None) =
    Gets (λ view. BundleAnswer view domain) cell old new (Ok None)
    ⊎ ((e : JwtSourceError) × (e ≢ errors.OutOfMemory)
    × Gets (λ view. BundleAnswer view domain) cell old new (Err e))
TriesBundle domain cell old new (Err e) = Unit {0}

-- whether a source is healthy: what is published is usable
abbrev pub IsHealthy : ℕ → PassView → PassView → Bool → Type 0
IsHealthy cell old new healthy = IsHealthyBy Legal Replays is_usable cell old new healthy

-- No place comes only where the count of refused places rose; the only other error is out of
-- memory.
abbrev pub HasPlaceCause : {T : Type 0} → ℕ → ℕ → Result T JwtSourceError → Type 0
HasPlaceCause before now result = HasPlaceCauseBy showing before now result

-- the revision of the state that a pass has read
abbrev pub IsRevision : PassView → ℕ → Type 0
IsRevision pass revision = IsRevisionBy showing pass revision

-- updates of a source
abbrev pub Follows : Source → PassView → Updates PlainStep → Type 0
Follows source giver updates = FollowsBy IsRevision source giver updates

-- something holds of the view of a state that the pass has read
abbrev pub OfState : PassView → (View BundleSet Denial → Type 0) → Type 0
OfState pass holds =
    (state : StateView) × IsStateOf pass.seen state.closed state × holds state.view

-- the error of a closed source, or out of memory
abbrev pub IsClosing : {T : Type 0} → Result T JwtSourceError → Type 0
IsClosing (Err errors.Closed) = Unit {0}
IsClosing (Err errors.OutOfMemory) = Unit {0}
IsClosing _ = ⊥

-- A live fetch: where the source is closed the fetcher is left as it was, and otherwise the result
-- is that of the fetcher.
abbrev pub FetchesLive : {S L : Type 0} → connectors.Ghosts S L → links.Ghosts L → Request
    → Fetcher S L → Result Svid JwtSourceError → Fetcher S L → Type 0
FetchesLive connector link request old result new =
    (IsClosing result × (new ≡ old)) ⊎ FetchesJwt connector link request old result new
