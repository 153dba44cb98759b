-- What the calls of a source return, and what they do to the pass that they are lent.
use Rattle.std.specs.Prelude.{◌≡◌, ◌≢◌, ◌⊎◌, ℕ, ℤ, Bool, List, Option, Some, None}
use Rattle.std.specs.Prelude.{Result, Ok, Err}
use Rattle.std.specs.Option.{option_map, option_and_then}
use Rattle.std.specs.Arc.{arc_value}
use Rattle.std.specs.declared.alloc.Global.{Global}
use Rattle.std.specs.declared.sync.Arc.{Arc}
use Rattle.spf_x509.specs.Bundle.{Bundle, find_entry}
use Rattle.spf_feed.specs.declared.state.X509SourceError.{X509SourceError}
use Rattle.spf_feed.specs.declared.state.X509SourceError.TheVariants as errors
use Rattle.spf_feed.specs.declared.step.Denial.{Denial}
use Rattle.spf_feed.specs.Steps.{StateView, View, Material, PlainStep, held_in, reason_of}
use Rattle.spf_io.specs.declared.memory.OutOfMemory.{OutOfMemory}
use Rattle.spf_board.specs.Passes.{Renews}
use Rattle.spf_system.specs.Marks.{mark_by}
use Rattle.spf_system.specs.declared.maker.Maker.TheVariants as makers
use Rattle.spiffe.specs.Passes.{PassView, read_of}
use Rattle.spiffe.specs.Steps.{Legal, Replays, is_usable}
use Rattle.spiffe.specs.States.{IsStateOf, showing}
use Rattle.spf_board.specs.Passing.{FollowsBy, IsHealthyBy}
pub use Rattle.spf_board.specs.Passing.{IsClosedByCaller, LooksAt, SaysClosed, SeesNoLess}
use Rattle.spf_board.specs.Showing.{HasPlaceCauseBy, IsRevisionBy}
use Rattle.spf_board.specs.Sources.{Source, Updates}

-- the bundles of a set, by the names of their trust domains
abbrev pub Bundles : Type 0
Bundles = List (List ℕ × Bundle)

-- something is so of a state that the pass has read, and it knows of no mark of the closed cell
pub record Reads (old new : PassView) (holds : View Material Denial → Type 0) : Type 0 where
  pub state : StateView
  pub read : IsStateOf new.seen state.closed state
  pub renews : Renews Legal (read_of old) (read_of new)
  pub is_so : holds state.view
  pub open_source : new.closed ≡ None

-- What a getter returns: what the getter of a state returns that the pass has read. Where a caller
-- closed this cell, the pass knows that by a note, and nothing is read.
abbrev pub Gets : {T : Type 0} → (View Material Denial → Result T X509SourceError → Type 0)
    → ℕ → PassView → PassView → Result T X509SourceError → Type 0
Gets answer cell old new (Err errors.Closed) =
    new ≡ record old { closed = Some (mark_by cell makers.Caller) }
Gets answer cell old new (Err errors.OutOfMemory) = Unit {0}
Gets answer cell old new (Err e) = Reads old new (λ view. answer view (Err e))
Gets answer cell old new (Ok x) = Reads old new (λ view. answer view (Ok x))

-- What a `try_` call returns: the value of the getter, and none where the getter returns an error
-- other than out of memory.
abbrev pub Tries : {T : Type 0} → (View Material Denial → Result T X509SourceError → Type 0)
    → ℕ → PassView → PassView → Result (Option T) OutOfMemory → Type 0
Tries answer cell old new (Ok (Some x)) = Gets answer cell old new (Ok x)
Tries answer cell old new (Ok None) =
    (e : X509SourceError) × (e ≢ errors.OutOfMemory) × Gets answer cell old new (Err e)
Tries answer cell old new (Err e) = Unit {0}

-- the bundles of the held context, or the reason of the withdrawal
abbrev pub BundlesAnswer : View Material Denial → Result (Arc Bundles Global) X509SourceError
    → Type 0
BundlesAnswer view (Ok bundles) =
    option_map (λ (m : Material). m.context.bundles) (held_in view) ≡ Some (arc_value bundles)
BundlesAnswer view (Err (errors.Withdrawn reason)) = reason_of view ≡ Some (arc_value reason)
BundlesAnswer view (Err errors.OutOfMemory) = Unit {0}
BundlesAnswer view (Err _) = ⊥

-- the bundle of a trust domain, or the reason of the withdrawal
abbrev pub BundleAnswer : View Material Denial → List ℕ
    → Result (Option (Arc Bundle Global)) X509SourceError → Type 0
BundleAnswer view domain (Ok bundle) =
    option_and_then (λ (m : Material). find_entry domain m.context.bundles) (held_in view)
    ≡ option_map arc_value bundle
BundleAnswer view domain (Err (errors.Withdrawn reason)) = reason_of view ≡ Some (arc_value reason)
BundleAnswer view domain (Err errors.OutOfMemory) = Unit {0}
BundleAnswer view domain (Err _) = ⊥

-- the bundle of a trust domain, and none where there is no bundle, or the getter returns an error
-- other than out of memory
abbrev pub TriesBundle : List ℕ → ℕ → PassView → PassView
    → Result (Option (Arc Bundle Global)) OutOfMemory → Type 0
TriesBundle domain cell old new (Ok (Some bundle)) =
    Gets (λ view. BundleAnswer view domain) cell old new (Ok (Some bundle))
TriesBundle domain cell old new (Ok None) =
    Gets (λ view. BundleAnswer view domain) cell old new (Ok None)
    ⊎ ((e : X509SourceError) × (e ≢ errors.OutOfMemory)
    × Gets (λ view. BundleAnswer view domain) cell old new (Err e))
TriesBundle domain cell old new (Err e) = Unit {0}

-- whether a source is healthy: its choice is usable in what is published
abbrev pub IsHealthy : Option ℤ → ℕ → PassView → PassView → Bool → Type 0
IsHealthy now cell old new healthy =
    IsHealthyBy Legal Replays (λ kept. is_usable kept now) cell old new healthy

-- No place comes only where the count of refused places rose; the only other error is out of
-- memory.
abbrev pub HasPlaceCause : {T : Type 0} → ℕ → ℕ → Result T X509SourceError → Type 0
HasPlaceCause before now result = HasPlaceCauseBy showing before now result

-- the revision of the state that a pass has read
abbrev pub IsRevision : PassView → ℕ → Type 0
IsRevision pass revision = IsRevisionBy showing pass revision

-- updates of a source
abbrev pub Follows : Source → PassView → Updates PlainStep → Type 0
Follows source giver updates = FollowsBy IsRevision source giver updates

-- something holds of the view of a state that the pass has read
abbrev pub OfState : PassView → (View Material Denial → Type 0) → Type 0
OfState pass holds =
    (state : StateView) × IsStateOf pass.seen state.closed state × holds state.view
