-- What the calls of a state return, where memory does not run out.
use Rattle.std.specs.Prelude.{◌≡◌, ℤ, Option, None, Some, Result, Ok, Err}
use Rattle.std.specs.Option.{option_map, option_and_then}
use Rattle.std.specs.Arc.{arc_value}
use Rattle.std.specs.declared.sync.Arc.{Arc}
use Rattle.std.specs.declared.alloc.Global.{Global}
use Rattle.spf_x509.specs.Svid.{Svid}
use Rattle.spf_x509.specs.Context.{Context}
use Rattle.spf_feed.specs.declared.state.X509SourceError.{X509SourceError}
use Rattle.spf_feed.specs.declared.state.X509SourceError.TheVariants as errors
use Rattle.spf_feed.specs.declared.step.Denial.{Denial}
use Rattle.spf_feed.specs.Steps.{View, Material, chosen_of, held_in, reason_of}
use Rattle.spf_feed.specs.Pick.{usable}

-- the held context, or the reason of the withdrawal
abbrev pub ContextAnswer : View Material Denial → Result (Arc Context Global) X509SourceError
    → Type 0
ContextAnswer view (Ok context) =
    option_map (λ (m : Material). m.context) (held_in view) ≡ Some (arc_value context)
ContextAnswer view (Err (errors.Withdrawn reason)) = reason_of view ≡ Some (arc_value reason)
ContextAnswer view (Err errors.OutOfMemory) = Unit {0}
ContextAnswer view (Err _) = ⊥

-- the usable choice, or why there is none
abbrev pub SvidAnswer : View Material Denial → Option ℤ → Result (Arc Svid Global) X509SourceError
    → Type 0
SvidAnswer view now (Ok svid) =
    usable (option_and_then chosen_of (held_in view)) now ≡ Some (arc_value svid)
SvidAnswer view now (Err (errors.Withdrawn reason)) = reason_of view ≡ Some (arc_value reason)
SvidAnswer view now (Err errors.NoSuitableSvid) =
    (reason_of view ≡ None) × (usable (option_and_then chosen_of (held_in view)) now ≡ None)
SvidAnswer view now (Err errors.OutOfMemory) = Unit {0}
SvidAnswer view now (Err _) = ⊥
