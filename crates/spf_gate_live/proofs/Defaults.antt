-- The default settings, with another picker.
use Rattle.std.proofs.Common.{◌≡◌, ◌∙◌, ap, sym, subst, None}
use Rattle.std.specs.Duration.{as_nanos}
use Rattle.std.specs.Option.{option_map}
use Rattle.spf_system.specs.Bounds.{IsDefault as HasDefaultBounds}
use Rattle.spiffe.specs.declared.builder.Settings.{Settings}
use Rattle.spiffe.specs.Building.{IsDefault}

pub default_with : {K L : Type 0} (set : Settings K) (new : Settings L) → IsDefault set
    → new.picker ≡ None → new.limits ≡ set.limits → new.ready ≡ set.ready
    → new.timeout ≡ set.timeout → new.grace ≡ set.grace → new.bounds ≡ set.bounds → IsDefault new
default_with set new is picker limits ready timeout grace bounds = record {
  picker = picker;
  bounds = subst HasDefaultBounds (sym bounds) is.bounds;
  limits = limits ∙ is.limits;
  ready = ready ∙ is.ready;
  timeout = timeout ∙ is.timeout;
  grace = ap (option_map as_nanos) grace ∙ is.grace;
}
