-- How values of which there are mostly one or two are held.
use Rattle.std.specs.Prelude.{List, [], ◌∷◌}
use Rattle.spf_x509.specs.declared.few.Few.{Few}
use Rattle.spf_x509.specs.declared.few.Few.TheVariants.{Nothing, One, Two, Listed}

-- the values that are held
abbrev pub few_items : {T : Type 0} → Few T → List T
few_items Nothing = []
few_items (One value) = value ∷ []
few_items (Two values) = values
few_items (Listed values) = values.items
