-- What an accepted item brings, and when two of these are the same.
use Rattle.std.specs.Prelude.{ℕ, Bool, ◌&&◌, nat_eq, List, Option}
use Rattle.std.specs.Option.{option_eq}
use Rattle.std.specs.Ordering.{int_eq}
use Rattle.std.specs.Cmp.Lexicographic.{pointwise}
use Rattle.spf_id.specs.Id.{Id}
use Rattle.spf_x509.specs.Bag.{same_bag}
use Rattle.spf_x509.specs.Bundle.{Bundle}
use Rattle.spf_x509.specs.Context.{Context}
use Rattle.spf_x509.specs.Svid.{Svid}
use Rattle.spf_feed.specs.Pick.{choice_of}

-- a context, and the index of its choice
pub record Material : Type 0 where
  pub context : Context
  pub choice : Option ℕ

-- the chosen SVID
abbrev pub chosen_of : Material → Option Svid
chosen_of material = choice_of material.context.svids material.choice

-- equal IDs: the same trust domain and the same path
abbrev pub same_id : Id → Id → Bool
same_id a b = pointwise nat_eq a.domain b.domain && pointwise nat_eq a.path b.path

-- equal SVIDs: the same ID, hint, chain and key
abbrev pub same_svid : Svid → Svid → Bool
same_svid a b =
    same_id a.id b.id
    && (option_eq (pointwise nat_eq) a.hint b.hint
    && (pointwise (pointwise nat_eq) a.chain b.chain && pointwise nat_eq a.key b.key))

-- equal choices: equal SVIDs with the same expiry
abbrev pub same_choice : Svid → Svid → Bool
same_choice a b = same_svid a b && int_eq a.expiry b.expiry

-- the same trust domain, and equal bags of authorities
abbrev pub entry_same : List ℕ × Bundle → List ℕ × Bundle → Bool
entry_same p q =
    pointwise nat_eq p.0 q.0 && same_bag (pointwise nat_eq) p.1.authorities q.1.authorities

-- the same trust domains, and equal bags of authorities in each
abbrev pub same_set : List (List ℕ × Bundle) → List (List ℕ × Bundle) → Bool
same_set = pointwise entry_same

-- equal bags of SVIDs, the same trust domains with equal bags of authorities, equal bags of CRLs
abbrev pub same_members : Context → Context → Bool
same_members a b =
    same_bag same_svid a.svids b.svids
    && (same_set a.bundles b.bundles && same_bag (pointwise nat_eq) a.crls b.crls)

-- Same: equal choices, and the same members
unfoldable pub same_material : Material → Material → Bool
same_material a b =
    option_eq same_choice (chosen_of a) (chosen_of b) && same_members a.context b.context
