-- What is kept of steps.
use Rattle.std.specs.Prelude.{ℕ, ◌+◌, List, [], ◌∷◌, length, map, Option, Some, None}
use Rattle.std.specs.List.{flat_map}
use Rattle.std.specs.Option.{option_map, option_and_then}
use Rattle.spf_x509.specs.Bundle.{Bundle}
use Rattle.spf_x509.specs.Svid.{Svid}
use Rattle.spf_feed.specs.Steps.{PlainStep, Accept, Deny, Material, chosen_of}
use Rattle.spf_disk.specs.declared.generation.AuthorityList.{AuthorityList}
use Rattle.spf_disk.specs.declared.generation.Generation.{Generation}
use Rattle.spf_disk.specs.declared.generation.Entry.{Entry}
use Rattle.spf_disk.specs.declared.generation.Entry.TheVariants.{Withdrawn, Accepted}
use Rattle.spf_disk.specs.Standing.{generation_in}

-- the certificates of the chain, one after another; empty without a choice
abbrev pub chain_of : Option Svid → List ℕ
chain_of None = []
chain_of (Some svid) = flat_map (λ c. c) svid.chain

abbrev pub key_of : Option Svid → List ℕ
key_of None = []
key_of (Some svid) = svid.key

abbrev pub authority_list : List ℕ × Bundle → AuthorityList
authority_list e = record { name = e.0; certificates = e.1.authorities }

-- the choice, and the authorities in the order of the trust domains
abbrev pub generation_of : ℕ → Material → Generation
generation_of number material = record {
  number = number;
  chain = chain_of (chosen_of material);
  key = key_of (chosen_of material);
  authorities = map authority_list material.context.bundles;
}

-- the entry that a step is kept as
abbrev pub entry_for : ℕ → PlainStep → Entry
entry_for number (Accept material limits) = Accepted (generation_of number material)
entry_for number (Deny reason) = Withdrawn number

abbrev pub last_step : List PlainStep → Option PlainStep
last_step [] = None
last_step (s ∷ []) = Some s
last_step (s ∷ t ∷ steps) = last_step (t ∷ steps)

-- The entry of the last step. Its number is that of the entry before the
-- first step, and one more for each step.
abbrev pub entry_after : ℕ → List PlainStep → Option Entry
entry_after base steps = option_map (entry_for (base + length steps)) (last_step steps)

-- GenerationOf: none where there is no step, or the last one
-- is a Deny; otherwise what the last one accepts
abbrev pub generation_after : ℕ → List PlainStep → Option Generation
generation_after base steps = option_and_then generation_in (entry_after base steps)
