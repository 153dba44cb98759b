-- What a connector gives, and what its count of refusals says.
use Rattle.std.specs.Prelude.{◌≡◌, ℕ, ◌≤◌, ◌⊎◌, List, [], ◌∷◌, Option, None, Some, Result, Ok, Err}
use Rattle.spf_io.specs.Memory.{next_number}
use Rattle.spf_io.specs.Outside.{Rose}
use Rattle.spf_api.specs.declared.link.ClientFault.{ClientFault}
use Rattle.spf_api.specs.declared.link.ClientFault.TheVariants as fault
use Rattle.spf_link.specs.Links.{rest_of, unavailable}
use Rattle.spf_link.specs.declared.answer.Answer.{Answer}

-- the connection was refused, and memory did not run out
abbrev pub IsClientRefusal : {T : Type 0} → Result T ClientFault → Type 0
IsClientRefusal (Ok _) = ⊥
IsClientRefusal (Err fault.OutOfMemory) = ⊥
IsClientRefusal (Err f) = Unit {0}

-- the count of refusals never falls, and a refusal comes only where it rose
pub record HasClientCause {T : Type 0} (before now : ℕ) (result : Result T ClientFault) :
    Type 0 where
  pub later : before ≤ now
  pub refused : IsClientRefusal result → Rose before now

-- the count of refusals after a `connect`, which stands still at 2^64 - 1
abbrev pub refused_after : {T : Type 0} → Result T ClientFault → ℕ → ℕ
refused_after (Ok _) n = n
refused_after (Err fault.OutOfMemory) n = n
refused_after (Err f) n = next_number n

-- what a `connect` gives: the answers of a link, or a fault
abbrev pub Member : Type 0
Member = Result (List Answer) ClientFault

-- what a `connect` gives for the members to come; where there is none, it refuses
abbrev pub connected_by : List Member → Member
connected_by (m ∷ members) = m
connected_by [] = Err (fault.Status unavailable)

-- the link has the answers of the next member, which is taken, or its fault is returned, unless
-- memory ran out
abbrev pub Connects : {L : Type 0} → (L → Option (List Answer)) → Option (List Member)
    → Option (List Member) → Result L ClientFault → Type 0
Connects answers None new result = Unit {0}
Connects answers (Some members) new (Err fault.OutOfMemory) = (new ≡ Some members)
    ⊎ (new ≡ Some (rest_of members))
Connects answers (Some members) new (Err f) = (new ≡ Some (rest_of members))
    × (connected_by members ≡ Err f)
Connects answers (Some members) new (Ok link) = (new ≡ Some (rest_of members))
    × ((coming : List Answer) × (answers link ≡ Some coming) × (connected_by members ≡ Ok coming))
