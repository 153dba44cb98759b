-- An X.509 SVID by its parts (SPIFFE X.509-SVID section 2).
use Rattle.std.specs.Prelude.{ℕ, ℤ, List, Option}
use Rattle.spf_id.specs.Id.{Id}

pub record Svid : Type 0 where
  pub id : Id
  pub hint : Option (List ℕ)
  pub chain : List (List ℕ)
  pub key : List ℕ
  pub expiry : ℤ
