-- A status that refuses a call, by its parts.
use Rattle.std.specs.Prelude.{ℕ, List, Option}
use Rattle.spf_api.specs.declared.status.GrpcStatusCode.{GrpcStatusCode}

pub record Refused : Type 0 where
  pub code : GrpcStatusCode
  pub message : List ℕ
  pub source : Option (List ℕ)
