-- The requests of the Workload API for JWT-SVIDs (SPIFFE Workload API section 6).
use Rattle.std.specs.Prelude.{ℕ, List, [], Option, None, Some}
use Rattle.spf_id.specs.Id.{Id}
use Rattle.spf_id.specs.Id as ids
use Rattle.spf_link.specs.declared.request.Request.{Request}
use Rattle.spf_link.specs.declared.request.Request.TheVariants as request

-- the text of an identity, which is empty where none is asked for
abbrev pub id_text : Option Id → List ℕ
id_text None = []
id_text (Some id) = ids.id_text id

-- the SVIDs of an identity for an audience, in its order
abbrev pub jwt_request : List (List ℕ) → Option Id → Request
jwt_request audience id = request.JwtSvid (id_text id) audience

-- what a token says, where it is good for the audience
abbrev pub validation_request : List ℕ → List ℕ → Request
validation_request audience token = request.ValidateJwt audience token
