-- A SPIFFE ID by its parts.
use Rattle.std.specs.Prelude.{ℕ, List, ◌++◌, codes}

-- its trust domain, and its path, which is empty or begins with `/`
pub record Id : Type 0 where
  pub domain : List ℕ
  pub path : List ℕ

-- the text of an ID (SPIFFE-ID section 2)
unfoldable pub id_text : Id → List ℕ
id_text id = codes "spiffe://" ++ (id.domain ++ id.path)
