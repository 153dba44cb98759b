-- What is called of open files.
use Rattle.std.specs.Prelude.{◌≡◌, ℕ, List, [], ◌∷◌, ◌++◌, Option, None, Some}
use Rattle.spf_disk.specs.declared.disk.HelperFile.{HelperFile}

-- a call: bytes that are written from an offset on, a file that is cut down to its first octets, or
-- one that is synced
pub data FileCall : Type 0 where
  Write : HelperFile → ℕ → List ℕ → FileCall
  Cut : HelperFile → ℕ → FileCall
  Sync : HelperFile → FileCall

-- one call more, where they are known, the newest last
abbrev pub OneMore : Option (List FileCall) → Option (List FileCall) → FileCall → Type 0
OneMore None after call = Unit {0}
OneMore (Some calls) after call = after ≡ Some (calls ++ call ∷ [])

-- the files are open before and after it, and this is the one call that was made of them
abbrev pub IsTold : {F : Type 0} → (F → Option (List FileCall)) → Option F → Option F → FileCall
    → Type 0
IsTold calls (Some before) (Some after) call = OneMore (calls before) (calls after) call
IsTold calls _ _ call = ⊥
