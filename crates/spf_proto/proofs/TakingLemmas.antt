-- Octets that come in parts.
use Rattle.std.proofs.Common.{◌≤◌, ◌∙◌, ℕ, List, [], ◌++◌, length, Option, sym, ap}
use Rattle.std.proofs.Common.{◌≡◌, ◌+◌, append_assoc, take}
use Rattle.std.specs.Io.KnownBytes.{Consumes}
use Rattle.std.proofs.lemmas.List.{append-nil, take-append-le}
use Rattle.std.proofs.Math.Seq.{take-append-add}
use Rattle.std.proofs.KnownBytes.{Consumes-trans, Consumes-nil}
use Rattle.spf_proto.specs.Body.{total}
use Rattle.spf_proto.specs.Taking.{Came}

-- what came so far, which is no more than the message has
pub record SoFar (left left' : Option (List ℕ)) (got got' : List ℕ) : Type 0 where
  pub came : Came left left' got got'
  pub sized : length got' ≤ total got'

pub came_none : (left : Option (List ℕ)) (got : List ℕ) → Came left left got got
came_none left got = record {
  given = [];
  taken = Consumes-nil left;
  added = sym (append-nil got);
}

pub came_more : (left mid left' : Option (List ℕ)) (got some got' : List ℕ)
    → Came left mid got some → Came mid left' some got' → Came left left' got got'
came_more left mid left' got some got' a b = record {
  given = a.given ++ b.given;
  taken = Consumes-trans left mid left' a.given b.given a.taken b.taken;
  added = b.added ∙ ap (λ (l : List ℕ). l ++ b.given) a.added
      ∙ append_assoc got a.given b.given;
}

-- what was read into the room after the octets that came
pub came_read : (left left' : Option (List ℕ)) (got items front new past : List ℕ) (filled n : ℕ)
    → items ≡ front ++ (new ++ past) → front ≡ got → length got ≡ filled → n ≤ length new
    → Consumes left left' (take n new) → Came left left' got (take (filled + n) items)
came_read left left' got items front new past filled n items_are is long within taken = record {
  given = take n new;
  taken = taken;
  added = ap (take (filled + n)) items_are
      ∙ (λ j. take (sym long j + n) (is j ++ (new ++ past)))
      ∙ take-append-add got (new ++ past) n
      ∙ ap (λ (l : List ℕ). got ++ l) (take-append-le n new past within);
}
