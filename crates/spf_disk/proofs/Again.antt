-- What is written is read again.
use Rattle.std.proofs.Common.{◌≡◌, ℕ, ◌^◌, ◌<◌, false, List, [], ◌∷◌, ◌++◌, length, Option, Some}
use Rattle.std.proofs.Common.{refl, sym, ap, ◌∙◌, arith, append_assoc, length-append, nat_lt}
use Rattle.std.proofs.lemmas.Bool.{le-ltb}
use Rattle.std.proofs.lemmas.Nat.{from_be_bytes-to_be_bytes_8}
use Rattle.std.proofs.lemmas.Str.{is_utf8-from_IsUtf8}
use Rattle.std.proofs.lemmas.List.{append-nil}
use Rattle.std.proofs.lemmas.List.Concat.{flat_map-cons}
use Rattle.std.proofs.lemmas.List.Elements.{recursion_from_All}
use Rattle.std.proofs.Math.Seq.{take-append_seam, drop-append_seam}
use Rattle.std.specs.List.{flat_map, AllByRecursion}
use Rattle.std.specs.Str.{IsUtf8}
use Rattle.spf_api.specs.Reading.{counted}
use Rattle.spf_disk.specs.declared.generation.Generation.{Generation}
use Rattle.spf_disk.specs.declared.generation.Entry.{Entry}
use Rattle.spf_disk.specs.declared.generation.Entry.TheVariants.{Withdrawn, Accepted}
use Rattle.spf_disk.specs.Format.{number_text, field_text, list_text, authorities_text, entry_text}
use Rattle.spf_disk.specs.Format.{number_at, field_at, text_at, list_at, authorities_at, entry_at}
use Rattle.spf_disk.specs.Format.{generation_at, HasLength64, IsListOf}
use Rattle.spf_disk.specs.Format.{IsAuthorities, IsGeneration, IsEntry}

number_again : (n : ℕ) (rest : List ℕ) → n < 2 ^ 64
    → number_at (number_text n ++ rest) ≡ Some (n, rest)
unfolding number_at number_text
number_again n rest lt = ap (λ (m : ℕ). Some (m, rest)) (from_be_bytes-to_be_bytes_8 n lt)

field_again : (octets rest : List ℕ) → HasLength64 octets
    → field_at (field_text octets ++ rest) ≡ Some (octets, rest)
unfolding field_at field_text
field_again octets rest short =
    let long : nat_lt (length (octets ++ rest)) (length octets) ≡ false =
    le-ltb (length (octets ++ rest)) (length octets) (omega (arith, length-append octets rest)) in
    rw (
      append_assoc (number_text (length octets)) octets rest,
      number_again (length octets) (octets ++ rest) short,
      long,
      take-append_seam,
      drop-append_seam,
    ) refl

text_again : (octets rest : List ℕ) → HasLength64 octets → IsUtf8 octets
    → text_at (field_text octets ++ rest) ≡ Some (octets, rest)
unfolding text_at
text_again octets rest short utf8 =
    rw (field_again octets rest short, is_utf8-from_IsUtf8 octets utf8) refl

-- a reader of values that are written by `text`
abbrev Again : {A : Type 0} → (List ℕ → Option (A × List ℕ)) → (A → List ℕ) → (A → Type 0) → Type 0
Again {A} one text P = (x : A) (rest : List ℕ) → P x → one (text x ++ rest) ≡ Some (x, rest)

counted_again : {A : Type 0} (one : List ℕ → Option (A × List ℕ)) (text : A → List ℕ)
    (P : A → Type 0) → Again one text P → (xs : List A) (rest : List ℕ) → AllByRecursion P xs
    → counted one (length xs) (flat_map text xs ++ rest) ≡ Some (xs, rest)
counted_again one text P again [] rest all = refl
counted_again one text P again (x ∷ xs) rest all = rw (
  flat_map-cons text x xs,
  append_assoc (text x) (flat_map text xs) rest,
  again x (flat_map text xs ++ rest) all.0,
  counted_again one text P again xs rest all.1,
) refl

list_again : {A : Type 0} (one : List ℕ → Option (A × List ℕ)) (text : A → List ℕ)
    (P : A → Type 0) → Again one text P → (xs : List A) (rest : List ℕ) → IsListOf P xs
    → list_at one (list_text text xs ++ rest) ≡ Some (xs, rest)
unfolding list_text
list_again one text P again xs rest fits = rw (
  append_assoc (number_text (length xs)) (flat_map text xs) rest,
  number_again (length xs) (flat_map text xs ++ rest) fits.short,
  counted_again one text P again xs rest (recursion_from_All P xs fits.each),
) refl

authorities_again : Again authorities_at authorities_text IsAuthorities
unfolding authorities_at authorities_text
authorities_again a rest fits = rw (
  append_assoc (field_text a.name) (list_text field_text a.certificates) rest,
  text_again a.name (list_text field_text a.certificates ++ rest) fits.short fits.utf8,
  list_again field_at field_text HasLength64 field_again a.certificates rest fits.certificates,
) refl

generation_text : Generation → List ℕ
generation_text g =
    field_text g.chain ++ (field_text g.key ++ list_text authorities_text g.authorities)

generation_again : (g : Generation) → IsGeneration g
    → generation_at g.number (generation_text g) ≡ Some g
unfolding generation_at generation_text
generation_again g fits =
    let authorities : list_at authorities_at (list_text authorities_text g.authorities)
    ≡ Some (g.authorities, []) =
    ap (list_at authorities_at) (sym (append-nil (list_text authorities_text g.authorities)))
    ∙ list_again authorities_at authorities_text IsAuthorities authorities_again g.authorities []
    fits.authorities in
    rw (
      field_again g.chain (field_text g.key ++ list_text authorities_text g.authorities) fits.chain,
      field_again g.key (list_text authorities_text g.authorities) fits.key,
      authorities,
    ) refl

pub entry_again : (e : Entry) → IsEntry e → entry_at (entry_text e) ≡ Some e
unfolding entry_at entry_text generation_text
entry_again (Withdrawn number) fits = rw (number_again number (0 ∷ []) fits) refl
entry_again (Accepted g) fits =
    let text : entry_text (Accepted g) ≡ number_text g.number ++ (1 ∷ generation_text g) =
    append_assoc (number_text g.number) (1 ∷ field_text g.chain)
    (field_text g.key ++ list_text authorities_text g.authorities) in
    rw (
      text,
      number_again g.number (1 ∷ generation_text g) fits.number,
      generation_again g fits,
    ) refl
