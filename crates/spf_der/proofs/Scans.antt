-- What one walk over extensions finds of each that is looked up.
use Rattle.std.proofs.Common.{◌≡◌, ℕ, Bool, true, false, cond, List, [], ◌∷◌, ◌++◌, Option, Result}
use Rattle.std.proofs.Common.{refl, sym, ap, ◌∙◌}
use Rattle.std.specs.Str.{bytes_eq}
use Rattle.spf_der.specs.Identifier.{basic_constraints_identifier, key_usage_identifier}
use Rattle.spf_der.specs.Identifier.{subject_alt_name_identifier}
use Rattle.spf_der.specs.Read.{contents_with, only_one, unique_rule}
use Rattle.spf_der.specs.Scan.{FoundWith, HasFound, found_after, found_next}
use Rattle.spf_der.specs.declared.certificate.ExtensionPart.{ExtensionPart}
use Rattle.spf_der.specs.declared.scan.Extensions.{Extensions}
use Rattle.spf_der.specs.declared.error.X509ParseKind.{X509ParseKind}
use Rattle.spf_der.proofs.Unique.{contents_hit, contents_miss}

only_after : (xs : List (List ℕ)) (x : List ℕ)
    → only_one (xs ++ x ∷ []) ≡ found_after (only_one xs) x
only_after [] x = refl
only_after (y ∷ []) x = refl
only_after (y ∷ z ∷ xs) x = refl

-- one more extension
next_is : (oid : List ℕ) (front : List ExtensionPart) (e : ExtensionPart) (b : Bool)
    → bytes_eq e.oid oid ≡ b
    → unique_rule oid (front ++ e ∷ [])
    ≡ cond b (found_after (unique_rule oid front) e.contents) (unique_rule oid front)
next_is oid front e true hit =
    ap only_one (contents_hit oid front e [] hit) ∙ only_after (contents_with oid front) e.contents
next_is oid front e false miss = ap only_one (contents_miss oid front e miss)

found_more : (oid : List ℕ) (front : List ExtensionPart) (e : ExtensionPart)
    (new old : Result (Option (List ℕ)) X509ParseKind)
    → old ≡ unique_rule oid front → new ≡ found_next oid old e
    → new ≡ unique_rule oid (front ++ e ∷ [])
found_more oid front e new old was is =
    is ∙ ap (λ (r : Result (Option (List ℕ)) X509ParseKind). found_next oid r e) was
    ∙ sym (next_is oid front e (bytes_eq e.oid oid) refl)

pub has_found_more : (new old : Extensions) (front : List ExtensionPart) (e : ExtensionPart)
    → HasFound old front → FoundWith new old e → HasFound new (front ++ e ∷ [])
has_found_more new old front e was is = record {
  key_usage = found_more key_usage_identifier front e _ _ was.key_usage is.key_usage;
  subject_alt_name =
      found_more subject_alt_name_identifier front e _ _ was.subject_alt_name is.subject_alt_name;
  basic_constraints =
      found_more basic_constraints_identifier front e _ _ was.basic_constraints
      is.basic_constraints;
}
