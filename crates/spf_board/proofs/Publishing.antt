-- What a publish leaves.
use Rattle.std.proofs.Common.{◌≡◌, ◌⊎◌, false, Result, Ok, Err}
use Rattle.std.proofs.Common.{OnOk, OnErr, inl, inr, ⊎_elim, sym, ap, ◌∙◌}
use Rattle.std.specs.Result.{is_ok}
use Rattle.spf_board.specs.declared.entry.Entry.{Entry}
use Rattle.spf_board.specs.declared.entry.Entry.TheVariants as entry
use Rattle.spf_board.specs.Lists.{is_ended}
use Rattle.spf_board.specs.Past.{Past, added}
use Rattle.spf_board.proofs.Prefixes.{ended_end, unended_step}

pub same_book : {S : Type 0} (old new : Past S) (e : Entry S)
    → (new ≡ added old e) ⊎ (new ≡ old) → new.book ≡ old.book
same_book old new e = ⊎_elim (λ more. ap (λ p. p.book) more) (λ same. ap (λ p. p.book) same)

module _ {S E : Type 0} where
  pub ended_by : (r : Result (Unit {0}) E) (old new : Past S)
      → OnOk r (new ≡ added old entry.End) → OnErr r (new ≡ old) → is_ended old.list ≡ false
      → is_ok r ≡ is_ended new.list
  ended_by (Ok t) old new ok err unended =
      sym (ap (λ p. is_ended p.list) ok ∙ ended_end old.list)
  ended_by (Err e) old new ok err unended = sym (ap (λ p. is_ended p.list) err ∙ unended)

  pub either_end : (r : Result (Unit {0}) E) (old new : Past S)
      → OnOk r (new ≡ added old entry.End) → OnErr r (new ≡ old)
      → (new ≡ added old entry.End) ⊎ (new ≡ old)
  either_end (Ok t) old new ok err = inl ok
  either_end (Err e) old new ok err = inr err

  pub unended_by : (r : Result (Unit {0}) E) (old new : Past S) (s : S)
      → OnOk r (new ≡ added old (entry.Step s)) → OnErr r (new ≡ old) → is_ended old.list ≡ false
      → is_ended new.list ≡ false
  unended_by (Ok t) old new s ok err unended =
      ap (λ p. is_ended p.list) ok ∙ unended_step old.list s unended
  unended_by (Err e) old new s ok err unended = ap (λ p. is_ended p.list) err ∙ unended

  pub book_by : (r : Result (Unit {0}) E) (old new : Past S) (s : S)
      → OnOk r (new ≡ added old (entry.Step s)) → OnErr r (new ≡ old) → new.book ≡ old.book
  book_by (Ok t) old new s ok err = ap (λ p. p.book) ok
  book_by (Err e) old new s ok err = ap (λ p. p.book) err
