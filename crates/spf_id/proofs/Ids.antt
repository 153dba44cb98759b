-- What a text that breaks no rule says of the ID.
use Rattle.std.proofs.Common.{◌≡◌, ℕ, suc, ◌+◌, ◌<◌, Bool, true, false, cond, not, List, [], ◌∷◌}
use Rattle.std.proofs.Common.{◌++◌, length, take, drop, get_or, Result, Ok, Err, refl, sym, ap, ◌∙◌}
use Rattle.std.proofs.Common.{arith, ◌⊎◌, inl, inr, append_assoc, length-append, drop-cons, nat_eq}
use Rattle.std.specs.Prelude.{codes, ◌==◌, nat_lt}
use Rattle.std.specs.List.{before_first, after_first, position_or_len, starts_with}
use Rattle.std.specs.Str.{IsCharBoundary}
use Rattle.std.proofs.lemmas.List.Prefix.{front_rest}
use Rattle.std.proofs.lemmas.List.Sums.{prefix_len-le-length}
use Rattle.std.proofs.lemmas.List.{drop_all, take-append-drop}
use Rattle.std.proofs.lemmas.Slice.Eq.{bytes_eq-Decides}
use Rattle.spf_io.specs.Rule.{◌>>=◌}
use Rattle.spf_id.specs.declared.error.SpiffeIdError.TheVariants.{Empty, TooLong, WrongScheme}
use Rattle.spf_id.specs.declared.error.SpiffeIdError.TheVariants.{MissingTrustDomain}
use Rattle.spf_id.specs.Id.{Id, id_text}
use Rattle.spf_id.specs.Rule.{IsTextOf, is_slash, domain_rule, segments_rule, segments_of, id_rule}
use Rattle.spf_id.proofs.FirstIndex.{front_length}
use Rattle.spf_id.proofs.Parts.{halves_rule, parts_by_halves, rest_after}

-- a rule that was not broken
pub past : {A E : Type 0} (b : Bool) (e : E) (r : Result A E) (x : A) → cond b (Err e) r ≡ Ok x
    → (b ≡ false) × (r ≡ Ok x)
past true e r x h = absurd (cc)
past false e r x h = (refl, h)

pub after : {A B E : Type 0} (r : Result A E) (f : A → Result B E) (x : B) → (r >>= f) ≡ Ok x
    → (y : A) × (r ≡ Ok y) × (f y ≡ Ok x)
after (Ok y) f x h = (y, refl, h)
after (Err e) f x h = absurd (cc)

-- a path is empty or begins with a slash
abbrev pub IsPath : List ℕ → Type 0
IsPath path = (path ≡ []) ⊎ ((others : List ℕ) × (path ≡ 47 ∷ others))

halves_whole : (xs : List ℕ)
    → before_first is_slash xs ++ drop (length (before_first is_slash xs)) xs ≡ xs
halves_whole xs =
    let le = prefix_len-le-length (λ c. not (is_slash c)) xs in
    rw (front_length is_slash xs le) (take-append-drop (position_or_len is_slash xs) xs)

rest_path : (xs : List ℕ) → IsPath (drop (length (before_first is_slash xs)) xs)
rest_path xs =
    let le = prefix_len-le-length (λ c. not (is_slash c)) xs in
    let n = front_length is_slash xs le in
    let cases : (position_or_len is_slash xs < length xs)
    ⊎ (position_or_len is_slash xs ≡ length xs) = grind arith in
    elim cases [
      | inl lt ↦ inr (after_first is_slash xs, rest_after xs lt)
      | inr whole ↦ inl (drop_all (length (before_first is_slash xs)) xs (omega arith))
    ]

-- what the halves of an ID are
halves_ok : (xs : List ℕ) (id : Id)
    → halves_rule (before_first is_slash xs) (drop (length (before_first is_slash xs)) xs) ≡ Ok id
    → (id.domain ++ id.path ≡ xs) × IsPath id.path
halves_ok xs id h =
    let a = past (length (before_first is_slash xs) == 0) MissingTrustDomain _ id h in
    let b = after (domain_rule (before_first is_slash xs)) _ id a.1 in
    let c = after (segments_rule (segments_of (drop (length (before_first is_slash xs)) xs))) _ id
    b.2 in
    let domain : before_first is_slash xs ≡ id.domain = cc in
    let path : drop (length (before_first is_slash xs)) xs ≡ id.path = cc in
    (rw (← domain, ← path) (halves_whole xs), rw (← path) (rest_path xs))

-- the text of an ID is that of its parts
rule_ok : (t : List ℕ) (id : Id) → id_rule t ≡ Ok id → (t ≡ id_text id) × IsPath id.path
unfolding id_rule id_text
rule_ok t id h =
    let a = past (length t == 0) Empty _ id h in
    let b = past (nat_lt 2048 (length t)) TooLong _ id a.1 in
    let c = past (not (starts_with nat_eq t (codes "spiffe://"))) WrongScheme _ id b.1 in
    let halves = halves_ok (drop 9 t) id (sym (parts_by_halves (drop 9 t)) ∙ c.1) in
    let starts : starts_with nat_eq t (codes "spiffe://") ≡ true = grind arith in
    let scheme : codes "spiffe://" ≡ take 9 t =
    (bytes_eq-Decides (codes "spiffe://") (take 9 t)).0 starts in (
      sym (take-append-drop 9 t) ∙ ap (λ (s : List ℕ). s ++ drop 9 t) (sym scheme)
          ∙ ap (λ (s : List ℕ). codes "spiffe://" ++ s) (sym halves.0),
      halves.1,
    )

-- what follows the trust domain is the path
pub path_drop : (t : List ℕ) (id : Id) → t ≡ id_text id → drop (9 + length id.domain) t ≡ id.path
unfolding id_text
path_drop t id is =
    let n : 9 + length id.domain ≡ length (codes "spiffe://" ++ id.domain) =
    sym (length-append (codes "spiffe://") id.domain) in
    rw n (front_rest t (codes "spiffe://" ++ id.domain) id.path
    (is ∙ sym (append_assoc (codes "spiffe://") id.domain id.path)))

-- what `SpiffeId` keeps of its fields
pub kept : (t domain path : List ℕ) → id_rule t ≡ Ok (record { domain = domain; path = path })
    → IsTextOf (record { domain = domain; path = drop (9 + length domain) t }) t
kept t domain path h =
    let found = rule_ok t (record { domain = domain; path = path }) h in
    let rest : drop (9 + length domain) t ≡ path =
    path_drop t (record { domain = domain; path = path }) found.0 in
    record { text = rw rest found.0; rule = rw rest h }

-- the path begins at the boundary of a character
pub boundary : (t : List ℕ) (id : Id) → IsTextOf id t → IsCharBoundary t (9 + length id.domain)
unfolding id_text
boundary t id h =
    let found = rule_ok t id h.rule in
    let size : length t ≡ 9 + (length id.domain + length id.path) =
    ap length found.0 ∙ length-append (codes "spiffe://") (id.domain ++ id.path)
    ∙ ap (λ n. 9 + n) (length-append id.domain id.path) in
    let rest = path_drop t id found.0 in
    elim found.1 [
      | inl none ↦
          (omega arith, λ lt. absurd (let e : length id.path ≡ 0 = ap length none in omega arith))
      | inr some ↦ (
        omega arith,
        λ lt high.
            let at : get_or t (9 + length id.domain) 0 ∷ drop (suc (9 + length id.domain)) t
            ≡ 47 ∷ some.0 = sym (drop-cons t (9 + length id.domain) 0 lt) ∙ rest ∙ some.1 in
            let slash : get_or t (9 + length id.domain) 0 ≡ 47 = cc in
            absurd (omega arith),
      )
    ]
