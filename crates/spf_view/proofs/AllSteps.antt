-- The steps that a session gives, event by event, are those of the whole list.
use Rattle.std.proofs.Common.{◌≡◌, cond, List, [], ◌∷◌, ◌++◌, reverse, Option, None, Some, refl}
use Rattle.std.proofs.Common.{sym, ap, ◌∙◌, append_assoc}
use Rattle.std.specs.Prelude.{is_some}
use Rattle.std.specs.Option.{option_to_list}
use Rattle.std.proofs.lemmas.List.{append-nil, reverse-reverse, reverse-append}
use Rattle.spf_view.specs.Views.{Subject, outcome}
use Rattle.spf_view.specs.Steps.{Step, step_in, steps_of}
use Rattle.spf_view.specs.Sessions.{Stream, refusal_of, all_of}
use Rattle.spf_view.proofs.ViewLemmas.{steps_more}

none_first : {A : Type 0} (o p : Option A) → cond (is_some o) o p ≡ None → (o ≡ None) × (p ≡ None)
none_first None p h = (refl, h)
none_first (Some x) p h = absurd cc

abbrev pub step_behind : {E M L D : Type 0} → Subject E M L D → List E → E → List (Step M L D)
step_behind s past e = option_to_list (step_in s.limits (outcome s e past))

steps_behind : {E A M L D : Type 0} (t : Stream E A) (s : Subject E M L D) (past es : List E)
    → refusal_of t past es ≡ None
    → steps_of s (reverse past) ++ all_of t (step_behind s) past es
    ≡ steps_of s (reverse past ++ es)
unfolding refusal_of all_of
steps_behind t s past [] none =
    append-nil (steps_of s (reverse past)) ∙ ap (steps_of s) (sym (append-nil (reverse past)))
steps_behind t s past (e ∷ es) none =
    let both = none_first (t.refusal past e) (refusal_of t (e ∷ past) es) none in
    let here : all_of t (step_behind s) past (e ∷ es)
    ≡ step_behind s past e ++ all_of t (step_behind s) (e ∷ past) es =
    ap (λ o. cond (is_some o) [] (step_behind s past e ++ all_of t (step_behind s) (e ∷ past) es))
    both.0 in
    let more : steps_of s (reverse past ++ e ∷ [])
    ≡ steps_of s (reverse past) ++ step_behind s past e =
    steps_more s (reverse past) e
    ∙ ap (λ p. steps_of s (reverse past) ++ option_to_list (step_in s.limits (outcome s e p)))
    (reverse-reverse past) in
    let behind : reverse (e ∷ past) ≡ reverse past ++ e ∷ [] = reverse-append (e ∷ []) past in
    ap (λ l. steps_of s (reverse past) ++ l) here
    ∙ sym (append_assoc (steps_of s (reverse past)) (step_behind s past e)
    (all_of t (step_behind s) (e ∷ past) es))
    ∙ ap (λ l. l ++ all_of t (step_behind s) (e ∷ past) es)
    (sym more ∙ ap (steps_of s) (sym behind))
    ∙ steps_behind t s (e ∷ past) es both.1
    ∙ ap (λ l. steps_of s (l ++ es)) behind
    ∙ ap (steps_of s) (append_assoc (reverse past) (e ∷ []) es)

pub steps_all : {E A M L D : Type 0} (t : Stream E A) (s : Subject E M L D) (es : List E)
    → refusal_of t [] es ≡ None → all_of t (step_behind s) [] es ≡ steps_of s es
steps_all t s es none = steps_behind t s [] es none
