use Rattle.std.proofs.Common.{◌≡◌, ℕ, List, ◌++◌, ◌∷◌, [], set, get_or, ap, sym, ◌∙◌}
use Rattle.std.specs.Prelude.{bytes_eq, position}
use Rattle.spf_link.specs.Headers.{Header, with_header}
use Rattle.spf_link.proofs.HeaderLemmas.{replaced, appended, first_found, none_found}
use Rattle.spf_link.proofs.headers.Headers.set.Goals as goal

pub returns-in-Some-clause-ok : goal.returns-in-Some-clause-ok
returns-in-Some-clause-ok c =
    let name : List ℕ = c.args.name.now in
    let es : List Header = c.self.inside.entries.items in
    let index = c.in-Some.index in
    let entry : Header = c.index_mut-entry.result.now in
    let text : List ℕ = c.in_ok-text.text in
    let at = first_found name es index
    (ap (position (λ (h : Header). bytes_eq h.0 name)) c.self.view_is ∙ sym c.index_of.ensures
    ∙ c.in-Some.is) in
    ap (λ (x : Header). set es index (x.0, text)) c.index_mut-entry.ensures.value
    ∙ ap (λ (t : List ℕ). set es index ((get_or es index entry).0, t)) c.in_ok-text.ensures
    ∙ ap (λ (m : ℕ). set es m ((get_or es m entry).0, c.args.value.now)) (sym at.0)
    ∙ replaced name c.args.value.now es entry at.1
    ∙ ap (with_header name c.args.value.now) c.self.view_is

pub returns-in_ok-push-in-None-clause-ok : goal.returns-in_ok-push-in-None-clause-ok
returns-in_ok-push-in-None-clause-ok c =
    let name : List ℕ = c.args.name.now in
    let es : List Header = c.self.inside.entries.items in
    let none = none_found name es (ap (position (λ (h : Header). bytes_eq h.0 name)) c.self.view_is
    ∙ sym c.index_of.ensures ∙ c.in-None.is) in
    let grown : c.push.new.self.items ≡ es ++ (name, c.args.value.now) ∷ [] =
    c.in_ok-push-in-None.ensures.items ∙
    (λ j. es ++ (c.in_ok-copy_of-in-None.ensures j, c.in_ok-text.ensures j) ∷ []) in
    grown ∙ appended name c.args.value.now es none ∙ ap (with_header name c.args.value.now)
    c.self.view_is
