use Rattle.std.proofs.Common.{ℕ, List, ap, sym, ◌∙◌}
use Rattle.std.specs.List.{remove}
use Rattle.std.specs.Prelude.{bytes_eq, position}
use Rattle.spf_link.specs.Headers.{Header, without}
use Rattle.spf_link.proofs.HeaderLemmas.{taken_out, left, first_found, none_found}
use Rattle.spf_link.proofs.headers.Headers.remove.Goals as goal

pub returns-in-Some : goal.returns-in-Some
returns-in-Some c =
    let name : List ℕ = c.args.name.now in
    let es : List Header = c.self.inside.entries.items in
    let at = first_found name es c.in-Some.index
    (ap (position (λ (h : Header). bytes_eq h.0 name)) c.self.view_is ∙ sym c.index_of.ensures
    ∙ c.in-Some.is) in
    c.remove.ensures.items ∙ ap (remove es) (sym at.0) ∙ taken_out name es at.1 ∙ ap (without name)
    c.self.view_is

pub returns-in-None : goal.returns-in-None
returns-in-None c =
    let name : List ℕ = c.args.name.now in
    let es : List Header = c.self.inside.entries.items in
    sym c.self.view_is ∙ left name es
    (none_found name es (ap (position (λ (h : Header). bytes_eq h.0 name)) c.self.view_is ∙ sym
    c.index_of.ensures ∙ c.in-None.is)) ∙ ap (without name) c.self.view_is
