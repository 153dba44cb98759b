use Rattle.std.proofs.Common.{List, ℕ, Option, sym, ap, ◌∙◌}
use Rattle.spf_io.specs.Option.{◌>>=◌}
use Rattle.spf_der.specs.Names.{san_uris_of, uris_of}
use Rattle.spf_der.proofs.NameWalk.{left_is_all}
use Rattle.spf_der.proofs.extensions.read_san_uri_views.Goals as goal

pub returns-then-are_names : goal.returns-then-are_names
unfolding san_uris_of
returns-then-are_names c =
    left_is_all c.in_ok-names.names.now (sym c.if-are_names.ensures)
    ∙ ap (λ (names : Option (List ℕ)). names >>= uris_of) c.in_ok-names.ensures
