use Rattle.std.proofs.Common.{sym}
use Rattle.std.specs.Prelude.{codes}
use Rattle.serde_json.specs.View.{view, items_view}
use Rattle.spf_jwt.proofs.Floats.{whole_items}
use Rattle.spf_jwt.proofs.Keys.{keys_are}
use Rattle.spf_jwt.proofs.bundle.authorities_in.Goals as goal

pub authorities_of-requires : goal.authorities_of-requires
authorities_of-requires c =
    let found = rw c.in-Some.is at c.keys_in.ensures in
    record {
      whole = whole_items (codes "keys") (view c.args.value.now) (items_view c.in-Some.keys.now)
          c.requires.whole (sym found);
    }

pub returns : goal.returns
returns c =
    let found = rw c.in-Some.is at c.keys_in.ensures in
    rw (keys_are (view c.args.value.now) c.in-Some.keys.now found) c.authorities_of.ensures
