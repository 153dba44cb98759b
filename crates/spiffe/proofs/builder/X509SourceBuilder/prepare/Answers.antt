use Rattle.std.proofs.Common.{[], ap, refl, subst, sym, ◌∙◌}
use Rattle.spf_feeder.specs.Governed.{kind_by}
use Rattle.spf_feeder.specs.Times.{GivesMoments}
use Rattle.spf_feeder.proofs.Joining.{orderly_as, synced_as, yielded_as}
use Rattle.spf_feeder.proofs.Unyielded.{built_as}
use Rattle.spiffe.specs.Building.{IsSetBy}
use Rattle.spiffe.proofs.builder.X509SourceBuilder.prepare.Goals as goal

pub returns-clause-built : goal.returns-clause-built
returns-clause-built g c =
    built_as (kind_by g.P.SvidPicker.picks) _ _ _ _ _ _ c.new.ensures.0 refl
    c.in_ok-source.ensures.built

pub returns-clause-assigned : goal.returns-clause-assigned
returns-clause-assigned g c =
    let sync = c.in-Ok-synchronised.ensures in
    let h = c.in_ok-source.ensures.job in
    record {
      rules = subst (IsSetBy c.args.self.settings) (sym h.0) sync.rules;
      bounds_are = h.2 ∙ sync.bounds;
      members_are = ap g.C.Connector.members h.3 ∙ sync.members;
      synced = synced_as (kind_by g.P.SvidPicker.picks) _ _ _ _ h.0 h.1 sync.opened.synced;
      orderly = orderly_as (kind_by g.P.SvidPicker.picks) _ _ _ _ h.0 h.1 sync.opened.orderly;
      yielded = yielded_as (kind_by g.P.SvidPicker.picks) _ _ _ _ _ h.0 h.1 sync.opened.yielded;
      clock_is = subst (GivesMoments _ _ []) (sym h.1) sync.opened.clock_is;
    }
