use Rattle.std.proofs.Common.{ap, ◌∙◌}
use Rattle.policy_meaning.specs.Networks.{entering}
use Rattle.agreement.proofs.FittingRules.{part-fits}
use Rattle.agreement.proofs.tables.add_entries_for.Goals as goal

pub placed-requires : goal.placed-requires
placed-requires c =
    let s = c.args.setting.now in
    part-fits s c.requires.fits c.args.v c.args.x.now c.requires.there c.as_slice-part-items.result.now
    c.loop-part.part-index c.part-item.result
    (c.as_slice-part-items.ensures
    ∙ (c.in_ok-entering.ensures ∙ ap (λ o. entering s.network s.hops c.args.v o) c.requires.there))
    c.loop-part-test.true c.part-item.is
