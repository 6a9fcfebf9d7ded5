use Rattle.std.proofs.Common.{ap, map, ◌∙◌}
use Rattle.rule_ancestry.specs.Holding.{id_of}
use Rattle.made_rules.proofs.Changes.{planned}
use Rattle.made_rules.proofs.plan.plan_of.Goals as goal

pub returns : goal.returns
returns c =
    let r = c.requires in
    planned c.args.store.now c.args.lost.now c.args.made.items c.in_ok-held.held.items c.in_ok-parted.parted.gone.items
    c.in_ok-parted.parted.come.items c.in_ok-parted.parted.both.items c.in_ok-gone.gone.items r
    (c.in_ok-held.ensures r.items r.rest r.ids_are r.all) c.in_ok-parted.ensures
    (c.in_ok-gone.ensures ∙ ap (map id_of) c.deref.ensures.value)
