use Rattle.std.proofs.Common.{◌≡◌, ◌||◌, ◌&&◌, not, false, ap, sym, ◌∙◌, Some, None}
use Rattle.std.specs.BTreeSet.{contains}
use Rattle.rule_ancestry.specs.InsideLinks.{by_link, links_to}
use Rattle.rule_ancestry.specs.InsideSlots.{at}
use Rattle.rule_ancestry.proofs.Slots.{got, moved-now, rest-now}
use Rattle.rule_ancestry.proofs.StoreLemmas.{removed-links}
use Rattle.rule_ancestry.proofs.store.Store.remove.Goals as goal

pub returns-in_err-item-clause-item : goal.returns-in_err-item-clause-item
returns-in_err-item-clause-item g c = c.from_residual.ensures
    ∙ got c.args.self.now c.self.inside.slab.slots c.self.view_is c.args.id None c.in_err-item.ensures.value

pub returns-in_err-item-clause-others : goal.returns-in_err-item-clause-others
returns-in_err-item-clause-others g c = rest-now c.args.self.now c.self.inside.slab.slots c.self.view_is
    c.try_remove.new.self.slots c.args.id
    (record { here = c.try_remove.ensures.updates.changed; others = c.try_remove.ensures.updates.others })

pub invariant_of-self-2 : goal.invariant_of-self-2
invariant_of-self-2 g c =
    let there : at c.self.inside.slab.slots c.args.id ≡ Some c.item.inside.item = sym c.in_ok-item.ensures.value
    ∙ ap Some (sym c.item.view_is) in
    removed-links g.R.Name.Ord.cmp g.R.Filed.borne c.self.inside.slab.slots c.try_remove.new.self.slots
    c.self.inside.links c.detach.new.links c.args.id c.item.inside.item
    c.self.invariant there
    (record { here = c.try_remove.ensures.updates.changed; others = c.try_remove.ensures.updates.others })
    (λ q. c.detach.ensures q
    ∙ ap (λ ls. (not (links_to g.R.Name.Ord.cmp ls c.args.id q) || false) && contains (by_link g.R.Name.Ord.cmp)
    c.self.inside.links q) c.names.ensures)

pub returns-clause-item : goal.returns-clause-item
returns-clause-item g c = got c.args.self.now c.self.inside.slab.slots c.self.view_is c.args.id
    (Some c.item.inside.item) (ap Some c.item.view_is ∙ c.in_ok-item.ensures.value)

pub returns-clause-others : goal.returns-clause-others
returns-clause-others g c = rest-now c.args.self.now c.self.inside.slab.slots c.self.view_is c.try_remove.new.self.slots
    c.args.id (record { here = c.try_remove.ensures.updates.changed; others = c.try_remove.ensures.updates.others })

pub returns-clause-moved : goal.returns-clause-moved
returns-clause-moved g c =
    moved-now c.args.self.now c.self.inside.slab.slots c.self.view_is c.try_remove.new.self.slots c.args.id
    c.item.inside.item (ap Some c.item.view_is ∙ c.in_ok-item.ensures.value)
    (record { here = c.try_remove.ensures.updates.changed; others = c.try_remove.ensures.updates.others })
