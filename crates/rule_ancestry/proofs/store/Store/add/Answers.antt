use Rattle.std.proofs.Common.{◌≡◌, ◌||◌, ap, sym, ◌∙◌, subst, Some}
use Rattle.std.specs.BTreeSet.{contains}
use Rattle.rule_ancestry.specs.InsideLinks.{by_link, links_to}
use Rattle.rule_ancestry.specs.InsideSlots.{Updated}
use Rattle.rule_ancestry.proofs.StoreLemmas.{added-links, same-links, vacant-links}
use Rattle.rule_ancestry.proofs.Slots.{added-now, fresh-now, others-now}
use Rattle.rule_ancestry.proofs.store.Store.add.Goals as goal

pub attach-requires : goal.attach-requires
attach-requires g c =
    record {
      known = λ q e. vacant-links g.R.Name.Ord.cmp g.R.Filed.borne c.reserve.new.self.slots c.self.inside.links
          c.vacant_key-id.result (rw c.in_ok-reserve.ensures.rest_kept c.self.invariant) c.vacant_key-id.ensures.vacant
          q e;
    }

pub invariant_of-self-in_err-attach : goal.invariant_of-self-in_err-attach
invariant_of-self-in_err-attach g c = same-links g.R.Name.Ord.cmp g.R.Filed.borne c.reserve.new.self.slots
    c.self.inside.links c.attach.new.links (rw c.in_ok-reserve.ensures.rest_kept c.self.invariant)
    c.in_err-attach.ensures.memory

pub invariant_of-self-2 : goal.invariant_of-self-2
invariant_of-self-2 g c =
    let k : c.insert_reserved.result ≡ c.vacant_key-id.result = c.insert_reserved.ensures.key
    ∙ sym c.vacant_key-id.ensures.value in
    let u : Updated c.reserve.new.self.slots c.insert_reserved.new.self.slots c.insert_reserved.result
    (Some c.args.item) = record {
      here = c.insert_reserved.ensures.updates.changed;
      others = c.insert_reserved.ensures.updates.others;
    } in
    added-links g.R.Name.Ord.cmp g.R.Filed.borne c.reserve.new.self.slots c.insert_reserved.new.self.slots
    c.self.inside.links c.attach.new.links c.vacant_key-id.result c.args.item
    (rw c.in_ok-reserve.ensures.rest_kept c.self.invariant) c.vacant_key-id.ensures.vacant
    (subst (λ i. Updated c.reserve.new.self.slots c.insert_reserved.new.self.slots i (Some c.args.item)) k u)
    (λ q. c.in_ok-attach.ensures.linked q
    ∙ ap (λ ls. links_to g.R.Name.Ord.cmp ls c.vacant_key-id.result q || contains (by_link g.R.Name.Ord.cmp)
    c.self.inside.links q) c.names.ensures)

pub returns-clause-fresh : goal.returns-clause-fresh
returns-clause-fresh g c = fresh-now c.args.self.now c.self.inside.slab.slots c.self.view_is c.reserve.new.self.slots
    (ap (λ s. s.slots) c.in_ok-reserve.ensures.rest_kept) c.insert_reserved.result c.insert_reserved.ensures.was_vacant

pub returns-clause-added : goal.returns-clause-added
returns-clause-added g c =
    added-now c.args.self.now c.self.inside.slab.slots c.self.view_is c.reserve.new.self.slots
    (ap (λ s. s.slots) c.in_ok-reserve.ensures.rest_kept) c.insert_reserved.result
    c.insert_reserved.ensures.was_vacant
    c.insert_reserved.new.self.slots c.args.item
    (record { here = c.insert_reserved.ensures.updates.changed; others = c.insert_reserved.ensures.updates.others })

pub returns-clause-others : goal.returns-clause-others
returns-clause-others g c =
    others-now c.args.self.now c.self.inside.slab.slots c.self.view_is c.reserve.new.self.slots
    (ap (λ s. s.slots) c.in_ok-reserve.ensures.rest_kept) c.insert_reserved.result
    c.insert_reserved.ensures.was_vacant
    c.insert_reserved.new.self.slots c.args.item
    (record { here = c.insert_reserved.ensures.updates.changed; others = c.insert_reserved.ensures.updates.others })
