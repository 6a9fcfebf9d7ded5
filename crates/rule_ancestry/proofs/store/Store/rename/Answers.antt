use Rattle.std.proofs.Common.{◌≡◌, ◌||◌, ap, sym, ◌∙◌, Some}
use Rattle.std.specs.BTreeSet.{contains}
use Rattle.rule_ancestry.specs.InsideLinks.{by_link, links_to}
use Rattle.rule_ancestry.proofs.Slots.{got, renamed-now, there-now}
use Rattle.rule_ancestry.proofs.StoreLemmas.{renamed-links}
use Rattle.rule_ancestry.proofs.store.Store.rename.Goals as goal

pub index-requires : goal.index-requires
index-requires g c = there-now c.args.self.now c.self.inside.slab.slots c.self.view_is c.args.id c.requires

pub invariant_of-self-2 : goal.invariant_of-self-2
invariant_of-self-2 g c =
    renamed-links g.R.Name.Ord.cmp g.R.Filed.borne c.self.inside.slab.slots c.exchange.new.slab.slots
    c.self.inside.links c.attach.new.links c.exchange.new.links c.args.id c.exchange.result c.args.item
    c.self.invariant c.exchange.ensures.was c.exchange.ensures.item
    (λ q. c.in_ok-attach.ensures.linked q
    ∙ ap (λ ls. links_to g.R.Name.Ord.cmp ls c.args.id q || contains (by_link g.R.Name.Ord.cmp) c.self.inside.links
    q) c.names.ensures) c.exchange.ensures.links

pub returns-clause-was : goal.returns-clause-was
returns-clause-was g c =
    sym (got c.args.self.now c.self.inside.slab.slots c.self.view_is c.args.id (Some c.exchange.result)
    (sym c.exchange.ensures.was))

pub returns-clause-renamed : goal.returns-clause-renamed
returns-clause-renamed g c = renamed-now c.args.self.now c.self.inside.slab.slots c.self.view_is
    c.exchange.new.slab.slots c.args.id c.exchange.result c.args.item c.exchange.ensures.was c.exchange.ensures.item
