use Rattle.std.proofs.Common.{◌≡◌, ap, sym, ◌∙◌, Some, refl}
use Rattle.rule_ancestry.specs.InsideSlots.{at}
use Rattle.rule_ancestry.specs.Names.{names_at}
use Rattle.rule_ancestry.proofs.Slots.{got, renamed-now, there-now}
use Rattle.rule_ancestry.proofs.StoreLemmas.{fewer-links, renamed-links}
use Rattle.rule_ancestry.proofs.store.Store.shed.Goals as goal

pub exchange-requires : goal.exchange-requires
exchange-requires g c = there-now c.args.self.now c.self.inside.slab.slots c.self.view_is c.args.id c.requires.there

pub invariant_of-self : goal.invariant_of-self
invariant_of-self g c =
    renamed-links g.R.Name.Ord.cmp g.R.Filed.borne c.self.inside.slab.slots c.exchange.new.slab.slots
    c.self.inside.links c.self.inside.links c.exchange.new.links c.args.id c.exchange.result c.args.item
    c.self.invariant c.exchange.ensures.was c.exchange.ensures.item
    (fewer-links g.R.Name.Ord.cmp g.R.Filed.borne c.self.inside.slab.slots c.self.inside.links c.args.id c.args.item
    c.self.invariant
    (λ name h. ap (λ o. names_at g.R.Name.Ord.cmp g.R.Filed.borne o name)
    (got c.args.self.now c.self.inside.slab.slots c.self.view_is c.args.id (at c.self.inside.slab.slots c.args.id)
    refl) ∙ c.requires.fewer name h))
    c.exchange.ensures.links

pub returns-clause-was : goal.returns-clause-was
returns-clause-was g c =
    sym (got c.args.self.now c.self.inside.slab.slots c.self.view_is c.args.id (Some c.exchange.result)
    (sym c.exchange.ensures.was))

pub returns-clause-renamed : goal.returns-clause-renamed
returns-clause-renamed g c = renamed-now c.args.self.now c.self.inside.slab.slots c.self.view_is
    c.exchange.new.slab.slots c.args.id c.exchange.result c.args.item c.exchange.ensures.was c.exchange.ensures.item
