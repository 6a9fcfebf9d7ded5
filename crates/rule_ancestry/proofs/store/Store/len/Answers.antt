use Rattle.rule_ancestry.proofs.Slots.{count-now, rising-now}
use Rattle.rule_ancestry.proofs.store.Store.len.Goals as goal

pub returns-clause-count : goal.returns-clause-count
returns-clause-count g c = count-now c.args.self.now c.self.inside.slab.slots c.self.view_is c.len.result c.len.ensures

pub returns-clause-rising : goal.returns-clause-rising
returns-clause-rising g c = rising-now c.args.self.now c.self.inside.slab.slots c.self.view_is
