use Rattle.std.proofs.Common.{sym}
use Rattle.rule_ancestry.proofs.Lists.{outside-none, outside-step}
use Rattle.rule_ancestry.proofs.store.Store.remove_all.Goals as goal

pub loop-id-init : goal.loop-id-init
loop-id-init g c = sym (outside-none c.args.self.now)

pub loop-id-preserved : goal.loop-id-preserved
loop-id-preserved g c = outside-step c.args.ids.now c.loop-id.id-index _ c.args.self.now c.loop-id.self
    c.remove.new.self c.loop-id-test.true c.loop-id.invariant c.remove.ensures.others
