use Rattle.std.proofs.Common.{◌≡◌, ◌-◌, arith, suc, sym}
use Rattle.policy_meaning.proofs.NodeSteps.{own-fits}
use Rattle.policy_meaning.proofs.fabric.entering_rules.Goals as goal

pub switch_rules-requires-clause-size : goal.switch_rules-requires-clause-size
switch_rules-requires-clause-size c =
    let more : c.args.hops ≡ suc (c.args.hops - 1) = omega arith in
    own-fits c.args.network.now c.requires.tables c.args.hops (c.args.hops - 1) c.args.v c.in-Some.switch.now more
    (sym c.in-Some.ensures.value) c.requires.size
