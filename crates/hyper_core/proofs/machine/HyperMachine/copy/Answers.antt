use Rattle.event_composes.proofs.Meanings.{copied_means}
use Rattle.hyper_core.proofs.machine.HyperMachine.copy.Goals as goal

pub returns : goal.returns
returns c = copied_means c.args.self.now c.copy.result c.copy.ensures.plan c.copy.ensures.state
