use Rattle.event_composes.proofs.Meanings.{glance_is}
use Rattle.hyper_core.proofs.machine.HyperMachine.glance.Goals as goal

pub returns : goal.returns
returns c = glance_is c.args.self.now c.args.event.now c.glance.result c.glance.ensures
