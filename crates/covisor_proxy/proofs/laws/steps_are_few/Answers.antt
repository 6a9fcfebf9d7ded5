use Rattle.hyper_core.specs.contracts.machine.HyperMachine.TheImpl.{ghosts as hyper}
use Rattle.covisor_proxy.proofs.Running.{counted_run}
use Rattle.covisor_proxy.proofs.laws.steps_are_few.Goals as goal

pub returns : goal.returns
returns g c = λ clock before after answer command run.
    counted_run hyper (g.C.Clock.may clock) before after answer command run
