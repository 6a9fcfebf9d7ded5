use Rattle.hyper_core.specs.contracts.machine.HyperMachine.TheImpl.{ghosts as hyper}
use Rattle.covisor_proxy.proofs.Running.{complete_run}
use Rattle.covisor_proxy.proofs.laws.quiet_is_done.Goals as goal

pub returns : goal.returns
returns g c = λ clock before after answer command run quiet all.
    complete_run hyper (g.C.Clock.may clock) before after answer command run quiet all
