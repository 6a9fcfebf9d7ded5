use Rattle.hyper_core.specs.contracts.machine.HyperMachine.TheImpl.{ghosts as hyper}
use Rattle.covisor_proxy.proofs.Running.{refused_run}
use Rattle.covisor_proxy.proofs.laws.three_is_refused.Goals as goal

pub returns : goal.returns
returns g c = λ clock before after answer command run e.
    refused_run hyper (g.C.Clock.may clock) before after answer command run e
