use Rattle.hyper_core.specs.contracts.machine.HyperMachine.TheImpl.{ghosts as hyper}
use Rattle.covisor_proxy.proofs.Running.{read_run}
use Rattle.covisor_proxy.proofs.laws.five_only_where_all_was_done.Goals as goal

pub returns : goal.returns
returns g c = λ clock before after answer command run e.
    read_run hyper (g.C.Clock.may clock) before after answer command run e
