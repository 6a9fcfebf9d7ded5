use Rattle.std.proofs.Common.{refl}
use Rattle.hyper_core.specs.contracts.machine.HyperMachine.TheImpl.{ghosts as hyper}
use Rattle.policy_serving.proofs.Histories.{kept}
use Rattle.policy_serving.proofs.promises.audit_is_kept.Goals as goal

pub returns : goal.returns
returns c = kept hyper refl refl
