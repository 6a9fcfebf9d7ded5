use Rattle.std.proofs.Common.{subst}
use Rattle.policies.specs.Sound.{IsSound}
use Rattle.machine_drafts.specs.Machines.{MachineOf}
use Rattle.hyper_core.proofs.hyper.Hyper.policy.Goals as goal

pub returns-clause-sound : goal.returns-clause-sound
returns-clause-sound c = subst (λ (m : MachineOf). IsSound m.plan) c.self.view_is
    (subst IsSound c.deref.ensures c.policy.ensures.sound)
