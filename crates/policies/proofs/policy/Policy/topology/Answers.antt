use Rattle.std.proofs.Common.{◌≡◌, ◌∙◌, None, ap}
use Rattle.virtual_topology.specs.declared.fault.TopologyFault.TheVariants.{Memory}
use Rattle.virtual_topology.specs.Faults.{fault_of}
use Rattle.policies.proofs.Outcomes.{only_memory}
use Rattle.policies.proofs.policy.Policy.topology.Goals as goal

pub wanted_by_topology-requires : goal.wanted_by_topology-requires
wanted_by_topology-requires c =
    let none : fault_of c.in_ok-plan.field-0 ≡ None = ap fault_of c.in_ok-plan.ensures
    ∙ c.is_sound.ensures.together.topology in
    only_memory Memory c.in-Err.fault (fault_of c.in_ok-plan.field-0) c.in-Err.ensures.fault none
