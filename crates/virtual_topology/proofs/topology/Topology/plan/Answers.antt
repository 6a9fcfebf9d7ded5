use Rattle.std.proofs.Common.{◌≡◌, ◌≤◌, None, length, subst}
use Rattle.virtual_topology.specs.Faults.{fault_of}
use Rattle.virtual_topology.specs.declared.plan.TopologyPlan.{TopologyPlan}
use Rattle.virtual_topology.proofs.Counted.{few_switches, few_virtuals}
use Rattle.virtual_topology.proofs.topology.Topology.plan.Goals as goal

pub returns-clause-sound : goal.returns-clause-sound
returns-clause-sound c = let Sound : TopologyPlan
    → Type 0 = λ plan. fault_of plan ≡ None in subst Sound c.self.view_is c.self.invariant.sound

pub returns-clause-switches : goal.returns-clause-switches
returns-clause-switches c =
    let Few : TopologyPlan → Type 0 = λ plan. length plan.switches ≤ 16 in
    subst Few c.self.view_is (few_switches c.self.inside.plan c.self.invariant.sound)

pub returns-clause-virtuals : goal.returns-clause-virtuals
returns-clause-virtuals c =
    let Few : TopologyPlan → Type 0 = λ plan. length plan.virtuals ≤ 16 in
    subst Few c.self.view_is (few_virtuals c.self.inside.plan c.self.invariant.sound)
