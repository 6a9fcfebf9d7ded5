-- What a policy holds.
use Rattle.std.specs.Prelude.{ℕ, List, Option}
use Rattle.virtual_topology.specs.declared.plan.PairItem.{PairItem}
use Rattle.virtual_topology.specs.declared.plan.SwitchItem.{SwitchItem}
use Rattle.virtual_topology.specs.declared.plan.TopologyPlan.{TopologyPlan}
use Rattle.virtual_topology.specs.declared.plan.VirtualItem.{VirtualItem}
use Rattle.policies.specs.declared.policy.MemberItem.{MemberItem}

-- a policy without where it lies in memory
pub record PolicyOf : Type 0 where
  pub version : ℕ
  pub hops : ℕ
  pub listen : List ℕ
  pub standby : Option (List ℕ)
  pub rounds : ℕ
  pub switches : List SwitchItem
  pub cables : List PairItem
  pub virtuals : List VirtualItem
  pub links : List PairItem
  pub members : List MemberItem

-- the plan of its topology
abbrev pub plan : PolicyOf → TopologyPlan
plan p = record { switches = p.switches; cables = p.cables; virtuals = p.virtuals; links = p.links }
