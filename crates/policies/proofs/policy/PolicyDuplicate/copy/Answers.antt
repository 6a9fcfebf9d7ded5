use Rattle.std.proofs.Common.{◌≡◌, ◌∙◌, ap, subst, sym}
use Rattle.virtual_topology.specs.declared.plan.TopologyPlan.{TopologyPlan}
use Rattle.policies.specs.Policies.{plan}
use Rattle.policies.specs.Sound.{IsSound}
use Rattle.policies.proofs.policy.PolicyDuplicate.copy.Goals as goal

pub invariant_of-result : goal.invariant_of-result
invariant_of-result c =
    let same = ap plan c.self.view_is ∙ sym c.in_ok-plan.ensures in
    subst IsSound (λ i. record {
      version = c.self.inside.version;
      hops = c.self.inside.hops;
      listen = sym c.in_ok-listen.ensures i;
      standby = sym c.in_ok-standby.ensures i;
      rounds = c.self.inside.rounds;
      switches = (same i).switches;
      cables = (same i).cables;
      virtuals = (same i).virtuals;
      links = (same i).links;
      members = sym c.in_ok-members.ensures i;
    }) c.self.invariant
