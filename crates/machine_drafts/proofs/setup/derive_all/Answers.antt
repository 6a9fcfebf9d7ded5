use Rattle.std.proofs.Common.{◌∙◌, ap, map, sym}
use Rattle.policies.specs.Policies.{PolicyOf}
use Rattle.virtual_topology.specs.declared.plan.TopologyPlan.{TopologyPlan}
use Rattle.machine_drafts.proofs.Seen.{seen_all}
use Rattle.machine_meaning.specs.Lists.{places}
use Rattle.machine_drafts.specs.Setups.{is_seen, ports_of}
use Rattle.machine_meaning.specs.Ways.{switches_in}
use Rattle.machine_drafts.proofs.setup.derive_all.Goals as goal

pub derive-requires : goal.derive-requires
derive-requires c = c.in_ok-paths.ensures ∙ sym c.requires

pub returns-in-Ok : goal.returns-in-Ok
returns-in-Ok c =
    let p = c.args.policy.now in
    let plan = c.requires in
    let items = c.as_slice.ensures ∙ ap (λ (q : PolicyOf). q.members) c.policy.view_is in
    let ports = λ (t : TopologyPlan). ports_of t.virtuals in
    record {
      topology_is = plan;
      paths_are = c.in_ok-paths.ensures;
      ports_are = c.in-Ok.ensures.ports ∙ ap ports plan;
      seen_is =
          c.in-Ok.ensures.seen
          ∙ ((λ i. map (is_seen (items i)) (ports (plan i))) ∙ seen_all p);
      switches_are =
          c.in-Ok.ensures.switches ∙ ap (λ (t : TopologyPlan). map (switches_in t) (places t.virtuals)) plan;
    }
